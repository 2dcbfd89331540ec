-- Bytes as characters.
use Rattle.std.specs.Prelude.{ℕ, ◌-◌, Bool, cond, ◌&&◌, nat_le}

-- bytes up to 32 are blanks
abbrev pub is_blank : ℕ → Bool
is_blank c = nat_le c 32

-- is the byte one of this range
abbrev pub is_in : (first last : ℕ) → ℕ → Bool
is_in first last c = nat_le first c && nat_le c last

-- a letter in upper case
abbrev pub folded : ℕ → ℕ
folded c = cond (is_in 97 122 c) (c - 32) c
