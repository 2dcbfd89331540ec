-- The numbers of the command line.
use Rattle.std.specs.Prelude.{ℕ, ◌-◌, ◌^◌, ◌%◌, Bool, ◌&&◌, ◌==◌, cond, nat_le, List, take, drop, length, Option, None, Some, codes, bytes_eq}
use Rattle.mi_model.specs.Numbers.{magnitude_of, at_most}

-- what stands behind a prefix, where the text begins with it
abbrev pub behind : (prefix text : List ℕ) → Option (List ℕ)
behind prefix text = cond (bytes_eq (take (length prefix) text) prefix) (Some (drop (length prefix) text)) None

-- hexadecimal digits where they stand behind 0x, and else decimal digits
abbrev pub magnitude_or : (text : List ℕ) → Option (List ℕ) → Option ℕ
magnitude_or text None = magnitude_of 10 text
magnitude_or text (Some digits) = magnitude_of 16 digits

-- the number that a word spells, which is below 2^64
abbrev pub number_of : List ℕ → Option ℕ
number_of text = at_most (2 ^ 64 - 1) (magnitude_or text (behind (codes "0x") text))

-- a number that passes a test
abbrev pub passing : (ℕ → Bool) → Option ℕ → Option ℕ
passing test None = None
passing test (Some n) = cond (test n) (Some n) None

-- the size of a region: a multiple of 4096 from 65,536 to 8,388,608
abbrev pub is_size : ℕ → Bool
is_size n = n % 4096 == 0 && (nat_le 65536 n && nat_le n 8388608)

-- a budget of instructions: from 1 to 2^40
abbrev pub is_turns : ℕ → Bool
is_turns n = nat_le 1 n && nat_le n (2 ^ 40)
