-- Number texts.
use Rattle.std.specs.Prelude.{ℕ, ◌+◌, ◌-◌, ◌*◌, ◌^◌, Bool, cond, ◌&&◌, ◌==◌, nat_le, List, [], ◌∷◌, Option, None, Some, Result, Ok, Err}
use Rattle.mi_model.specs.declared.BadBase.{BadBase}
use Rattle.mi_model.specs.Characters.{is_in, folded}
use Rattle.mi_model.specs.Plain.{less_by}

-- the value of a character as a digit: 0 to 9, and the letters, folded, from 10 on
abbrev pub digit_value : ℕ → Option ℕ
digit_value c = cond (is_in 48 57 c) (Some (c - 48)) (cond (is_in 65 90 (folded c)) (Some (folded c - 55)) None)

-- the value, where it is at most this limit
abbrev pub at_most : (limit : ℕ) → Option ℕ → Option ℕ
at_most limit None = None
at_most limit (Some n) = cond (nat_le n limit) (Some n) None

-- the value of a digit in a base
abbrev pub digit_in : (base c : ℕ) → Option ℕ
digit_in base c = at_most (base - 1) (digit_value c)

-- what a digit leads to; a character that is none leads nowhere
abbrev pub after_digit : Option ℕ → (ℕ → Option ℕ) → Option ℕ
after_digit None rest = None
after_digit (Some d) rest = rest d

-- the number n with these digits behind it: each makes it the base times it plus the digit
abbrev pub continued : (base n : ℕ) → List ℕ → Option ℕ
continued base n [] = Some n
continued base n (c ∷ cs) = after_digit (digit_in base c) (λ d. continued base (base * n + d) cs)

-- the number of these digits, of which there is at least one
abbrev pub magnitude_of : (base : ℕ) → List ℕ → Option ℕ
magnitude_of base [] = None
magnitude_of base (c ∷ cs) = continued base 0 (c ∷ cs)

-- a number turned around
abbrev pub negated : Option ℕ → Option ℕ
negated None = None
negated (Some n) = Some (less_by 0 n)

-- the number of an optional minus sign and digits: at most 2^64 - 1, or down to -2^63
abbrev pub signed_number : (base : ℕ) → List ℕ → Option ℕ
signed_number base [] = None
signed_number base (c ∷ cs) = cond (c == 45) (negated (at_most (2 ^ 63) (magnitude_of base cs))) (at_most (2 ^ 64 - 1) (magnitude_of base (c ∷ cs)))

-- can digits be written in this base
abbrev pub is_base : ℕ → Bool
is_base base = is_in 2 36 base

-- the signed number of a text in BASE, which must be a base whether or not the text is a number
abbrev pub number_in_base : (base : ℕ) → List ℕ → Result (Option ℕ) BadBase
number_in_base base text = cond (is_base base) (Ok (signed_number base text)) (Err (record {}))

-- the signed number behind # for decimal, $ for hexadecimal and % for binary numbers, or else that of the text in BASE
abbrev pub prefixed_number : (base : ℕ) → List ℕ → Result (Option ℕ) BadBase
prefixed_number base [] = number_in_base base []
prefixed_number base (c ∷ cs) =
    cond (c == 35) (Ok (signed_number 10 cs)) (
    cond (c == 36) (Ok (signed_number 16 cs)) (
    cond (c == 37) (Ok (signed_number 2 cs)) (
    number_in_base base (c ∷ cs))))

-- the character between two apostrophes
abbrev pub character_of : List ℕ → Option ℕ
character_of [] = None
character_of (a ∷ []) = None
character_of (a ∷ (c ∷ [])) = None
character_of (a ∷ (c ∷ (b ∷ []))) = cond (a == 39 && b == 39) (Some c) None
character_of (a ∷ (c ∷ (b ∷ (d ∷ rest)))) = None

-- the character's code, where there is one, or else the number
abbrev pub character_or : Option ℕ → Result (Option ℕ) BadBase → Result (Option ℕ) BadBase
character_or None number = number
character_or (Some c) number = Ok (Some c)

-- the number that a text stands for, below 2^64, or none; the base is that of BASE
abbrev pub number_text : (base : ℕ) → List ℕ → Result (Option ℕ) BadBase
number_text base text = character_or (character_of text) (prefixed_number base text)
