-- What a reader of number texts has read.
use Rattle.std.specs.Prelude.{ℕ, ◌-◌, ◌^◌, ◌≡◌, Bool, true, false, cond, List, ◌∷◌, ◌++◌, Option, None, Result, Ok, Err}
use Rattle.mi_model.specs.declared.BadBase.{BadBase}
use Rattle.mi_model.specs.Numbers.{at_most, continued, magnitude_of, negated, signed_number, is_base, number_text}
use Rattle.mi_text.specs.declared.number.NumberReader.{NumberReader}
use Rattle.mi_text.specs.declared.number.Progress.{Progress}
use Rattle.mi_text.specs.declared.number.Progress.TheVariants.{Empty, Prefixed, Signed, Digits, Quote, Quoted, Character, NoNumber}

-- the answer of this number, or of none; the base must be one in either case
abbrev pub in_base : (base : ℕ) → Option ℕ → Result (Option ℕ) BadBase
in_base base number = cond (is_base base) (Ok number) (Err (record {}))

-- the number of a magnitude behind a minus sign or none: down to -2^63, or at most 2^64 - 1
abbrev pub with_sign : (negative : Bool) → Option ℕ → Option ℕ
with_sign true magnitude = negated (at_most (2 ^ 63) magnitude)
with_sign false magnitude = at_most (2 ^ 64 - 1) magnitude

-- the answer of a text that has been read so far, and of which this rest follows
abbrev pub answer_at : Progress → (base : ℕ) → List ℕ → Result (Option ℕ) BadBase
answer_at Empty base rest = number_text base rest
answer_at Prefixed base rest = in_base base (signed_number base rest)
answer_at Signed base rest = in_base base (with_sign true (magnitude_of base rest))
answer_at (Digits negative magnitude) base rest = in_base base (with_sign negative (continued base magnitude rest))
answer_at Quote base rest = number_text base (39 ∷ rest)
answer_at (Quoted c) base rest = number_text base (39 ∷ (c ∷ rest))
answer_at (Character c) base rest = number_text base (39 ∷ (c ∷ (39 ∷ rest)))
answer_at NoNumber base rest = in_base base None

-- the answer of the whole text where this rest follows what the reader has read
abbrev pub answer_with : NumberReader → List ℕ → Result (Option ℕ) BadBase
answer_with r rest = answer_at r.progress r.base rest

-- the reader has read this text: whatever follows, its answer is that of the whole text
abbrev pub Reads : NumberReader → (base : ℕ) → List ℕ → Type 0
Reads r base text = (rest : List ℕ) → answer_with r rest ≡ number_text base (text ++ rest)
