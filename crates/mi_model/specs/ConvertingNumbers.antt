-- The action of the word that converts digits.
use Rattle.std.specs.Prelude.{ℕ, ◌+◌, ◌-◌, ◌*◌, ◌/◌, ◌%◌, ◌^◌, zero, suc, List, [], ◌∷◌, ◌++◌, length, Option, None, Some}
use Rattle.mi_model.specs.Layout.{base_cell}
use Rattle.mi_model.specs.Numbers.{digit_in, is_base}
use Rattle.mi_model.specs.Plain.{double}
use Rattle.mi_model.specs.Machine.{invalid_argument}
use Rattle.mi_model.specs.Action.{Action, Piece, ◌>>=◌, ◌>>◌, action_by, give, call, part_of, tail}
use Rattle.mi_model.specs.Action.AnswerKind.{Effects, Texts}
use Rattle.mi_model.specs.Action.Operand.{At, Plain}
use Rattle.mi_model.specs.Parts.{require, four_in, drop, push, name, number, range, fetch_byte_at, ◌add◌}

-- the digits before, with this one behind them, and the rest; or the digits before alone, where this is none
abbrev pub digit_or_end : Option ℕ → (before : List ℕ) → (List ℕ → Action Texts) → Piece Texts (List ℕ)
digit_or_end None before rest = give before
digit_or_end (Some d) before rest = tail (rest (before ++ d ∷ []))

-- the byte at an offset, as a digit behind those that were read before, and the rest
abbrev pub read_digit : (base o : ℕ) (before : List ℕ) → (List ℕ → Action Texts) → Action Texts
read_digit base o before rest = part_of do
  c ← fetch_byte_at o
  digit_or_end (digit_in base c) before rest

-- the values of the digits that were read before, and of those among so many bytes from an offset on, up to the first
-- that is no digit
abbrev pub read_digits : (base left o : ℕ) (before : List ℕ) → Action Texts
read_digits base zero o before = part_of (give before)
read_digits base (suc left) o before = read_digit base o before (λ digits. read_digits base left (o + 1) digits)

-- a double with these digits behind it, modulo 2^128: each makes it the base times it plus the digit
abbrev pub extended : (base n : ℕ) → List ℕ → ℕ
extended base n [] = n
extended base n (d ∷ ds) = extended base ((base * n + d) % 2 ^ 128) ds

-- >NUMBER ( low high a u -- low high a u ): the double with the digits at the front of the text behind it, and the rest
-- of the text
abbrev pub do_to_number : Action Effects
do_to_number = action_by do
  (low, high, a, u) ← four_in 4 0
  l ← number low
  h ← number high
  n ← number u
  o ← range n a
  base ← number (At base_cell)
  require (is_base base) invalid_argument
  digits ← call (read_digits base n o []) []
  rest ← name (a add Plain (length digits))
  drop 4
  push (Plain (extended base (double l h) digits % 2 ^ 64))
  push (Plain (extended base (double l h) digits / 2 ^ 64))
  push rest
  push (Plain (n - length digits))
