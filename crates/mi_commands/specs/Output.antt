-- What the program writes to its output.
use Rattle.std.specs.Prelude.{ℕ, ◌-◌, ◌≡◌, ◌⊎◌, Bool, if◌then◌else◌, ◌==◌, List, [], ◌∷◌, ◌++◌, length, get_or, Option}
use Rattle.mi_outside.specs.Telling.{IfStillTold}
use Rattle.mi_outside.specs.Written.{AddsButRest, Emits}

-- are the bytes whole lines: none, or the last is a line feed
unfoldable pub is_in_lines : List ℕ → Bool
is_in_lines bytes = get_or bytes (length bytes - 1) 10 == 10

-- the bytes in whole lines: with a line feed behind them where their last line has none
unfoldable pub in_lines : List ℕ → List ℕ
in_lines bytes = if is_in_lines bytes then bytes else bytes ++ 10 ∷ []

-- what is emitted, in whole lines where a report follows, and the report
abbrev pub with_report : (emitted report : List ℕ) → List ℕ
with_report emitted [] = emitted
with_report emitted (c ∷ cs) = in_lines emitted ++ c ∷ cs

-- a front of these bytes was added, and then at most one line feed
pub record AddsFrontAndLine (bytes before now : List ℕ) : Type 0 where
  pub between : List ℕ
  pub left : List ℕ
  pub front : AddsButRest bytes left before between
  pub line : (now ≡ between) ⊎ (now ≡ between ++ 10 ∷ [])

-- the same, and then a front of the report of what was answered
pub record AddsLines (meant report before now : List ℕ) : Type 0 where
  pub between : List ℕ
  pub untold : List ℕ
  pub first : AddsFrontAndLine meant before between
  pub second : AddsButRest report untold between now

-- the same where the output tells
abbrev pub WritesFronts : Option (List ℕ) → Option (List ℕ) → (meant report : List ℕ) → Type 0
WritesFronts old new meant report = IfStillTold old new (AddsLines meant report)

-- nothing was written, or one line feed
abbrev pub MayAddLine : Option (List ℕ) → Option (List ℕ) → Type 0
MayAddLine old new = Emits old new [] ⊎ Emits old new (10 ∷ [])

-- exactly these bytes were written, and then at most one line feed
abbrev pub EmitsAndLine : Option (List ℕ) → Option (List ℕ) → List ℕ → Type 0
EmitsAndLine old new bytes = Emits old new bytes ⊎ Emits old new (bytes ++ 10 ∷ [])
