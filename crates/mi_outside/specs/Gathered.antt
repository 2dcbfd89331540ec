-- Bytes on their way to an output.
use Rattle.std.specs.Prelude.{List, ℕ, [], ◌∷◌, ◌++◌, Option, Result, Ok, Err}
use Rattle.mi_outside.specs.Written.{EmitsButRest, EmitsFront}

-- the bytes that wait, and the last byte that was put
pub record GatheredView : Type 0 where
  pub waiting : List ℕ
  pub last : ℕ

-- the last of these bytes, or the one before them where there is none
abbrev pub last_of : (before : ℕ) → List ℕ → ℕ
last_of before [] = before
last_of before (b ∷ bytes) = last_of b bytes

-- of the bytes that wait and this piece all but those that wait now were written; where the output failed, a front of them
abbrev pub Passes : {X E : Type 0} → Result X E → (waiting piece left : List ℕ) → Option (List ℕ) → Option (List ℕ) → Type 0
Passes (Ok x) waiting piece left old new = EmitsButRest old new (waiting ++ piece) left
Passes (Err e) waiting piece left old new = EmitsFront old new (waiting ++ piece)
