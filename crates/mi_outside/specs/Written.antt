-- What was written to an output that tells.
use Rattle.std.specs.Prelude.{◌≡◌, List, ℕ, ◌++◌, Option}
use Rattle.mi_outside.specs.Telling.{IfStillTold}

-- of these bytes all but the rest were added
pub record AddsButRest (bytes rest before now : List ℕ) : Type 0 where
  pub written : List ℕ
  pub added : now ≡ before ++ written
  pub whole : written ++ rest ≡ bytes

-- these bytes were written
abbrev pub Emits : Option (List ℕ) → Option (List ℕ) → List ℕ → Type 0
Emits old new bytes = IfStillTold old new (λ before now. now ≡ before ++ bytes)

-- of these bytes all but the rest were written
abbrev pub EmitsButRest : Option (List ℕ) → Option (List ℕ) → (bytes rest : List ℕ) → Type 0
EmitsButRest old new bytes rest = IfStillTold old new (λ before now. AddsButRest bytes rest before now)

-- a front of these bytes was written
abbrev pub EmitsFront : Option (List ℕ) → Option (List ℕ) → List ℕ → Type 0
EmitsFront old new bytes = IfStillTold old new (λ before now. (rest : List ℕ) × AddsButRest bytes rest before now)
