-- What was put to an output, of which some bytes may still wait.
use Rattle.std.specs.Prelude.{◌≡◌, ℕ, List, [], ◌++◌, Option}
use Rattle.mi_outside.specs.Gathered.{GatheredView, last_of}
use Rattle.mi_outside.specs.Written.{EmitsButRest, EmitsFront}

-- what was written, where it tells, and what is on its way there
pub record Output : Type 0 where
  pub written : Option (List ℕ)
  pub gathered : GatheredView

abbrev pub output_of : Option (List ℕ) → GatheredView → Output
output_of written gathered = record { written = written; gathered = gathered }

-- of these bytes all but the rest were put: behind what waited they were written, but for what waits now
pub record PutsButRest (old new : Output) (bytes rest : List ℕ) : Type 0 where
  pub written : EmitsButRest old.written new.written (old.gathered.waiting ++ bytes) (new.gathered.waiting ++ rest)
  pub last : last_of new.gathered.last rest ≡ last_of old.gathered.last bytes

-- these bytes were put
abbrev pub Puts : Output → Output → List ℕ → Type 0
Puts old new bytes = PutsButRest old new bytes []

-- a front of these bytes was put
abbrev pub PutsFront : Output → Output → List ℕ → Type 0
PutsFront old new bytes = (rest : List ℕ) × PutsButRest old new bytes rest

-- behind what waited a front of these bytes was written, and what waits now is lost
pub record WritesFront (old new : Output) (bytes : List ℕ) : Type 0 where
  pub written : EmitsFront old.written new.written (old.gathered.waiting ++ bytes)
