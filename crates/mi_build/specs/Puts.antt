-- What a build has put to its output, of which some bytes may still wait.
use Rattle.std.specs.Prelude.{◌≡◌, Bool, true, false, List, ℕ, [], ◌++◌, Option, None, Some, Result, Ok, Err}
use Rattle.mi_outside.specs.Gathered.{GatheredView, last_of}
use Rattle.mi_outside.specs.Written.{EmitsButRest, EmitsFront}
use Rattle.mi_reloc.specs.declared.building.BuildFault.{BuildFault}
use Rattle.mi_reloc.specs.declared.building.BuildFault.TheVariants.{Thrown, Spent, Step, NoEntry, Cell, WriteFault, NoMemory}

-- what was written, where it tells, and what is on its way there
pub record Output : Type 0 where
  pub written : Option (List ℕ)
  pub gathered : GatheredView

abbrev pub output_of : Option (List ℕ) → GatheredView → Output
output_of written gathered = record { written = written; gathered = gathered }

-- of these bytes all but the rest were put: behind what waited they were written, but for what waits now
unfoldable pub PutsButRest : (old new : Output) (bytes rest : List ℕ) → Type 0
PutsButRest old new bytes rest = EmitsButRest old.written new.written (old.gathered.waiting ++ bytes) (new.gathered.waiting ++ rest) × (last_of new.gathered.last rest ≡ last_of old.gathered.last bytes)

-- these bytes were put
abbrev pub Puts : Output → Output → List ℕ → Type 0
Puts old new bytes = PutsButRest old new bytes []

-- a front of these bytes was put
unfoldable pub PutsFront : Output → Output → List ℕ → Type 0
PutsFront old new bytes = (rest : List ℕ) × PutsButRest old new bytes rest

-- behind what waited a front of these bytes was written, and what waits now is lost
unfoldable pub WritesFront : (old new : Output) (bytes : List ℕ) → Type 0
WritesFront old new bytes = EmitsFront old.written new.written (old.gathered.waiting ++ bytes)

-- these bytes were put; where there was no memory a front of them, and where the output failed a front was written
abbrev pub PutsAll : {X : Type 0} → Result X BuildFault → Output → Output → List ℕ → Type 0
PutsAll (Ok x) old new bytes = Puts old new bytes
PutsAll (Err (Thrown code file line)) old new bytes = Puts old new bytes
PutsAll (Err (Spent turns)) old new bytes = Puts old new bytes
PutsAll (Err (Step number offset tag first second why file line)) old new bytes = Puts old new bytes
PutsAll (Err NoEntry) old new bytes = Puts old new bytes
PutsAll (Err (Cell offset found)) old new bytes = Puts old new bytes
PutsAll (Err WriteFault) old new bytes = WritesFront old new bytes
PutsAll (Err NoMemory) old new bytes = PutsFront old new bytes

-- the same where the build may go on, and the rest is still to be put
abbrev pub PutsOn : {X : Type 0} → Result (Option X) BuildFault → Output → Output → (bytes rest : List ℕ) → Type 0
PutsOn (Ok None) old new bytes rest = PutsButRest old new bytes rest
PutsOn (Ok (Some x)) old new bytes rest = Puts old new bytes
PutsOn {X} (Err e) old new bytes rest = PutsAll {X = X} (Err e) old new bytes

-- where these bytes were written, the last of them is known
abbrev pub KeepsLast : {X : Type 0} → Result X BuildFault → (old new : ℕ) → (bytes : List ℕ) → Type 0
KeepsLast (Ok x) old new bytes = new ≡ last_of old bytes
KeepsLast (Err (Thrown code file line)) old new bytes = new ≡ last_of old bytes
KeepsLast (Err (Spent turns)) old new bytes = new ≡ last_of old bytes
KeepsLast (Err (Step number offset tag first second why file line)) old new bytes = new ≡ last_of old bytes
KeepsLast (Err NoEntry) old new bytes = new ≡ last_of old bytes
KeepsLast (Err (Cell offset found)) old new bytes = new ≡ last_of old bytes
KeepsLast (Err WriteFault) old new bytes = Unit {0}
KeepsLast (Err NoMemory) old new bytes = Unit {0}

-- nothing waits, unless the output failed
abbrev pub NoneWaits : {X : Type 0} → Result X BuildFault → (waiting : List ℕ) → Type 0
NoneWaits (Ok x) waiting = waiting ≡ []
NoneWaits (Err (Thrown code file line)) waiting = waiting ≡ []
NoneWaits (Err (Spent turns)) waiting = waiting ≡ []
NoneWaits (Err (Step number offset tag first second why file line)) waiting = waiting ≡ []
NoneWaits (Err NoEntry) waiting = waiting ≡ []
NoneWaits (Err (Cell offset found)) waiting = waiting ≡ []
NoneWaits (Err WriteFault) waiting = Unit {0}
NoneWaits (Err NoMemory) waiting = waiting ≡ []

-- is this the fault of the output
abbrev pub is_write_fault : BuildFault → Bool
is_write_fault (Thrown code file line) = false
is_write_fault (Spent turns) = false
is_write_fault (Step number offset tag first second why file line) = false
is_write_fault NoEntry = false
is_write_fault (Cell offset found) = false
is_write_fault WriteFault = true
is_write_fault NoMemory = false
