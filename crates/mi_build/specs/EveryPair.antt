-- What the answer of a build over origins says of the fresh plain build at a base pair.
use Rattle.std.specs.Prelude.{ℕ, ◌≡◌, ◌++◌, List, Result, Ok, Err}
use Rattle.mi_model.specs.declared.Fault.TheVariants.{Throw}
use Rattle.mi_model.specs.declared.Found.TheVariants.{Form as AForm, Mixed}
use Rattle.mi_model.specs.declared.Pair.{Pair}
use Rattle.mi_model.specs.Forms.{value_at}
use Rattle.mi_model.specs.Build.{Build, BuildEnd}
use Rattle.mi_model.specs.Build.BuildEnd.{Failed, EntryMissing, Spent}
use Rattle.mi_model.specs.Image.{loaded}
use Rattle.mi_reloc.specs.Cells.{cell_from}
use Rattle.mi_reloc.specs.declared.building.Made.{Made}
use Rattle.mi_reloc.specs.declared.building.BuildFault.{BuildFault}
use Rattle.mi_reloc.specs.declared.building.BuildFault.TheVariants.{Thrown, Spent as OutOfTurns, Step, NoEntry, Cell, WriteFault, NoMemory}
use Rattle.mi_build.specs.Made.{IsDone}

-- the fresh build is done with what loading the image at the pair gives, byte for byte; what is in use and the turns are
-- those of the image
abbrev pub ServesAt : Made → Pair → BuildEnd ℕ ℕ → Type 0
ServesAt made pair end = IsDone end (λ m used taken. (loaded made.image pair ≡ m.bytes) × (used ≡ made.image.used) × (taken ≡ made.turns))

-- these bytes are the first of what a build emits
abbrev pub EmitsFirst : List ℕ → Build ℕ ℕ → Type 0
EmitsFirst bytes build = (rest : List ℕ) × (build.output ≡ bytes ++ rest)

-- The fresh build ends as is answered, and emits what the build over origins did. Where an operation was refused, that is
-- the first of what it emits; where a cell was, the fresh build has the value of the form there.
abbrev pub EndsAt : Result Made BuildFault → (output : List ℕ) → Pair → Build ℕ ℕ → Type 0
EndsAt (Ok made) output pair build = ServesAt made pair build.end × (build.output ≡ output)
EndsAt (Err (Thrown code file line)) output pair build = (build.end ≡ Failed (Throw code) file line) × (build.output ≡ output)
EndsAt (Err (OutOfTurns turns)) output pair build = (build.end ≡ Spent turns) × (build.output ≡ output)
EndsAt (Err NoEntry) output pair build = (build.end ≡ EntryMissing) × (build.output ≡ output)
EndsAt (Err (Step number offset tag first second why file line)) output pair build = EmitsFirst output build
EndsAt (Err (Cell offset (AForm x))) output pair build = IsDone build.end (λ m used taken. cell_from m.bytes offset ≡ value_at x pair) × (build.output ≡ output)
EndsAt (Err (Cell offset Mixed)) output pair build = IsDone build.end (λ m used taken. Unit {0}) × (build.output ≡ output)
EndsAt (Err WriteFault) output pair build = Unit {0}
EndsAt (Err NoMemory) output pair build = Unit {0}
