-- What a build has made, or why it has made nothing.
use Rattle.std.specs.Prelude.{ℕ, ◌≡◌, Option, None, Some, Result, Ok, Err}
use Rattle.mi_model.specs.declared.Fault.{Fault}
use Rattle.mi_model.specs.declared.Form.{Form}
use Rattle.mi_model.specs.declared.OriginByte.{OriginByte}
use Rattle.mi_model.specs.declared.Pair.{Pair}
use Rattle.mi_model.specs.Machine.{Machine}
use Rattle.mi_model.specs.Build.{BuildEnd}
use Rattle.mi_model.specs.Build.BuildEnd.{Done, Failed, Refused, EntryMissing, Spent}
use Rattle.mi_model.specs.Image.{fixed_record, loaded}
use Rattle.mi_model.specs.Explained.{UnexplainedCell, first_unexplained, image_of}
use Rattle.mi_reloc.specs.declared.building.Made.{Made}
use Rattle.mi_reloc.specs.declared.building.BuildFault.{BuildFault}
use Rattle.mi_reloc.specs.declared.building.BuildFault.TheVariants.{Thrown, Spent as OutOfTurns, Step, NoEntry, Cell, WriteFault, NoMemory}
use Rattle.mi_build.specs.Faults.{fault_of_end}

-- the build is done, with a fact on its machine, what is in use and the turns
abbrev pub IsDone : {C B : Type 0} → BuildEnd C B → (Machine C B → ℕ → ℕ → Type 0) → Type 0
IsDone (Done m used taken) P = P m used taken
IsDone (Failed f file line) P = ⊥
IsDone (Refused step) P = ⊥
IsDone EntryMissing P = ⊥
IsDone (Spent budget) P = ⊥

-- the fixed image of a build's region at its pair, whose loading there gives the region
pub record IsImageOf (made : Made) (pair : Pair) (m : Machine ℕ ℕ) (used taken : ℕ) : Type 0 where
  pub image : made.image ≡ fixed_record pair used m.bytes
  pub turns : made.turns ≡ taken
  pub loaded : loaded made.image pair ≡ m.bytes

-- the answer is that of a plain build with this end, in which no operation is refused and each cell is plain; want of memory
-- and a fault of the output say nothing
abbrev pub AnswersFixed : Result Made BuildFault → Pair → BuildEnd ℕ ℕ → Type 0
AnswersFixed (Ok made) pair end = IsDone end (IsImageOf made pair)
AnswersFixed (Err (Thrown code file line)) pair end = fault_of_end end ≡ Some (Thrown code file line)
AnswersFixed (Err (OutOfTurns turns)) pair end = fault_of_end end ≡ Some (OutOfTurns turns)
AnswersFixed (Err (Step number offset tag first second why file line)) pair end = ⊥
AnswersFixed (Err NoEntry) pair end = fault_of_end end ≡ Some NoEntry
AnswersFixed (Err (Cell offset found)) pair end = ⊥
AnswersFixed (Err WriteFault) pair end = Unit {0}
AnswersFixed (Err NoMemory) pair end = Unit {0}

-- the image of a build's region of origin bytes, each cell of which is explained
pub record IsOriginImage (made : Made) (size : ℕ) (m : Machine Form OriginByte) (used taken : ℕ) : Type 0 where
  pub explained : first_unexplained size m.bytes used ≡ None
  pub image : made.image ≡ image_of size m.bytes used
  pub turns : made.turns ≡ taken

-- the answer is that of a build over origins with this end; want of memory and a fault of the output say nothing
abbrev pub Answers : Result Made BuildFault → (size : ℕ) → BuildEnd Form OriginByte → Type 0
Answers (Ok made) size end = IsDone end (IsOriginImage made size)
Answers (Err (Thrown code file line)) size end = fault_of_end end ≡ Some (Thrown code file line)
Answers (Err (OutOfTurns turns)) size end = fault_of_end end ≡ Some (OutOfTurns turns)
Answers (Err (Step number offset tag first second why file line)) size end = fault_of_end end ≡ Some (Step number offset tag first second why file line)
Answers (Err NoEntry) size end = fault_of_end end ≡ Some NoEntry
Answers (Err (Cell offset found)) size end = IsDone end (λ m used taken. first_unexplained size m.bytes used ≡ Some (record { offset = offset; found = found }))
Answers (Err WriteFault) size end = Unit {0}
Answers (Err NoMemory) size end = Unit {0}

-- the fault is the cell that is told, or want of memory
abbrev pub CellIsTold : BuildFault → Option UnexplainedCell → Type 0
CellIsTold (Cell offset found) told = told ≡ Some (record { offset = offset; found = found })
CellIsTold NoMemory told = Unit {0}
CellIsTold (Thrown code file line) told = ⊥
CellIsTold (OutOfTurns turns) told = ⊥
CellIsTold (Step number offset tag first second why file line) told = ⊥
CellIsTold NoEntry told = ⊥
CellIsTold WriteFault told = ⊥

-- the seed was laid, with a fact on its machine
abbrev pub IsSeeded : {C B : Type 0} → Result (Unit {0} × Machine C B) Fault → (Machine C B → Type 0) → Type 0
IsSeeded (Ok r) P = P r.1
IsSeeded (Err f) P = ⊥
