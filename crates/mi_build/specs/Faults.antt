-- How a build that makes no image is answered.
use Rattle.std.specs.Prelude.{◌≡◌, Option, None, Some}
use Rattle.mi_model.specs.declared.Fault.TheVariants.{Throw, Refused as IsRefused, NoMemory as OutOfMemory}
use Rattle.mi_model.specs.Build.{Stopped, BuildEnd, RefusedStep, end_failed}
use Rattle.mi_model.specs.Build.Stopped.{Wants, Halts, Fails, RunsOut}
use Rattle.mi_model.specs.Build.BuildEnd.{Done, Failed, Refused, EntryMissing, Spent}
use Rattle.mi_reloc.specs.declared.building.BuildFault.{BuildFault}
use Rattle.mi_reloc.specs.declared.building.BuildFault.TheVariants.{Thrown, Spent as OutOfTurns, Step, NoEntry, Cell, WriteFault, NoMemory}

-- a refused operation, as it is answered
abbrev pub fault_of_step : RefusedStep → BuildFault
fault_of_step s = Step s.number s.token.offset s.token.tag s.first s.second s.why s.file s.line

-- the answer to a build that isn't done
abbrev pub fault_of_end : {C B : Type 0} → BuildEnd C B → Option BuildFault
fault_of_end (Done m used taken) = None
fault_of_end (Failed (Throw code) file line) = Some (Thrown code file line)
fault_of_end (Failed (IsRefused first second why) file line) = None
fault_of_end (Failed OutOfMemory file line) = None
fault_of_end (Refused step) = Some (fault_of_step step)
fault_of_end EntryMissing = Some NoEntry
fault_of_end (Spent budget) = Some (OutOfTurns budget)

-- the answer to a build that has stopped by a fault, or out of its budget
abbrev pub fault_of : {C B : Type 0} → Stopped C B → Option BuildFault
fault_of (Wants p) = None
fault_of (Halts p) = None
fault_of (Fails f doing p) = fault_of_end (end_failed f doing p)
fault_of (RunsOut p) = Some (OutOfTurns p.budget)

-- the fault is the one that is told; want of memory and a fault of the output say nothing of the build
abbrev pub IsTold : BuildFault → Option BuildFault → Type 0
IsTold (Thrown code file line) told = told ≡ Some (Thrown code file line)
IsTold (OutOfTurns turns) told = told ≡ Some (OutOfTurns turns)
IsTold (Step number offset tag first second why file line) told = told ≡ Some (Step number offset tag first second why file line)
IsTold NoEntry told = told ≡ Some NoEntry
IsTold (Cell offset found) told = ⊥
IsTold WriteFault told = Unit {0}
IsTold NoMemory told = Unit {0}
