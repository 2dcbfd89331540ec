-- What a build has written to its output.
use Rattle.std.specs.Prelude.{List, ℕ, Option, Result, Ok, Err}
use Rattle.mi_outside.specs.Written.{Emits, EmitsFront}
use Rattle.mi_reloc.specs.declared.building.BuildFault.{BuildFault}
use Rattle.mi_reloc.specs.declared.building.BuildFault.TheVariants.{Thrown, Spent, Step, NoEntry, Cell, WriteFault, NoMemory}

-- these bytes were written, or a front of them where the output failed or there was no memory
abbrev pub EmitsAll : {X : Type 0} → Result X BuildFault → Option (List ℕ) → Option (List ℕ) → List ℕ → Type 0
EmitsAll (Ok x) old new bytes = Emits old new bytes
EmitsAll (Err (Thrown code file line)) old new bytes = Emits old new bytes
EmitsAll (Err (Spent turns)) old new bytes = Emits old new bytes
EmitsAll (Err (Step number offset tag first second why file line)) old new bytes = Emits old new bytes
EmitsAll (Err NoEntry) old new bytes = Emits old new bytes
EmitsAll (Err (Cell offset found)) old new bytes = Emits old new bytes
EmitsAll (Err WriteFault) old new bytes = EmitsFront old new bytes
EmitsAll (Err NoMemory) old new bytes = EmitsFront old new bytes
