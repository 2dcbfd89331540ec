-- What the instructions compute with cells.
use Rattle.std.specs.Prelude.{◌-◌, ◌^◌, Result}
use Rattle.mi_model.specs.declared.Fault.{Fault}
use Rattle.mi_model.specs.Ops.{Ops}
use Rattle.mi_model.specs.Ops.Two.{Add, And}
use Rattle.mi_model.specs.Machine.{◌>>=◌, asked}

-- the next multiple of 8
abbrev pub aligned_up : {C B : Type 0} → Ops C B → C → Result C Fault
aligned_up ops x = do
  above ← asked (ops.two Add x (ops.plain 7))
  asked (ops.two And above (ops.plain (2 ^ 64 - 8)))
