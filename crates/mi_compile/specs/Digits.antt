-- The base of digits, and what the digits that are read make of a double.
use Rattle.std.specs.Prelude.{ℕ, ◌+◌, List, Result, Ok, Err, length}
use Rattle.mi_model.specs.declared.Fault.{Fault}
use Rattle.mi_model.specs.Ops.{Ops}
use Rattle.mi_model.specs.Layout.{base_cell}
use Rattle.mi_model.specs.Machine.{◌>>=◌, ◌>>◌, asked, unless_throw, invalid_argument}
use Rattle.mi_model.specs.Numbers.{is_base}
use Rattle.mi_model.specs.Region.{fetch_at}
use Rattle.mi_model.specs.ConvertingNumbers.{extended}

-- BASE, in which digits can be written, else throw -24
abbrev pub base_in : {C B : Type 0} → Ops C B → List B → Result ℕ Fault
base_in ops bytes = do
  cell ← fetch_at ops bytes base_cell
  base ← asked (ops.number cell)
  unless_throw (is_base base) invalid_argument
  Ok base

-- the double with the digits behind it, and how many they are, with those before
abbrev pub extended_by : {M : Type 0} → (base double before : ℕ) → Result (List ℕ × M) Fault → Result ((ℕ × ℕ) × M) Fault
extended_by base double before (Ok r) = Ok ((extended base double r.0, before + length r.0), r.1)
extended_by base double before (Err e) = Err e
