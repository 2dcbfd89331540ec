-- Reading a number text in the region.
use Rattle.std.specs.Prelude.{ℕ, List, Option, Result, Ok, Err}
use Rattle.mi_model.specs.declared.Fault.{Fault}
use Rattle.mi_model.specs.declared.BadBase.{BadBase}
use Rattle.mi_model.specs.Machine.{Machine}
use Rattle.mi_model.specs.Numbers.{number_text}

-- the number that a text stands for, once its bytes are read
abbrev pub number_read : {C B : Type 0} → (base : ℕ) → Result (List ℕ × Machine C B) Fault → Result (Result (Option ℕ) BadBase × Machine C B) Fault
number_read base (Ok r) = Ok (number_text base r.0, r.1)
number_read base (Err f) = Err f
