-- What files, input and output tell at one time.
use Rattle.std.specs.Prelude.{ℕ, List, Option}
use Rattle.mi_outside.specs.Holding.{Holding}

-- what the files hold, what is left of the input and what was written, each where that is told, and their counts of faults
pub record Outside : Type 0 where
  pub held : Option Holding
  pub file_faults : ℕ
  pub left : Option (List ℕ)
  pub input_faults : ℕ
  pub written : Option (List ℕ)
  pub output_faults : ℕ

abbrev pub outside_of : (held : Option Holding) → (file_faults : ℕ) → (left : Option (List ℕ)) → (input_faults : ℕ) → (written : Option (List ℕ)) → (output_faults : ℕ) → Outside
outside_of held file_faults left input_faults written output_faults =
    record { held = held; file_faults = file_faults; left = left; input_faults = input_faults; written = written; output_faults = output_faults }
