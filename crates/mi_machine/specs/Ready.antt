-- A region that a finish has made ready.
use Rattle.std.specs.Prelude.{ℕ, ◌≡◌, ◌≤◌, ◌-◌, ◌%◌, List, length, drop, replicate}
use Rattle.mi_model.specs.declared.Finished.{Finished}
use Rattle.mi_model.specs.declared.Finished.TheVariants.{Ready, NoEntry}
use Rattle.mi_model.specs.Ops.{Ops}

-- what is in use ends at a whole cell of the dictionary, and all behind it is 0
pub record IsTidy {C B : Type 0} (used : ℕ) (ops : Ops C B) (bytes : List B) : Type 0 where
  pub aligned : used % 8 ≡ 0
  pub least : 4096 ≤ used
  pub most : length bytes % 8 ≡ 0 → used ≤ length bytes
  pub cleared : drop used bytes ≡ replicate (length bytes - used) (ops.byte 0)

abbrev pub IsReady : {C B : Type 0} → Finished → Ops C B → List B → Type 0
IsReady (Ready used) ops bytes = IsTidy used ops bytes
IsReady NoEntry ops bytes = Unit {0}
