-- What a machine is after a throw, once it begins anew.
use Rattle.std.proofs.Common.{◌≡◌, [], None, Some, refl}
use Rattle.std.specs.Prelude.{Option}
use Rattle.mi_model.specs.declared.Wait.TheVariants.{Idle}
use Rattle.mi_model.specs.Ops.{Ops}
use Rattle.mi_model.specs.Machine.{Machine}
use Rattle.mi_model.specs.Outcome.{outcome_of}
use Rattle.mi_model.specs.Sources.{restart}
use Rattle.mi_model.specs.Recovery.{recover}

recovered_by : {C B : Type 0} (ops : Ops C B) (m : Machine C B) (due : Option C)
    → outcome_of ops recover (record m { due = due }) [] ≡ outcome_of ops restart (record m { stack = []; rstack = []; due = None; wait = Idle }) []
unfolding recover restart
recovered_by ops m None = refl
recovered_by ops m (Some c) = refl

-- a due token is dropped where there is one
pub recovered : {C B : Type 0} (ops : Ops C B) (m : Machine C B)
    → outcome_of ops recover m [] ≡ outcome_of ops restart (record m { stack = []; rstack = []; due = None; wait = Idle }) []
recovered ops m = recovered_by ops m m.due
