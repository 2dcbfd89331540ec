use Rattle.std.proofs.Common.{subst, [], None}
use Rattle.mi_model.specs.Recovery.{recover}
use Rattle.mi_model.specs.Outcome.{outcome_of}
use Rattle.mi_model.proofs.Answered.{plain_throws_only}
use Rattle.mi_machine.specs.Steps.{ops_of}
use Rattle.mi_machine.proofs.StepLemmas.{CalledBy, lined_by}
use Rattle.mi_machine.proofs.StartLemmas.{recovery_is_told, gives_alone}
use Rattle.mi_machine.proofs.steps.take_recovery.Goals as goal

pub unreachable-requires : goal.unreachable-requires
unreachable-requires c =
    let old = c.args.machine.now.state in
    let told = outcome_of (ops_of old.arith) recover old.machine [] in
    let by : CalledBy c.recover.result old c.recover.new.self None told = lined_by _ _ _ _ _ (plain_throws_only old.arith.pair old.arith.size recover old.machine []) c.recover.ensures.given in
    let gives = recovery_is_told old.arith.pair old.arith.size old.machine in
    gives_alone _ old c.recover.new.self None told _ (subst (λ (r : _). CalledBy r old c.recover.new.self None told) c.in-Err.is by) gives.1
