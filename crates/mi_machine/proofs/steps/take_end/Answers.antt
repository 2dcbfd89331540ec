use Rattle.std.proofs.Common.{◌∙◌, ap, subst, [], Err}
use Rattle.mi_model.specs.Input.{give_end}
use Rattle.mi_model.specs.Outcome.{outcome_of}
use Rattle.mi_model.proofs.Answered.{plain_throws_only}
use Rattle.mi_machine.specs.Steps.{ops_of}
use Rattle.mi_machine.proofs.StepLemmas.{TookBy, took_by}
use Rattle.mi_machine.proofs.steps.take_end.Goals as goal

pub unreachable-requires : goal.unreachable-requires
unreachable-requires c =
    let old = c.args.machine.now.state in
    let told = outcome_of (ops_of old.arith) give_end old.machine [] in
    let by : TookBy c.give_end.result old c.give_end.new.self told = took_by _ _ _ _ _ (plain_throws_only old.arith.pair old.arith.size give_end old.machine []) c.give_end.ensures.given in
    subst (λ (r : _). TookBy r old c.give_end.new.self told) (c.in-Err-Refused.is ∙ ap (λ (s : _). Err s) c.in-Err-Refused.field-0-is) by

pub unreachable-requires-in-Err-NoMemory : goal.unreachable-requires-in-Err-NoMemory
unreachable-requires-in-Err-NoMemory c =
    let old = c.args.machine.now.state in
    let told = outcome_of (ops_of old.arith) give_end old.machine [] in
    let by : TookBy c.give_end.result old c.give_end.new.self told = took_by _ _ _ _ _ (plain_throws_only old.arith.pair old.arith.size give_end old.machine []) c.give_end.ensures.given in
    subst (λ (r : _). TookBy r old c.give_end.new.self told) (c.in-Err-NoMemory.is ∙ ap (λ (s : _). Err s) c.in-Err-NoMemory.field-0-is) by
