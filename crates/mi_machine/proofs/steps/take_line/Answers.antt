use Rattle.std.proofs.Common.{◌∙◌, sym, subst, [], None}
use Rattle.mi_model.specs.Input.{give_line}
use Rattle.mi_model.specs.Outcome.{outcome_of}
use Rattle.mi_model.proofs.Answered.{plain_throws_only}
use Rattle.mi_machine.specs.Steps.{ops_of}
use Rattle.mi_machine.proofs.StepLemmas.{CalledBy, lined_by, throws_alone}
use Rattle.mi_machine.proofs.steps.take_line.Goals as goal

pub unreachable-requires : goal.unreachable-requires
unreachable-requires c =
    let old = c.args.machine.now.state in
    let told = outcome_of (ops_of old.arith) (give_line c.args.line.now) old.machine [] in
    let by : CalledBy c.give_line.result old c.give_line.new.self None told = lined_by _ _ _ _ _ (plain_throws_only old.arith.pair old.arith.size (give_line c.args.line.now) old.machine []) c.give_line.ensures.given in
    throws_alone _ old c.give_line.new.self None told (subst (λ (r : _). CalledBy r old c.give_line.new.self None told) c.in-Err.is by) (sym c.thrown_code.ensures ∙ c.in-None.is)
