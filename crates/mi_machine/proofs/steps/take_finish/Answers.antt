use Rattle.std.proofs.Common.{◌∙◌, sym, subst, [], Some}
use Rattle.std.specs.Option.{option_copied}
use Rattle.mi_model.specs.Finish.{finish}
use Rattle.mi_model.specs.Outcome.{outcome_of}
use Rattle.mi_model.proofs.Answered.{plain_throws_only}
use Rattle.mi_machine.specs.declared.machine.Stop.TheVariants.{Halted}
use Rattle.mi_machine.specs.Steps.{ops_of}
use Rattle.mi_machine.proofs.StepLemmas.{CalledBy, finished_by, throws_alone}
use Rattle.mi_machine.proofs.steps.take_finish.Goals as goal

pub unreachable-requires : goal.unreachable-requires
unreachable-requires c =
    let old = c.args.machine.now.state in
    let told = outcome_of (ops_of old.arith) (finish (option_copied c.args.entry)) old.machine [] in
    let by : CalledBy c.finish.result old c.finish.new.self (Some Halted) told = finished_by _ _ _ _ _ (plain_throws_only old.arith.pair old.arith.size (finish (option_copied c.args.entry)) old.machine []) c.finish.ensures.given in
    throws_alone _ old c.finish.new.self (Some Halted) told (subst (λ (r : _). CalledBy r old c.finish.new.self (Some Halted) told) c.in-Err.is by) (sym c.thrown_code.ensures ∙ c.in-None.is)
