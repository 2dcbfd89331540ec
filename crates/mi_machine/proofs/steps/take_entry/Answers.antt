use Rattle.std.proofs.Common.{◌≡◌, ◌∙◌, ap, sym, subst, Bool, [], Ok}
use Rattle.std.specs.Option.{is_some}
use Rattle.mi_model.specs.Run.{start_entry}
use Rattle.mi_model.specs.Outcome.{outcome_of}
use Rattle.mi_machine.specs.Steps.{ops_of}
use Rattle.mi_machine.proofs.StartLemmas.{StartedBy, started_by, start_is_told}
use Rattle.mi_machine.proofs.steps.take_entry.Goals as goal

pub unreachable-requires : goal.unreachable-requires
unreachable-requires c =
    let old = c.args.machine.now.state in
    let told = outcome_of (ops_of old.arith) start_entry old.machine [] in
    let by : StartedBy c.start_entry.result old c.start_entry.new.self told = started_by _ _ _ _ _ (start_is_told old.arith.pair old.arith.size old.machine c.requires.fresh) c.start_entry.ensures.given in
    subst (λ (r : _). StartedBy r old c.start_entry.new.self told) c.in-Err.is by

pub returns-clause-told : goal.returns-clause-told
returns-clause-told c =
    let old = c.args.machine.now.state in
    let new = c.start_entry.new.self in
    let told = outcome_of (ops_of old.arith) start_entry old.machine [] in
    let by : StartedBy c.start_entry.result old new told = started_by _ _ _ _ _ (start_is_told old.arith.pair old.arith.size old.machine c.requires.fresh) c.start_entry.ensures.given in
    let due : c.is_some.result ≡ is_some new.state.machine.due = c.is_some.ensures ∙ ap is_some (c.due.ensures ∙ ap (λ (s : _). s.machine.due) c.state.ensures) in
    (subst (λ (r : _). StartedBy r old new told) c.in-Ok.is by).0 ∙ ap (λ (b : Bool). Ok (b, new.state.machine)) (sym due)
