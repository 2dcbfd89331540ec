use Rattle.std.proofs.Common.{[], Err, inl, refl, ap, ◌∙◌}
use Rattle.std.proofs.lemmas.Result.{err_from_is_err_and}
use Rattle.mi_model.specs.Action.{action_by}
use Rattle.mi_model.specs.Outcome.{outcome_of}
use Rattle.mi_region.specs.View.{leading}
use Rattle.mi_compile.specs.Escaped.{take_text, take_escaped}
use Rattle.mi_compile.proofs.Reading.{taken_good, taken_bad, gives_same}
use Rattle.mi_compile.proofs.escapes.take_escaped.Goals as goal

pub returns-in_err-check_escapes : goal.returns-in_err-check_escapes
returns-in_err-check_escapes g c =
    let p = err_from_is_err_and c.from_residual.result c.from_residual.ensures.1 in
    let told = taken_bad (g.A.Arith.ops c.args.state.now.arith) c.args.span c.args.state.now.machine [] c.in_err-check_escapes.field-0.0 c.in_err-check_escapes.ensures.bad in
    rw (p.1, p.2) (inl (ap (λ r. leading c.args.state.now r) told, refl))

pub returns-in_err-effect : goal.returns-in_err-effect
returns-in_err-effect g c =
    let p = err_from_is_err_and c.from_residual-in_err-effect.result c.from_residual-in_err-effect.ensures.1 in
    let good = c.in_ok-check_escapes.ensures.good in
    let same = taken_good (g.A.Arith.ops c.args.state.now.arith) c.args.span c.args.state.now.machine [] good.0 good.1 in
    let ops = g.A.Arith.ops c.args.state.now.arith in
    let m = c.args.state.now.machine in
    rw (p.1, p.2)
    (gives_same g.A.Arith.GROWS (Err c.in_err-effect.field-0.0) c.args.state.now c.take_text.new.state (outcome_of ops (action_by (take_escaped c.args.span)) m [])
    (outcome_of ops (action_by (take_text c.args.span.length good.0)) m []) same (c.in_err-effect.ensures good.0 good.1))

pub returns : goal.returns
returns g c =
    let good = c.in_ok-check_escapes.ensures.good in
    let same = taken_good (g.A.Arith.ops c.args.state.now.arith) c.args.span c.args.state.now.machine [] good.0 good.1 in
    ap (λ r. leading c.args.state.now r) same ∙ c.in_ok-effect.ensures good.0 good.1
