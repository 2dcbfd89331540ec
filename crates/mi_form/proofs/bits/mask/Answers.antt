use Rattle.std.proofs.Common.{◌≡◌, Ok, rules}
use Rattle.mi_model.specs.Origin.{masked}
use Rattle.mi_form.proofs.Low.{masked_tells}
use Rattle.mi_form.proofs.bits.mask.Goals as goal

pub returns-then-m-lt-GRID-clause-values : goal.returns-then-m-lt-GRID-clause-values
returns-then-m-lt-GRID-clause-values c =
    let answered : Ok c.plain.result ≡ masked c.args.x c.args.m = search rules in
    masked_tells c.args.x c.args.m (Ok c.plain.result) answered (search rules) (search rules)

pub returns-then-m-lt-GRID-2-clause-values : goal.returns-then-m-lt-GRID-2-clause-values
returns-then-m-lt-GRID-2-clause-values c =
    let answered : Ok c.normal.result ≡ masked c.args.x c.args.m = search rules in
    masked_tells c.args.x c.args.m (Ok c.normal.result) answered (search rules) (search rules)
