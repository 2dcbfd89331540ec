use Rattle.std.proofs.Common.{◌≡◌, Ok, rules}
use Rattle.mi_model.specs.Origin.{xor_low_of}
use Rattle.mi_form.proofs.Low.{xor_low_tells}
use Rattle.mi_form.proofs.bits.xor_low.Goals as goal

pub returns-then-m-lt-GRID-clause-values : goal.returns-then-m-lt-GRID-clause-values
returns-then-m-lt-GRID-clause-values c =
    let answered : Ok c.normal.result ≡ xor_low_of c.args.x c.args.m = search rules in
    xor_low_tells c.args.x c.args.m (Ok c.normal.result) answered (search rules) (search rules)
