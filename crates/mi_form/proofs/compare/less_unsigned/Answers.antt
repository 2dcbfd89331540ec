use Rattle.std.proofs.Common.{◌≡◌, rules}
use Rattle.mi_model.specs.Ops.Test.{Below}
use Rattle.mi_form.specs.declared.compare.Order.TheVariants.{Unsigned}
use Rattle.mi_model.specs.Origin.{sort_of, less_sorts}
use Rattle.mi_form.proofs.Orders.{less_told}
use Rattle.mi_form.proofs.compare.less_unsigned.Goals as goal

pub returns-clause-told : goal.returns-clause-told
returns-clause-told c fits =
    let answered : c.less_sorts.result ≡ less_sorts Below (sort_of c.args.size c.args.x) (sort_of c.args.size c.args.y) = search rules in
    less_told Unsigned c.args.size c.args.x c.args.y c.less_sorts.result answered (search rules) (search rules) fits
