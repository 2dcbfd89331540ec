use Rattle.std.proofs.Common.{◌≡◌, rules}
use Rattle.mi_model.specs.Origin.{sort_of, equal_sorts}
use Rattle.mi_form.proofs.Equality.{other_low, equal_told}
use Rattle.mi_form.proofs.compare.equal.Goals as goal

pub returns-then-x-y-3-clause-told : goal.returns-then-x-y-3-clause-told
returns-then-x-y-3-clause-told c fits =
    let answered : c.equal_sorts.result ≡ equal_sorts (sort_of c.args.size c.args.x) (sort_of c.args.size c.args.y) = search rules in
    equal_told c.args.size c.args.x c.args.y c.equal_sorts.result answered (search rules) (search rules) fits

pub returns-else-x-y-3-clause-told : goal.returns-else-x-y-3-clause-told
returns-else-x-y-3-clause-told c fits pair allowed = other_low c.args.x c.args.y pair allowed c.if-x-y-3.false
