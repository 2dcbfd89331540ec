use Rattle.std.proofs.Common.{ap, ◌∙◌, ◌+◌}
use Rattle.mi_model.specs.declared.Form.{Form}
use Rattle.mi_model.specs.Forms.{value_at}
use Rattle.mi_form.proofs.Values.{normal_wrapped, sum_value}
use Rattle.mi_form.proofs.ring.add.Goals as goal

pub returns-clause-values : goal.returns-clause-values
returns-clause-values c pair allowed =
    let x = c.args.x in
    let y = c.args.y in
    ap (λ (form : Form). value_at form pair) (c.normal.ensures.result ∙ normal_wrapped (x.a + y.a) (x.b + y.b) (x.c + y.c)) ∙ sum_value x y pair allowed
