use Rattle.std.proofs.Common.{ap, ◌∙◌, ◌*◌}
use Rattle.mi_model.specs.declared.Form.{Form}
use Rattle.mi_model.specs.Forms.{value_at}
use Rattle.mi_form.proofs.Values.{normal_wrapped, product_value}
use Rattle.mi_form.proofs.ring.scale.Goals as goal

pub returns-clause-values : goal.returns-clause-values
returns-clause-values c pair allowed =
    let x = c.args.x in
    let m = c.args.m in
    ap (λ (form : Form). value_at form pair) (c.normal.ensures.result ∙ normal_wrapped (x.a * m) (x.b * m) (x.c * m)) ∙ product_value x m pair allowed
