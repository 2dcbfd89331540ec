-- Forms are told apart by their values.
use Rattle.std.proofs.Common.{◌≡◌, ◌↔◌, ℕ, ◌+◌, ◌*◌, ◌<◌, ap, ◌∙◌, arith, rules}
use Rattle.std.proofs.lemmas.Nat.{mul-lt}
use Rattle.mi_model.specs.declared.Pair.{Pair}
use Rattle.mi_model.specs.declared.Form.{Form}
use Rattle.mi_model.specs.Pairs.{IsAllowedPair}
use Rattle.mi_model.specs.declared.TheConstants.{GRID, WRAP}
use Rattle.mi_model.specs.Origin.{data_least, code_least}
use Rattle.mi_model.specs.Forms.{value_at, IsNormal, AreTold}
use Rattle.mi_form.proofs.Grid.{same_parts}

-- a form is its parts
pub same_form : (x y : Form) → x.a ≡ y.a → x.b ≡ y.b → x.c ≡ y.c → x ≡ y
same_form x y p q r =
    let at_a : ℕ → Form = λ n. record { a = n; b = x.b; c = x.c } in
    let at_b : ℕ → Form = λ n. record { a = y.a; b = n; c = x.c } in
    let at_c : ℕ → Form = λ n. record { a = y.a; b = y.b; c = n } in
    ap at_a p ∙ (ap at_b q ∙ ap at_c r)

pub told : (g w d k : ℕ) → 0 < g → 0 < w → AreTold g w d k
told g w d k gpos wpos x y nx ny e f h =
    let pos : 0 * 0 < g * w = mul-lt 0 0 g w gpos wpos in
    let parts = same_parts g w x.a x.b x.c y.a y.b y.c d k gpos pos nx.a nx.b nx.c ny.a ny.b ny.c e f h in
    same_form x y parts.0 parts.1 parts.2

pub told_by_values : (x y : Form) → IsNormal x → IsNormal y → ((pair : Pair) → IsAllowedPair pair → value_at x pair ≡ value_at y pair) ↔ (x ≡ y)
told_by_values x y nx ny = (
  λ same. told GRID WRAP data_least code_least (omega arith) (omega arith) x y
      (record { a = nx.a; b = nx.b; c = nx.c }) (record { a = ny.a; b = ny.b; c = ny.c })
      (same (record { d = data_least; k = code_least }) (search rules))
      (same (record { d = data_least + GRID; k = code_least }) (search rules))
      (same (record { d = data_least; k = code_least + GRID }) (search rules)),
  λ e pair allowed. ap (λ (form : Form). value_at form pair) e,
)
