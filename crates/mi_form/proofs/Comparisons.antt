-- What a comparison of forms answers is right at every allowed pair.
use Rattle.std.proofs.Common.{◌≡◌, ℕ, ◌%◌, Bool, true, false, cond, ◌==◌, ◌&&◌, Ok, refl}
use Rattle.std.proofs.lemmas.Bool.{and_parts, eqb-true, eqb-false}
use Rattle.mi_model.specs.declared.Form.{Form}
use Rattle.mi_model.specs.declared.TheConstants.{GRID}
use Rattle.mi_model.specs.Ops.{Test}
use Rattle.mi_model.specs.Ops.Test.{Equal, Less, Below}
use Rattle.mi_model.specs.Plain.{plain_test}
use Rattle.mi_model.specs.Forms.{value_at, IsNormal, IsSize, Tells}
use Rattle.mi_model.specs.Origin.{sort_of, equal_sorts, less_of}
use Rattle.mi_model.specs.OriginOps.{origin_test}
use Rattle.mi_form.specs.declared.compare.Order.TheVariants.{Signed, Unsigned}
use Rattle.mi_form.proofs.Equality.{same_bases, other_low, equal_told}
use Rattle.mi_form.proofs.Orders.{less_told}

equal_cases : (t u : Bool) (size : ℕ) (x y : Form) → ((x.a == y.a) && (x.b == y.b)) ≡ t → (x.c % GRID == y.c % GRID) ≡ u → IsNormal x → IsNormal y → IsSize size
    → Tells (λ pair. value_at x pair == value_at y pair) (cond t (Ok (x.c == y.c)) (cond u (equal_sorts (sort_of size x) (sort_of size y)) (Ok false)))
equal_cases true u size x y et eu nx ny fits = λ pair allowed.
    (let e = and_parts (x.a == y.a) (x.b == y.b) et in
    same_bases x y pair nx.c ny.c (eqb-true x.a y.a e.0) (eqb-true x.b y.b e.1))
equal_cases false true size x y et eu nx ny fits = equal_told size x y (equal_sorts (sort_of size x) (sort_of size y)) refl nx.c ny.c fits
equal_cases false false size x y et eu nx ny fits = λ pair allowed. other_low x y pair allowed (eqb-false (x.c % GRID) (y.c % GRID) eu)

pub test_tells : (size : ℕ) (op : Test) (x y : Form) → IsNormal x → IsNormal y → IsSize size → Tells (λ pair. plain_test op (value_at x pair) (value_at y pair)) (origin_test size op x y)
test_tells size Equal x y nx ny fits = equal_cases ((x.a == y.a) && (x.b == y.b)) (x.c % GRID == y.c % GRID) size x y refl refl nx ny fits
test_tells size Less x y nx ny fits = less_told Signed size x y (less_of Less size x y) refl nx.c ny.c fits
test_tells size Below x y nx ny fits = less_told Unsigned size x y (less_of Below size x y) refl nx.c ny.c fits
