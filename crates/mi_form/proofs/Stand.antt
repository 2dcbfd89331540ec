-- The arithmetic of origin forms stands for the plain one at each allowed pair.
use Rattle.std.proofs.Common.{◌≡◌, ℕ, ◌+◌, ◌*◌, ◌/◌, ◌^◌, ◌<◌, Bool, true, false, cond, ◌&&◌, Result, Ok, Err, refl, sym, ap, ◌∙◌, arith}
use Rattle.std.proofs.Math.Nat.{mod-lt}
use Rattle.std.proofs.lemmas.Bool.{and_parts}
use Rattle.mi_model.specs.declared.Pair.{Pair}
use Rattle.mi_model.specs.declared.Form.{Form}
use Rattle.mi_model.specs.declared.DivFault.{DivFault}
use Rattle.mi_model.specs.declared.Why.{Why}
use Rattle.mi_model.specs.declared.Why.TheVariants.{Multiply, Divide, Count}
use Rattle.mi_model.specs.Pairs.{IsAllowedPair}
use Rattle.mi_model.specs.Ops.{Two, One, Division, Test}
use Rattle.mi_model.specs.Plain.{plain_ops, wrapped, divided, plain_two, plain_one, plain_test, plain_place, plain_tag}
use Rattle.mi_model.specs.Stands.{Simulates, AnswerStands, PairStands, DivisionStands}
use Rattle.mi_model.specs.Stands.AnswerStands.{given, withheld}
use Rattle.mi_model.specs.Stands.DivisionStands.{divided as divided_forms, undivided}
use Rattle.mi_model.specs.Forms.{value_at, normal, plain_form, is_plain, IsNormal, IsSize, Tells, TellsForm}
use Rattle.mi_model.specs.Origin.{place_of, tag_of}
use Rattle.mi_model.specs.OriginOps.{origin_ops, origin_two, origin_one, origin_test, plain_forms, with_operand, with_operands, FormStands, ByteStands, TellsOperands}
use Rattle.mi_form.proofs.Values.{normal_value}
use Rattle.mi_form.proofs.Low.{normal_is_normal}
use Rattle.mi_form.proofs.Combined.{plain_at, value_below, two_tells, one_tells}
use Rattle.mi_form.proofs.Comparisons.{test_tells}
use Rattle.mi_form.proofs.Places.{place_tells}
use Rattle.mi_form.proofs.Codes.{tag_tells}
use Rattle.mi_form.proofs.Quotients.{AreBelow, divided_below, high_half_below}
use Rattle.mi_form.proofs.Bytes.{plain_stands, low_byte_stands, cut_stands, value_stands, joined_stands}

-- answers that are right at every pair stand for the one at a pair
tells_answer : {A : Type 0} (x y : Form) (plain : Pair → A) (r : Result A Why) (a : A) (pair : Pair) → IsAllowedPair pair → plain pair ≡ a → Tells plain r
    → AnswerStands (λ (s t : A). s ≡ t) (with_operands x y r) (Ok a)
tells_answer x y plain (Ok answer) a pair allowed e h = given (sym (h pair allowed) ∙ e)
tells_answer x y plain (Err why) a pair allowed e h = withheld _ _

tells_form : (x y : Form) (plain : Pair → ℕ) (r : Result Form Why) (n : ℕ) (pair : Pair) → IsAllowedPair pair → plain pair ≡ n → TellsForm plain r
    → AnswerStands (FormStands pair) (with_operands x y r) (Ok n)
tells_form x y plain (Ok form) n pair allowed e h = given (record { normal_form = h.1; value = h.0 pair allowed ∙ e })
tells_form x y plain (Err why) n pair allowed e h = withheld _ _

two_stands : (op : Two) (a b : Form) (x y : ℕ) (pair : Pair) → IsAllowedPair pair → FormStands pair a x → FormStands pair b y
    → AnswerStands (FormStands pair) (with_operands a b (origin_two op a b)) (Ok (plain_two op x y))
two_stands op a b x y pair allowed h k =
    tells_form a b (λ p. plain_two op (value_at a p) (value_at b p)) (origin_two op a b) (plain_two op x y) pair allowed
    (ap (λ (i : ℕ). plain_two op i (value_at b pair)) h.value ∙ ap (λ (i : ℕ). plain_two op x i) k.value)
    (two_tells op a b h.normal_form k.normal_form)

one_stands : (op : One) (a : Form) (x : ℕ) (pair : Pair) → IsAllowedPair pair → FormStands pair a x
    → AnswerStands (FormStands pair) (with_operand a (origin_one op a)) (Ok (plain_one op x))
one_stands op a x pair allowed h =
    tells_form a (plain_form 0) (λ p. plain_one op (value_at a p)) (origin_one op a) (plain_one op x) pair allowed
    (ap (λ (i : ℕ). plain_one op i) h.value) (one_tells op a h.normal_form)

test_stands : (size : ℕ) (op : Test) (a b : Form) (x y : ℕ) (pair : Pair) → IsSize size → IsAllowedPair pair → FormStands pair a x → FormStands pair b y
    → AnswerStands (λ (s t : Bool). s ≡ t) (with_operands a b (origin_test size op a b)) (Ok (plain_test op x y))
test_stands size op a b x y pair fits allowed h k =
    tells_answer a b (λ p. plain_test op (value_at a p) (value_at b p)) (origin_test size op a b) (plain_test op x y) pair allowed
    (ap (λ (i : ℕ). plain_test op i (value_at b pair)) h.value ∙ ap (λ (i : ℕ). plain_test op x i) k.value)
    (test_tells size op a b h.normal_form k.normal_form fits)

-- a plain form stands for its c
plain_c : (x : Form) (n : ℕ) (pair : Pair) → is_plain x ≡ true → FormStands pair x n → x.c ≡ n
plain_c x n pair e h = sym (plain_at x pair h.normal_form e) ∙ h.value

number_below : (x : Form) (n : ℕ) (pair : Pair) → FormStands pair x n → n < 2 ^ 64
number_below x n pair h = let below : value_at x pair < 2 ^ 64 = value_below x pair in let e : value_at x pair ≡ n = h.value in omega arith

product_cases : (t : Bool) (a b : Form) (x y : ℕ) (pair : Pair) → (is_plain a && is_plain b) ≡ t → FormStands pair a x → FormStands pair b y
    → AnswerStands (PairStands (FormStands pair)) (with_operands a b (cond t (Ok (plain_form (wrapped (a.c * b.c)), plain_form (a.c * b.c / 2 ^ 64))) (Err Multiply))) (Ok (wrapped (x * y), x * y / 2 ^ 64))
product_cases true a b x y pair e h k =
    let p = and_parts (is_plain a) (is_plain b) e in
    let ea : a.c ≡ x = plain_c a x pair p.0 h in
    let eb : b.c ≡ y = plain_c b y pair p.1 k in
    let same : a.c * b.c ≡ x * y = ap (λ (n : ℕ). n * b.c) ea ∙ ap (λ (n : ℕ). x * n) eb in
    let low_below : wrapped (x * y) < 2 ^ 64 = mod-lt (x * y) (omega arith) in
    let high_below : x * y / 2 ^ 64 < 2 ^ 64 = high_half_below x y (number_below a x pair h) (number_below b y pair k) in
    given (
      plain_stands (wrapped (a.c * b.c)) (wrapped (x * y)) pair (ap (λ (n : ℕ). wrapped n) same) low_below,
      plain_stands (a.c * b.c / 2 ^ 64) (x * y / 2 ^ 64) pair (ap (λ (n : ℕ). n / 2 ^ 64) same) high_below,
    )
product_cases false a b x y pair e h k = withheld _ _

-- the forms of a quotient and a remainder stand for them
forms_stand : (r s : Result (ℕ × ℕ) DivFault) (pair : Pair) → r ≡ s → AreBelow s → DivisionStands (FormStands pair) (plain_forms r) s
forms_stand r (Ok p) pair e below = rw e (divided_forms (plain_stands p.0 p.0 pair refl below.0, plain_stands p.1 p.1 pair refl below.1))
forms_stand r (Err fault) pair e below = rw e (undivided fault)

same_division : (division : Division) (i j k x y z : ℕ) → i ≡ x → j ≡ y → k ≡ z → divided division i j k ≡ divided division x y z
same_division division i j k x y z ei ej ek =
    ap (λ (n : ℕ). divided division n j k) ei ∙ (ap (λ (n : ℕ). divided division x n k) ej ∙ ap (λ (n : ℕ). divided division x y n) ek)

division_cases : (t : Bool) (division : Division) (a b c : Form) (x y z : ℕ) (pair : Pair) → (is_plain a && is_plain b && is_plain c) ≡ t
    → FormStands pair a x → FormStands pair b y → FormStands pair c z
    → AnswerStands (DivisionStands (FormStands pair)) (with_operands a c (cond t (Ok (plain_forms (divided division a.c b.c c.c))) (Err Divide))) (Ok (divided division x y z))
division_cases true division a b c x y z pair e ha hb hc =
    let p = and_parts (is_plain a && is_plain b) (is_plain c) e in
    let q = and_parts (is_plain a) (is_plain b) p.0 in
    given (forms_stand (divided division a.c b.c c.c) (divided division x y z) pair
    (same_division division a.c b.c c.c x y z (plain_c a x pair q.0 ha) (plain_c b y pair q.1 hb) (plain_c c z pair p.1 hc))
    (divided_below division x y z (number_below c z pair hc)))
division_cases false division a b c x y z pair e ha hb hc = withheld _ _

number_cases : (t : Bool) (a : Form) (x : ℕ) (pair : Pair) → is_plain a ≡ t → FormStands pair a x
    → AnswerStands (λ (i j : ℕ). i ≡ j) (with_operand a (cond t (Ok a.c) (Err Count))) (Ok x)
number_cases true a x pair e h = given (plain_c a x pair e h)
number_cases false a x pair e h = withheld _ _

-- the form of a number, of an address in the region and of one of code
maker_stands : (a b c n : ℕ) (pair : Pair) → IsAllowedPair pair → a * pair.d + b * pair.k + c ≡ n → FormStands pair (normal a b c) (wrapped n)
maker_stands a b c n pair allowed e =
    record { normal_form = normal_is_normal a b c; value = normal_value a b c pair allowed ∙ ap (λ (i : ℕ). wrapped i) e }

pub origin_stands : (size : ℕ) (pair : Pair) → IsSize size → IsAllowedPair pair → Simulates (FormStands pair) (ByteStands pair) (origin_ops size) (plain_ops pair size)
unfolding origin_ops plain_ops
origin_stands size pair fits allowed = record {
  plain = λ n. plain_stands (wrapped n) (wrapped n) pair refl (mod-lt n (omega arith));
  region_cell = λ o. maker_stands 1 0 o (pair.d + o) pair allowed (omega arith);
  code_cell = λ t. maker_stands 0 1 (16 * t) (pair.k + 16 * t) pair allowed (omega arith);
  two = λ op a b x y h k. two_stands op a b x y pair allowed h k;
  one = λ op a x h. one_stands op a x pair allowed h;
  test = λ op a b x y h k. test_stands size op a b x y pair fits allowed h k;
  product = λ a b x y h k. product_cases (is_plain a && is_plain b) a b x y pair refl h k;
  divide = λ division a b c x y z h k l. division_cases (is_plain a && is_plain b && is_plain c) division a b c x y z pair refl h k l;
  place = λ a x h. tells_answer a (plain_form 0) (λ p. plain_place p size (value_at a p)) _ _ pair allowed (ap (λ (i : ℕ). plain_place pair size i) h.value) (place_tells size a h.normal_form fits);
  tag = λ a x h. tells_answer a (plain_form 0) (λ p. plain_tag p (value_at a p)) _ _ pair allowed (ap (λ (i : ℕ). plain_tag pair i) h.value) (tag_tells size a h.normal_form fits);
  number = λ a x h. number_cases (is_plain a) a x pair refl h;
  low_byte = λ a x h. low_byte_stands a x pair allowed h;
  byte_of = λ n. refl;
  cut = λ i a x h. cut_stands a x i pair h;
  value = λ b x h. value_stands b x pair allowed h;
  join = λ b n h. joined_stands b n pair (plain_form 0) (plain_form 0) h;
}

-- what is answered of forms, or why it isn't, by the operands
tells_operands : {A : Type 0} (x y : Form) (plain : Pair → A) (r : Result A Why) → Tells plain r → TellsOperands x y plain (with_operands x y r)
tells_operands x y plain (Ok answer) h = h
tells_operands x y plain (Err why) h = (refl, refl, h)

pub test_operands : (size : ℕ) (op : Test) (x y : Form) → IsSize size → IsNormal x → IsNormal y
    → TellsOperands x y (λ pair. plain_test op (value_at x pair) (value_at y pair)) ((origin_ops size).test op x y)
unfolding origin_ops
test_operands size op x y fits nx ny = tells_operands x y (λ pair. plain_test op (value_at x pair) (value_at y pair)) (origin_test size op x y) (test_tells size op x y nx ny fits)

pub place_operands : (size : ℕ) (x : Form) → IsSize size → IsNormal x
    → TellsOperands x (plain_form 0) (λ pair. plain_place pair size (value_at x pair)) ((origin_ops size).place x)
unfolding origin_ops
place_operands size x fits nx = tells_operands x (plain_form 0) (λ pair. plain_place pair size (value_at x pair)) (place_of size x) (place_tells size x nx fits)

pub tag_operands : (size : ℕ) (x : Form) → IsSize size → IsNormal x
    → TellsOperands x (plain_form 0) (λ pair. plain_tag pair (value_at x pair)) ((origin_ops size).tag x)
unfolding origin_ops
tag_operands size x fits nx = tells_operands x (plain_form 0) (λ pair. plain_tag pair (value_at x pair)) (tag_of size x) (tag_tells size x nx fits)
