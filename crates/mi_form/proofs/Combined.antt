-- The operations on forms that give forms have the plain results at every allowed pair.
use Rattle.std.proofs.Common.{◌≡◌, ℕ, ◌+◌, ◌-◌, ◌*◌, ◌/◌, ◌^◌, ◌<◌, ◌≤◌, Bool, true, false, cond, ◌&&◌, ◌==◌, nat_lt, Result, Ok, Err, refl, sym, ap, ◌∙◌, arith, bit_and, bit_or}
use Rattle.std.specs.Prelude.{bit_xor}
use Rattle.std.proofs.lemmas.Nat.{and_comm, or_comm, xor_comm, shr_le}
use Rattle.std.proofs.lemmas.Bool.{and_parts, eqb-true}
use Rattle.std.proofs.lemmas.Bool.Decides.{nat_tests}
use Rattle.std.proofs.Math.Nat.{mod-lt}
use Rattle.mi_model.specs.declared.Pair.{Pair}
use Rattle.mi_model.specs.declared.Form.{Form}
use Rattle.mi_model.specs.declared.Why.{Why}
use Rattle.mi_model.specs.declared.Why.TheVariants.{Undecided, Far, Mask, Shift, Multiply, Divide, Byte, Count}
use Rattle.mi_model.specs.Pairs.{IsAllowedPair}
use Rattle.mi_model.specs.Ops.{Two, One}
use Rattle.mi_model.specs.Ops.Two.{Add, Sub, Mul, And, Or, Xor, LeftShift, RightShift}
use Rattle.mi_model.specs.Ops.One.{Negate, Invert, Half}
use Rattle.mi_model.specs.Plain.{wrapped, less_by, is_negative, shifted_left, shifted_right, plain_two, plain_one}
use Rattle.mi_model.specs.Forms.{value_at, plain_form, is_plain, IsNormal, IsReason, TellsForm}
use Rattle.mi_model.specs.Origin.{product_of, negated, inverted, masked, or_low_of, xor_low_of}
use Rattle.mi_model.specs.OriginOps.{shifted_form, origin_two, origin_one}
use Rattle.mi_form.proofs.Values.{sum_value, product_value, difference_value}
use Rattle.mi_form.proofs.Low.{plain_value, is_plain_value, normal_is_normal, plain_is_normal, masked_tells, or_low_tells, xor_low_tells}

-- a plain form is its c
pub plain_at : (x : Form) (pair : Pair) → IsNormal x → is_plain x ≡ true → value_at x pair ≡ x.c
plain_at x pair n e =
    let ea : x.a ≡ 0 = grind (arith, nat_tests) in
    let eb : x.b ≡ 0 = grind (arith, nat_tests) in
    is_plain_value x pair n.c ea eb

-- every value is a number of 64 bits
pub value_below : (x : Form) (pair : Pair) → value_at x pair < 2 ^ 64
value_below x pair = mod-lt (x.a * pair.d + x.b * pair.k + x.c) (omega arith)

-- what is said of one plain answer is said of another that is always the same
same_reason : {A : Type 0} (p q : Pair → A) (why : Why) → ((pair : Pair) → p pair ≡ q pair) → IsReason p why → IsReason q why
same_reason p q (Undecided first second) same h = (h.0, h.1, λ e. h.2 (same first ∙ (e ∙ sym (same second))))
same_reason p q Far same h = tt
same_reason p q Mask same h = tt
same_reason p q Shift same h = tt
same_reason p q Multiply same h = tt
same_reason p q Divide same h = tt
same_reason p q Byte same h = tt
same_reason p q Count same h = tt

same_form_told : (p q : Pair → ℕ) (r : Result Form Why) → ((pair : Pair) → p pair ≡ q pair) → TellsForm p r → TellsForm q r
same_form_told p q (Ok form) same h = ((λ pair allowed. h.0 pair allowed ∙ same pair), h.1)
same_form_told p q (Err why) same h = same_reason p q why same h

-- an operation with a plain number, which may be either operand
with_plain_cases : (t u : Bool) (op : Form → ℕ → Result Form Why) (why : Why) (plain : ℕ → ℕ → ℕ) (x y : Form) → is_plain y ≡ t → is_plain x ≡ u → IsNormal x → IsNormal y
    → ((form : Form) (m : ℕ) → IsNormal form → m < 2 ^ 64 → TellsForm (λ pair. plain (value_at form pair) m) (op form m))
    → ((i j : ℕ) → plain i j ≡ plain j i)
    → ((p : Pair → ℕ) → IsReason p why)
    → TellsForm (λ pair. plain (value_at x pair) (value_at y pair)) (cond t (op x y.c) (cond u (op y x.c) (Err why)))
with_plain_cases true u op why plain x y et eu nx ny tells turned reason =
    same_form_told (λ pair. plain (value_at x pair) y.c) (λ pair. plain (value_at x pair) (value_at y pair)) (op x y.c)
    (λ pair. ap (λ (i : ℕ). plain (value_at x pair) i) (sym (plain_at y pair ny et))) (tells x y.c nx ny.c)
with_plain_cases false true op why plain x y et eu nx ny tells turned reason =
    same_form_told (λ pair. plain (value_at y pair) x.c) (λ pair. plain (value_at x pair) (value_at y pair)) (op y x.c)
    (λ pair. turned (value_at y pair) x.c ∙ ap (λ (i : ℕ). plain i (value_at y pair)) (sym (plain_at x pair nx eu))) (tells y x.c ny nx.c)
with_plain_cases false false op why plain x y et eu nx ny tells turned reason = reason (λ pair. plain (value_at x pair) (value_at y pair))

product_tells : (x : Form) (m : ℕ) → TellsForm (λ pair. wrapped (value_at x pair * m)) (Ok (product_of x m))
product_tells x m = ((λ pair allowed. product_value x m pair allowed), normal_is_normal (x.a * m) (x.b * m) (x.c * m))

turned_product : (i j : ℕ) → wrapped (i * j) ≡ wrapped (j * i)
turned_product i j = ap (λ (n : ℕ). wrapped n) (omega arith)

-- a shift by a number
shift_cases : (t : Bool) (x : Form) (n : ℕ) → TellsForm (λ pair. cond t (wrapped (value_at x pair * 2 ^ n)) 0) (Ok (cond t (product_of x (2 ^ n)) (plain_form 0)))
shift_cases true x n = product_tells x (2 ^ n)
shift_cases false x n = ((λ pair allowed. plain_value 0 pair (omega arith)), plain_is_normal 0 (omega arith))

left_cases : (t : Bool) (x y : Form) → is_plain y ≡ t → IsNormal y
    → TellsForm (λ pair. shifted_left (value_at x pair) (value_at y pair)) (cond t (Ok (shifted_form x y.c)) (Err Shift))
left_cases true x y et ny =
    same_form_told (λ pair. shifted_left (value_at x pair) y.c) (λ pair. shifted_left (value_at x pair) (value_at y pair)) (Ok (shifted_form x y.c))
    (λ pair. ap (λ (i : ℕ). shifted_left (value_at x pair) i) (sym (plain_at y pair ny et))) (shift_cases (nat_lt y.c 64) x y.c)
left_cases false x y et ny = tt

right_below : (t : Bool) (m n : ℕ) → m < 2 ^ 64 → cond t (m / 2 ^ n) 0 < 2 ^ 64
right_below true m n below = let le : m / 2 ^ n ≤ m = shr_le m n in omega arith
right_below false m n below = omega arith

both_plain : (x y : Form) → (is_plain x && is_plain y) ≡ true → (is_plain x ≡ true) × (is_plain y ≡ true)
both_plain x y e = and_parts (is_plain x) (is_plain y) e

right_cases : (t u : Bool) (x y : Form) → (is_plain x && is_plain y) ≡ t → (is_plain y && (y.c == 0)) ≡ u → IsNormal x → IsNormal y
    → TellsForm (λ pair. shifted_right (value_at x pair) (value_at y pair)) (cond t (Ok (plain_form (shifted_right x.c y.c))) (cond u (Ok x) (Err Shift)))
right_cases true u x y et eu nx ny =
    let e = both_plain x y et in
    let below : shifted_right x.c y.c < 2 ^ 64 = right_below (nat_lt y.c 64) x.c y.c nx.c in (
      (λ pair allowed. plain_value (shifted_right x.c y.c) pair below
          ∙ (ap (λ (i : ℕ). shifted_right i y.c) (sym (plain_at x pair nx e.0)) ∙ ap (λ (i : ℕ). shifted_right (value_at x pair) i) (sym (plain_at y pair ny e.1)))),
      plain_is_normal (shifted_right x.c y.c) below,
    )
right_cases false true x y et eu nx ny =
    let e = and_parts (is_plain y) (y.c == 0) eu in
    let none : y.c ≡ 0 = eqb-true y.c 0 e.1 in
    let whole : (n : ℕ) → n ≡ n / 1 = λ n. omega arith in
    ((λ pair allowed. whole (value_at x pair) ∙ ap (λ (i : ℕ). shifted_right (value_at x pair) i) (sym (plain_at y pair ny e.0 ∙ none))), nx)
right_cases false false x y et eu nx ny = tt

-- the operations of two forms
pub two_tells : (op : Two) (x y : Form) → IsNormal x → IsNormal y → TellsForm (λ pair. plain_two op (value_at x pair) (value_at y pair)) (origin_two op x y)
two_tells Add x y nx ny = ((λ pair allowed. sum_value x y pair allowed), normal_is_normal (x.a + y.a) (x.b + y.b) (x.c + y.c))
two_tells Sub x y nx ny =
    ((λ pair allowed. difference_value x y pair (omega arith) (omega arith) ny.c allowed), normal_is_normal (less_by x.a y.a) (less_by x.b y.b) (less_by x.c y.c))
two_tells Mul x y nx ny =
    with_plain_cases (is_plain y) (is_plain x) (λ form m. Ok (product_of form m)) Multiply (λ i j. wrapped (i * j)) x y refl refl nx ny
    (λ form m nf below. product_tells form m) turned_product (λ p. tt)
two_tells And x y nx ny =
    with_plain_cases (is_plain y) (is_plain x) masked Mask (λ i j. bit_and i j) x y refl refl nx ny
    (λ form m nf below. masked_tells form m (masked form m) refl nf.c below) (λ i j. and_comm i j) (λ p. tt)
two_tells Or x y nx ny =
    with_plain_cases (is_plain y) (is_plain x) or_low_of Mask (λ i j. bit_or i j) x y refl refl nx ny
    (λ form m nf below. or_low_tells form m (or_low_of form m) refl nf.c below) (λ i j. or_comm i j) (λ p. tt)
two_tells Xor x y nx ny =
    with_plain_cases (is_plain y) (is_plain x) xor_low_of Mask (λ i j. bit_xor i j) x y refl refl nx ny
    (λ form m nf below. xor_low_tells form m (xor_low_of form m) refl nf.c below) (λ i j. xor_comm i j) (λ p. tt)
two_tells LeftShift x y nx ny = left_cases (is_plain y) x y refl ny
two_tells RightShift x y nx ny = right_cases (is_plain x && is_plain y) (is_plain y && (y.c == 0)) x y refl refl nx ny

-- half of a number is as small as the number may be
half_below : (t : Bool) (n : ℕ) → n < 2 ^ 64 → n / 2 + cond t (2 ^ 63) 0 < 2 ^ 64
half_below true n below = omega arith
half_below false n below = omega arith

half_cases : (t : Bool) (x : Form) → is_plain x ≡ t → IsNormal x → TellsForm (λ pair. plain_one Half (value_at x pair)) (cond t (Ok (plain_form (plain_one Half x.c))) (Err Shift))
half_cases true x et nx =
    let below : plain_one Half x.c < 2 ^ 64 = half_below (is_negative x.c) x.c nx.c in (
      (λ pair allowed. plain_value (plain_one Half x.c) pair below ∙ ap (λ (i : ℕ). plain_one Half i) (sym (plain_at x pair nx et))),
      plain_is_normal (plain_one Half x.c) below,
    )
half_cases false x et nx = tt

negated_value : (x : Form) (pair : Pair) → IsNormal x → IsAllowedPair pair → value_at (negated x) pair ≡ less_by 0 (value_at x pair)
negated_value x pair nx allowed =
    difference_value (plain_form 0) x pair (omega arith) (omega arith) nx.c allowed
    ∙ ap (λ (i : ℕ). less_by i (value_at x pair)) (plain_value 0 pair (omega arith))

all_bits : (v : ℕ) → v < 2 ^ 64 → less_by (less_by 0 v) 1 ≡ 2 ^ 64 - 1 - v
all_bits v below = omega arith

inverted_value : (x : Form) (pair : Pair) → IsNormal x → IsAllowedPair pair → value_at (inverted x) pair ≡ 2 ^ 64 - 1 - value_at x pair
inverted_value x pair nx allowed =
    difference_value (negated x) (plain_form 1) pair (omega arith) (omega arith) (omega arith) allowed
    ∙ (ap (λ (i : ℕ). less_by i (value_at (plain_form 1) pair)) (negated_value x pair nx allowed)
    ∙ (ap (λ (i : ℕ). less_by (less_by 0 (value_at x pair)) i) (plain_value 1 pair (omega arith))
    ∙ all_bits (value_at x pair) (value_below x pair)))

-- the operations of one form
pub one_tells : (op : One) (x : Form) → IsNormal x → TellsForm (λ pair. plain_one op (value_at x pair)) (origin_one op x)
one_tells Negate x nx = ((λ pair allowed. negated_value x pair nx allowed), normal_is_normal (less_by 0 x.a) (less_by 0 x.b) (less_by 0 x.c))
one_tells Invert x nx =
    let n = negated x in
    ((λ pair allowed. inverted_value x pair nx allowed), normal_is_normal (less_by n.a 0) (less_by n.b 0) (less_by n.c 1))
one_tells Half x nx = half_cases (is_plain x) x refl nx
