-- Origin forms keep offsets.
use Rattle.std.specs.Prelude.{ℕ, ◌≡◌, ◌≤◌, ◌<◌, ◌+◌, ◌-◌, ◌%◌, ◌^◌, ◌==◌, ◌&&◌, ◌||◌, Bool, true, false, cond, nat_le, nat_lt, Option, Some, None, Ok, Err, Result}
use Rattle.std.proofs.Common.{refl, ap, subst, ◌∙◌, arith}
use Rattle.std.proofs.lemmas.Bool.Decides.{nat_tests}
use Rattle.mi_model.specs.declared.Form.{Form}
use Rattle.mi_model.specs.declared.Refusal.{Refusal}
use Rattle.mi_model.specs.declared.Why.{Why}
use Rattle.mi_model.specs.declared.Why.TheVariants.{Far}
use Rattle.mi_model.specs.Ops.Test.{Below}
use Rattle.mi_model.specs.Offsets.{KeepsOffsets}
use Rattle.mi_model.specs.Forms.{is_plain, plain_form}
use Rattle.mi_model.specs.Origin.{place_of, sum_of, less_of, data_least, data_most, code_bound}
use Rattle.mi_form.proofs.Told.{same_form}
use Rattle.mi_model.specs.OriginOps.{origin_ops, origin_test, with_operand, with_operands}

-- the form of an address in the region
data_form : ℕ → Form
data_form o = record { a = 1; b = 0; c = o }

-- of the cases of a place only the data in the region give an offset
place_cases : (t p u v w : Bool) (x : Form) (c o : ℕ) (why : Why)
    → with_operand x (cond t (cond p (Ok None) (Err why)) (cond u (Ok (cond v (Some c) None)) (cond w (Ok None) (Err Far)))) ≡ Ok (Some o)
    → (u ≡ true) × (v ≡ true) × (c ≡ o)
place_cases true true u v w x c o why h = cc
place_cases true false u v w x c o why h = cc
place_cases false p true true w x c o why h = (refl, refl, cc)
place_cases false p true false w x c o why h = cc
place_cases false p false v true x c o why h = cc
place_cases false p false v false x c o why h = cc

-- a form with a place is the address of that offset
address_is : (size : ℕ) (x : Form) (o : ℕ) → with_operand x (place_of size x) ≡ Ok (Some o) → (x ≡ data_form o) × (nat_le o size ≡ true)
unfolding data_form
address_is size x o h =
    let k = place_cases (is_plain x) (nat_lt x.c data_least || nat_lt (data_most + size) x.c) ((x.a == 1) && (x.b == 0)) (nat_le x.c size) ((x.a == 0) && (x.b == 1) && nat_lt x.c code_bound) x x.c o _ h in
    let a : x.a ≡ 1 = grind (arith, nat_tests) in
    let b : x.b ≡ 0 = grind (arith, nat_tests) in
    (same_form x (data_form o) a b k.2, subst (λ (n : ℕ). nat_le n size ≡ true) k.2 k.1)

-- addresses in the region are compared by their offsets
below_is : (size o p : ℕ) → nat_le o size ≡ true → nat_le p size ≡ true
    → with_operands (data_form o) (data_form p) (origin_test size Below (data_form o) (data_form p)) ≡ Ok (nat_lt o p)
unfolding data_form
below_is size o p e f = rw (e, f) refl

-- an operation has one answer
one_answer : {A : Type 0} (s t : A) (r : Result A Refusal) → r ≡ Ok s → r ≡ Ok t → s ≡ t
one_answer s t r e f = cc

same_sum : (size o p n : ℕ) → size ≤ 2 ^ 23 → n < 2 ^ 32 → nat_le o size ≡ true → (o + n % 2 ^ 64) % 2 ^ 64 ≡ p → p ≡ o + n
same_sum size o p n small few e sum = let fits : o ≤ size = grind (arith, nat_tests) in omega arith

-- the order of addresses that have places
ordered_by : (size : ℕ) (x y : Form) (o p : ℕ) (below : Bool) → with_operand x (place_of size x) ≡ Ok (Some o) → with_operand y (place_of size y) ≡ Ok (Some p)
    → with_operands x y (origin_test size Below x y) ≡ Ok below → below ≡ nat_lt o p
ordered_by size x y o p below at also is =
    let i = address_is size x o at in
    let j = address_is size y p also in
    let first : with_operands (data_form o) y (origin_test size Below (data_form o) y) ≡ Ok below = subst (λ (f : Form). with_operands f y (origin_test size Below f y) ≡ Ok below) i.0 is in
    let both : with_operands (data_form o) (data_form p) (origin_test size Below (data_form o) (data_form p)) ≡ Ok below
    = subst (λ (f : Form). with_operands (data_form o) f (origin_test size Below (data_form o) f) ≡ Ok below) j.0 first in
    one_answer below (nat_lt o p) _ both (below_is size o p i.1 j.1)

-- the sum of an address and a number
added_to : (size : ℕ) (x y : Form) (o p n : ℕ) → size ≤ 2 ^ 23 → n < 2 ^ 32 → with_operand x (place_of size x) ≡ Ok (Some o) → sum_of x (plain_form (n % 2 ^ 64)) ≡ y
    → with_operand y (place_of size y) ≡ Ok (Some p) → p ≡ o + n
unfolding data_form
added_to size x y o p n small few at is also =
    let i = address_is size x o at in
    let j = address_is size y p also in
    let sum : (x.c + n % 2 ^ 64) % 2 ^ 64 ≡ y.c = ap (λ (f : Form). f.c) is in
    let from : x.c ≡ o = ap (λ (f : Form). f.c) i.0 in
    let to : y.c ≡ p = ap (λ (f : Form). f.c) j.0 in
    same_sum size o p n small few i.1 (subst (λ (c : ℕ). (c + n % 2 ^ 64) % 2 ^ 64 ≡ p) from (sum ∙ to))

pub origin_keeps_offsets : (size : ℕ) → size ≤ 2 ^ 23 → KeepsOffsets (origin_ops size)
unfolding origin_ops
origin_keeps_offsets size small = record {
  ordered = λ x y o p below at also is. ordered_by size x y o p below at also is;
  added = λ x y o p n few at is also. added_to size x y o p n small few at (one_answer _ _ _ refl is) also;
}
