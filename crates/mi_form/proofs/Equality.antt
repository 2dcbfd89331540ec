-- What equality answers is right at every allowed pair.
use Rattle.std.proofs.Common.{◌≡◌, ◌≢◌, ℕ, ◌+◌, ◌-◌, ◌*◌, ◌%◌, ◌^◌, ◌<◌, ◌≤◌, Bool, true, false, cond, ◌==◌, Result, Ok, refl, sym, subst, ap, ◌∙◌, arith, rules}
use Rattle.std.proofs.Math.Nat.{mod-eq_of_lt}
use Rattle.std.proofs.lemmas.Bool.Decides.{nat_tests}
use Rattle.mi_model.specs.declared.Pair.{Pair}
use Rattle.mi_model.specs.declared.Form.{Form}
use Rattle.mi_model.specs.declared.Why.{Why}
use Rattle.mi_model.specs.Pairs.{IsAllowedPair}
use Rattle.mi_model.specs.Plain.{wrapped}
use Rattle.mi_model.specs.declared.TheConstants.{GRID}
use Rattle.mi_model.specs.Origin.Sort.{Plain, Data, Code, Mixed}
use Rattle.mi_model.specs.Forms.{value_at, IsSize, Tells}
use Rattle.mi_model.specs.Origin.{data_least, data_most, code_least, code_most, code_bound, Sort, sort_of, equal_sorts, undecided, is_data_base, is_code_base}
use Rattle.mi_form.proofs.Grid.{cancel_mod}
use Rattle.mi_form.proofs.Low.{low_value}
use Rattle.mi_form.proofs.Sorts.{IsAddress, IsValue, sort_value}

pub same_test : (a b c d : ℕ) → (a ≡ b → c ≡ d) → (c ≡ d → a ≡ b) → (a == b) ≡ (c == d)
same_test a b c d to from = grind (arith, nat_tests)

pub not_equal : (a b : ℕ) → a ≢ b → (a == b) ≡ false
not_equal a b ne = grind (arith, nat_tests)

pub now_equal : (a b : ℕ) → a ≡ b → (a == b) ≡ true
now_equal a b e = grind (arith, nat_tests)

turned_test : (a b : ℕ) → (a == b) ≡ (b == a)
turned_test a b = same_test a b b a sym sym

pub different : (s t : Bool) → s ≡ true → t ≡ false → s ≢ t
different s t e f h = cc

-- forms with the same a and b
pub same_bases : (x y : Form) (pair : Pair) → x.c < 2 ^ 64 → y.c < 2 ^ 64 → x.a ≡ y.a → x.b ≡ y.b → (value_at x pair == value_at y pair) ≡ (x.c == y.c)
same_bases x y pair hx hy ea eb =
    let moved : value_at y pair ≡ wrapped (x.a * pair.d + x.b * pair.k + y.c) =
    sym (ap (λ (n : ℕ). wrapped (n * pair.d + x.b * pair.k + y.c)) ea ∙ ap (λ (n : ℕ). wrapped (y.a * pair.d + n * pair.k + y.c)) eb) in
    same_test (value_at x pair) (value_at y pair) x.c y.c
    (λ e. sym (mod-eq_of_lt hx) ∙ (cancel_mod (2 ^ 64) (x.a * pair.d + x.b * pair.k) x.c y.c (omega arith) (e ∙ moved) ∙ mod-eq_of_lt hy))
    (λ e. ap (λ (n : ℕ). wrapped (x.a * pair.d + x.b * pair.k + n)) e ∙ sym moved)

-- forms whose low bits differ
pub other_low : (x y : Form) (pair : Pair) → IsAllowedPair pair → x.c % GRID ≢ y.c % GRID → (value_at x pair == value_at y pair) ≡ false
other_low x y pair allowed ne =
    not_equal (value_at x pair) (value_at y pair)
    (λ e. ne (sym (low_value x pair allowed) ∙ (ap (λ (n : ℕ). n % GRID) e ∙ low_value y pair allowed)))

-- no data base makes an address of a number where the difference is none
no_data_base : (c n d : ℕ) → data_least ≤ d → d ≤ data_most → d % GRID ≡ 0 → d + c ≡ n → is_data_base (n - c) ≡ false → ⊥
no_data_base c n d least most aligned e none =
    let same : n - c ≡ d = omega arith in
    let found : is_data_base d ≡ true = grind (arith, nat_tests) in
    absurd (different _ _ found (ap (λ (i : ℕ). is_data_base i) (sym same) ∙ none) refl)

-- an address is a number where the base is their difference, if it may be that
data_cases : (t u : Bool) (c n : ℕ) (p : Pair → Bool) → is_data_base (n - c) ≡ t → (n - c == data_least) ≡ u
    → ((pair : Pair) → IsAllowedPair pair → p pair ≡ (pair.d + c == n))
    → Tells p (cond t (undecided (n - c) code_least (cond u data_most data_least) code_least) (Ok false))
data_cases true true c n p et eu h =
    let e : n - c ≡ data_least = grind (arith, nat_tests) in
    let first : IsAllowedPair (record { d = n - c; k = code_least }) = record { d_aligned = rw e refl; k_aligned = refl; d_least = omega arith; d_most = omega arith; k_least = omega arith; k_most = omega arith } in
    let second : IsAllowedPair (record { d = data_most; k = code_least }) = search rules in
    (first, second, different _ _ (h _ first ∙ now_equal (n - c + c) n (omega arith)) (h _ second ∙ not_equal (data_most + c) n (omega arith)))
data_cases true false c n p et eu h =
    let least : data_least ≤ n - c = grind (arith, nat_tests) in
    let most : n - c ≤ data_most = grind (arith, nat_tests) in
    let aligned : (n - c) % GRID ≡ 0 = grind (arith, nat_tests) in
    let ne : n - c ≢ data_least = grind (arith, nat_tests) in
    let first : IsAllowedPair (record { d = n - c; k = code_least }) = record { d_aligned = aligned; k_aligned = refl; d_least = least; d_most = most; k_least = omega arith; k_most = omega arith } in
    let second : IsAllowedPair (record { d = data_least; k = code_least }) = search rules in
    (first, second, different _ _ (h _ first ∙ now_equal (n - c + c) n (omega arith)) (h _ second ∙ not_equal (data_least + c) n (omega arith)))
data_cases false u c n p et eu h =
    λ pair allowed. h pair allowed ∙ not_equal (pair.d + c) n (λ e. no_data_base c n pair.d allowed.d_least allowed.d_most allowed.d_aligned e et)

no_code_base : (c n k : ℕ) → code_least ≤ k → k ≤ code_most → k % GRID ≡ 0 → k + c ≡ n → is_code_base (n - c) ≡ false → ⊥
no_code_base c n k least most aligned e none =
    let same : n - c ≡ k = omega arith in
    let found : is_code_base k ≡ true = grind (arith, nat_tests) in
    absurd (different _ _ found (ap (λ (i : ℕ). is_code_base i) (sym same) ∙ none) refl)

code_cases : (t u : Bool) (c n : ℕ) (p : Pair → Bool) → is_code_base (n - c) ≡ t → (n - c == code_least) ≡ u
    → ((pair : Pair) → IsAllowedPair pair → p pair ≡ (pair.k + c == n))
    → Tells p (cond t (undecided data_least (n - c) data_least (cond u code_most code_least)) (Ok false))
code_cases true true c n p et eu h =
    let e : n - c ≡ code_least = grind (arith, nat_tests) in
    let first : IsAllowedPair (record { d = data_least; k = n - c }) = record { d_aligned = refl; k_aligned = rw e refl; d_least = omega arith; d_most = omega arith; k_least = omega arith; k_most = omega arith } in
    let second : IsAllowedPair (record { d = data_least; k = code_most }) = search rules in
    (first, second, different _ _ (h _ first ∙ now_equal (n - c + c) n (omega arith)) (h _ second ∙ not_equal (code_most + c) n (omega arith)))
code_cases true false c n p et eu h =
    let least : code_least ≤ n - c = grind (arith, nat_tests) in
    let most : n - c ≤ code_most = grind (arith, nat_tests) in
    let aligned : (n - c) % GRID ≡ 0 = grind (arith, nat_tests) in
    let ne : n - c ≢ code_least = grind (arith, nat_tests) in
    let first : IsAllowedPair (record { d = data_least; k = n - c }) = record { d_aligned = refl; k_aligned = aligned; d_least = omega arith; d_most = omega arith; k_least = least; k_most = most } in
    let second : IsAllowedPair (record { d = data_least; k = code_least }) = search rules in
    (first, second, different _ _ (h _ first ∙ now_equal (n - c + c) n (omega arith)) (h _ second ∙ not_equal (code_least + c) n (omega arith)))
code_cases false u c n p et eu h =
    λ pair allowed. h pair allowed ∙ not_equal (pair.k + c) n (λ e. no_code_base c n pair.k allowed.k_least allowed.k_most allowed.k_aligned e et)

-- every address in the region is below every one of the code table
data_is_below : (c d v w : ℕ) (pair : Pair) → IsAllowedPair pair → IsAddress pair.d c v (2 ^ 23) → IsAddress pair.k d w code_bound → v ≡ w → ⊥
data_is_below c d v w pair allowed x y e = omega arith

-- what two sorts say of equality, at values that fit them
equal_sorts_tell : (s t : Sort) (v w : Pair → ℕ) → ((pair : Pair) → IsAllowedPair pair → IsValue s pair (v pair)) → ((pair : Pair) → IsAllowedPair pair → IsValue t pair (w pair))
    → Tells (λ pair. v pair == w pair) (equal_sorts s t)
equal_sorts_tell (Plain m) (Plain n) v w hs ht = tt
equal_sorts_tell (Plain n) (Data c) v w hs ht =
    data_cases (is_data_base (n - c)) (n - c == data_least) c n (λ pair. v pair == w pair) refl refl
    (λ pair allowed. turned_test (v pair) (w pair) ∙ (ap (λ (i : ℕ). i == v pair) (ht pair allowed).value ∙ ap (λ (i : ℕ). pair.d + c == i) (hs pair allowed).0))
equal_sorts_tell (Plain n) (Code c) v w hs ht =
    code_cases (is_code_base (n - c)) (n - c == code_least) c n (λ pair. v pair == w pair) refl refl
    (λ pair allowed. turned_test (v pair) (w pair) ∙ (ap (λ (i : ℕ). i == v pair) (ht pair allowed).value ∙ ap (λ (i : ℕ). pair.k + c == i) (hs pair allowed).0))
equal_sorts_tell (Plain n) Mixed v w hs ht = tt
equal_sorts_tell (Data c) (Plain n) v w hs ht =
    data_cases (is_data_base (n - c)) (n - c == data_least) c n (λ pair. v pair == w pair) refl refl
    (λ pair allowed. ap (λ (i : ℕ). i == w pair) (hs pair allowed).value ∙ ap (λ (i : ℕ). pair.d + c == i) (ht pair allowed).0)
equal_sorts_tell (Data c) (Data d) v w hs ht = tt
equal_sorts_tell (Data c) (Code d) v w hs ht =
    λ pair allowed. (let x = hs pair allowed in let y = ht pair allowed in not_equal (v pair) (w pair) (λ e. data_is_below c d (v pair) (w pair) pair allowed x y e))
equal_sorts_tell (Data c) Mixed v w hs ht = tt
equal_sorts_tell (Code c) (Plain n) v w hs ht =
    code_cases (is_code_base (n - c)) (n - c == code_least) c n (λ pair. v pair == w pair) refl refl
    (λ pair allowed. ap (λ (i : ℕ). i == w pair) (hs pair allowed).value ∙ ap (λ (i : ℕ). pair.k + c == i) (ht pair allowed).0)
equal_sorts_tell (Code c) (Data d) v w hs ht =
    λ pair allowed. (let x = hs pair allowed in let y = ht pair allowed in not_equal (v pair) (w pair) (λ e. data_is_below d c (w pair) (v pair) pair allowed y x (sym e)))
equal_sorts_tell (Code c) (Code d) v w hs ht = tt
equal_sorts_tell (Code c) Mixed v w hs ht = tt
equal_sorts_tell Mixed (Plain n) v w hs ht = tt
equal_sorts_tell Mixed (Data d) v w hs ht = tt
equal_sorts_tell Mixed (Code d) v w hs ht = tt
equal_sorts_tell Mixed Mixed v w hs ht = tt

pub equal_told : (size : ℕ) (x y : Form) (r : Result Bool Why) → r ≡ equal_sorts (sort_of size x) (sort_of size y) → x.c < 2 ^ 64 → y.c < 2 ^ 64 → IsSize size
    → Tells (λ pair. value_at x pair == value_at y pair) r
equal_told size x y r e hx hy fits =
    subst (λ (r : Result Bool Why). Tells (λ pair. value_at x pair == value_at y pair) r) (sym e)
    (equal_sorts_tell (sort_of size x) (sort_of size y) (λ pair. value_at x pair) (λ pair. value_at y pair)
    (λ pair allowed. sort_value size x pair hx fits allowed) (λ pair allowed. sort_value size y pair hy fits allowed))
