-- What forms answer as addresses is right at every allowed pair.
use Rattle.std.proofs.Common.{◌≡◌, ◌≢◌, ℕ, ◌+◌, ◌-◌, ◌*◌, ◌^◌, ◌<◌, ◌≤◌, Bool, true, false, cond, ◌==◌, ◌&&◌, ◌||◌, nat_lt, nat_le, Option, None, Some, Ok, Err, refl, ap, ◌∙◌, arith, rules}
use Rattle.std.proofs.lemmas.Bool.{and_parts, or_parts, ltb-true, ltb-false, eqb-true, le-leb}
use Rattle.std.proofs.lemmas.Bool.Decides.{nat_tests}
use Rattle.mi_model.specs.declared.Pair.{Pair}
use Rattle.mi_model.specs.declared.Form.{Form}
use Rattle.mi_model.specs.declared.Why.TheVariants.{Far}
use Rattle.mi_model.specs.Pairs.{IsAllowedPair}
use Rattle.mi_model.specs.Plain.{wrapped, less_by, plain_place}
use Rattle.mi_model.specs.Forms.{value_at, is_plain, IsNormal, IsSize, Tells}
use Rattle.mi_model.specs.Origin.{data_least, data_most, code_least, code_bound, undecided, base_up_to, place_of_plain, place_of}
use Rattle.mi_form.proofs.Sorts.{value_from_parts}
use Rattle.mi_form.proofs.Combined.{plain_at}

-- the place of a number by the two tests
place_by : (pair : Pair) (size v : ℕ) (t u : Bool) → nat_le pair.d v ≡ t → nat_le (v - pair.d) size ≡ u → plain_place pair size v ≡ cond (t && u) (Some (v - pair.d)) None
place_by pair size v t u e f = rw (e, f) refl

no_place : (pair : Pair) (size v : ℕ) → pair.d ≤ 2 ^ 64 → size < less_by v pair.d → plain_place pair size v ≡ None
no_place pair size v most far = by_tests (nat_le pair.d v) (nat_le (v - pair.d) size) refl refl
  where
    by_tests : (t u : Bool) → nat_le pair.d v ≡ t → nat_le (v - pair.d) size ≡ u → plain_place pair size v ≡ None
    by_tests true true e f =
        let above : pair.d ≤ v = grind (arith, nat_tests) in
        let near : v - pair.d ≤ size = grind (arith, nat_tests) in
        absurd (omega arith)
    by_tests true false e f = place_by pair size v true false e f
    by_tests false u e f = place_by pair size v false u e f

some_place : (pair : Pair) (size v : ℕ) → pair.d ≤ v → v - pair.d ≤ size → plain_place pair size v ≡ Some (v - pair.d)
some_place pair size v above near = place_by pair size v true true (le-leb pair.d v above) (le-leb (v - pair.d) size near)

-- the place of an address behind the data base
own_place : (pair : Pair) (size c : ℕ) → pair.d ≤ 2 ^ 46 → c < 2 ^ 64 → IsSize size → plain_place pair size (wrapped (pair.d + c)) ≡ cond (nat_le c size) (Some c) None
own_place pair size c most below fits = by_test (nat_le c size) refl
  where
    by_test : (t : Bool) → nat_le c size ≡ t → plain_place pair size (wrapped (pair.d + c)) ≡ cond t (Some c) None
    by_test true e =
        let near : c ≤ size = grind (arith, nat_tests) in
        let distance : wrapped (pair.d + c) - pair.d ≡ c = omega arith in
        some_place pair size (wrapped (pair.d + c)) (omega arith) (omega arith) ∙ ap (λ (i : ℕ). Some i) distance
    by_test false e = let far : size < c = grind (arith, nat_tests) in no_place pair size (wrapped (pair.d + c)) (omega arith) (omega arith)

pub some_or_none : {A : Type 0} (o p : Option A) (a : A) → o ≡ Some a → p ≡ None → o ≢ p
some_or_none o p a e f h = cc

-- the distance of an address from its base
pub own_distance : (d c : ℕ) → c < 2 ^ 64 → d < 2 ^ 64 → less_by (wrapped (d + c)) d ≡ c
own_distance d c hc hd = omega arith

-- the pair at which a number is no address
abbrev other_data : Bool → Pair
other_data u = record { d = cond u data_least data_most; k = code_least }

other_data_allowed : (u : Bool) → IsAllowedPair (other_data u)
other_data_allowed true = search rules
other_data_allowed false = search rules

other_data_none : (u : Bool) (size n : ℕ) → nat_lt size (n - data_least) ≡ u → n < 2 ^ 64 → IsSize size → data_least ≤ n → plain_place (other_data u) size n ≡ None
other_data_none true size n eu below fits least =
    let far : size < n - data_least = ltb-true size (n - data_least) eu in
    no_place (other_data true) size n (omega arith) (omega arith)
other_data_none false size n eu below fits least =
    let near : n - data_least ≤ size = ltb-false size (n - data_least) eu in
    no_place (other_data false) size n (omega arith) (omega arith)

plain_places : (t u : Bool) (size n : ℕ) (v : Pair → ℕ) → (nat_lt n data_least || nat_lt (data_most + size) n) ≡ t → nat_lt size (n - data_least) ≡ u → n < 2 ^ 64 → IsSize size
    → ((pair : Pair) → v pair ≡ n)
    → Tells (λ pair. plain_place pair size (v pair)) (cond t (Ok None) (undecided (base_up_to data_most n) code_least (cond u data_least data_most) code_least))
plain_places true u size n v et eu below fits same = λ pair allowed.
    (let far : size < less_by n pair.d = grind (arith, nat_tests) in
    ap (λ (i : ℕ). plain_place pair size i) (same pair) ∙ no_place pair size n (omega arith) far)
plain_places false u size n v et eu below fits same =
    let e = or_parts (nat_lt n data_least) (nat_lt (data_most + size) n) et in
    let least : data_least ≤ n = ltb-false n data_least e.0 in
    let most : n ≤ data_most + size = ltb-false (data_most + size) n e.1 in
    let base = base_up_to data_most n in
    let first : IsAllowedPair (record { d = base; k = code_least }) = record { d_aligned = omega arith; k_aligned = refl; d_least = omega arith; d_most = omega arith; k_least = omega arith; k_most = omega arith } in
    let near : n - base ≤ size = omega arith in
    let at_first = ap (λ (i : ℕ). plain_place (record { d = base; k = code_least }) size i) (same (record { d = base; k = code_least })) ∙ some_place (record { d = base; k = code_least }) size n (omega arith) near in
    (first, other_data_allowed u, some_or_none _ _ _ at_first (ap (λ (i : ℕ). plain_place (other_data u) size i) (same (other_data u)) ∙ other_data_none u size n eu below fits least))

-- an address behind the data base
base_value : (x : Form) (pair : Pair) → x.a ≡ 1 → x.b ≡ 0 → value_at x pair ≡ wrapped (pair.d + x.c)
base_value x pair ea eb =
    ap (λ (i : ℕ). wrapped (i * pair.d + x.b * pair.k + x.c)) ea
    ∙ (ap (λ (i : ℕ). wrapped (1 * pair.d + i * pair.k + x.c)) eb ∙ ap (λ (i : ℕ). wrapped i) (omega arith))

-- the place of a form
place_cases : (t u s : Bool) (size : ℕ) (x : Form) → is_plain x ≡ t → ((x.a == 1) && (x.b == 0)) ≡ u → ((x.a == 0) && (x.b == 1) && nat_lt x.c code_bound) ≡ s → IsNormal x → IsSize size
    → Tells (λ pair. plain_place pair size (value_at x pair)) (cond t (place_of_plain size x.c) (cond u (Ok (cond (nat_le x.c size) (Some x.c) None)) (cond s (Ok None) (Err Far))))
place_cases true u s size x et eu es nx fits =
    plain_places (nat_lt x.c data_least || nat_lt (data_most + size) x.c) (nat_lt size (x.c - data_least)) size x.c (λ pair. value_at x pair) refl refl nx.c fits
    (λ pair. plain_at x pair nx et)
place_cases false true s size x et eu es nx fits = λ pair allowed.
    (let e = and_parts (x.a == 1) (x.b == 0) eu in
    let value : value_at x pair ≡ wrapped (pair.d + x.c) = base_value x pair (eqb-true x.a 1 e.0) (eqb-true x.b 0 e.1) in
    ap (λ (i : ℕ). plain_place pair size i) value ∙ own_place pair size x.c (omega arith) nx.c fits)
place_cases false false true size x et eu es nx fits = λ pair allowed.
    (let ea : x.a ≡ 0 = grind (arith, nat_tests) in
    let eb : x.b ≡ 1 = grind (arith, nat_tests) in
    let near : x.c < code_bound = grind (arith, nat_tests) in
    let value : value_at x pair ≡ pair.k + x.c = value_from_parts x pair 0 1 (pair.k + x.c) ea eb (omega arith) (omega arith) in
    no_place pair size (value_at x pair) (omega arith) (omega arith))
place_cases false false false size x et eu es nx fits = tt

pub place_tells : (size : ℕ) (x : Form) → IsNormal x → IsSize size → Tells (λ pair. plain_place pair size (value_at x pair)) (place_of size x)
place_tells size x nx fits = place_cases (is_plain x) ((x.a == 1) && (x.b == 0)) ((x.a == 0) && (x.b == 1) && nat_lt x.c code_bound) size x refl refl refl nx fits
