-- What forms answer as addresses of code is right at every allowed pair.
use Rattle.std.proofs.Common.{◌≡◌, ℕ, ◌+◌, ◌-◌, ◌*◌, ◌/◌, ◌%◌, ◌^◌, ◌<◌, ◌≤◌, Bool, true, false, cond, ◌==◌, ◌&&◌, nat_lt, nat_le, None, Some, Ok, Err, refl, sym, ap, ◌∙◌, arith, rules}
use Rattle.std.proofs.lemmas.Bool.{and_parts, and_from, and_left, both_ways, false_from_ne_true, ltb-true, ltb-false, eqb-true, le-ltb, lt-ltb, eq-eqb}
use Rattle.std.proofs.lemmas.Bool.Decides.{nat_tests}
use Rattle.mi_model.specs.declared.Pair.{Pair}
use Rattle.mi_model.specs.declared.Form.{Form}
use Rattle.mi_model.specs.declared.Why.TheVariants.{Far}
use Rattle.mi_model.specs.declared.TheConstants.{GRID}
use Rattle.mi_model.specs.Pairs.{IsAllowedPair}
use Rattle.mi_model.specs.Plain.{wrapped, less_by, plain_tag}
use Rattle.mi_model.specs.Forms.{value_at, is_plain, IsNormal, IsSize, Tells}
use Rattle.mi_model.specs.Origin.{data_least, code_least, code_most, undecided, base_up_to, tag_at, tag_of_plain, tag_of}
use Rattle.mi_form.proofs.Sorts.{value_from_parts}
use Rattle.mi_form.proofs.Combined.{plain_at}
use Rattle.mi_form.proofs.Places.{own_distance, some_or_none}

-- is a distance from the code base that of a tag's code
abbrev is_code : ℕ → Bool
is_code o = nat_lt o 1920 && (o % 16 == 0)

tag_none : (o : ℕ) → is_code o ≡ false → tag_at o ≡ None
tag_none o e = ap (λ (t : Bool). cond t (Some (o / 16)) None) e

tag_some : (o : ℕ) → is_code o ≡ true → tag_at o ≡ Some (o / 16)
tag_some o e = ap (λ (t : Bool). cond t (Some (o / 16)) None) e

far_is_none : (o : ℕ) → 1920 ≤ o → tag_at o ≡ None
far_is_none o far = tag_none o (and_left (nat_lt o 1920) (o % 16 == 0) (le-ltb o 1920 far))

-- the pair at which a number is no address of a tag's code
abbrev other_code : Bool → Pair
other_code u = record { d = data_least; k = cond u code_most code_least }

other_code_allowed : (u : Bool) → IsAllowedPair (other_code u)
other_code_allowed true = search rules
other_code_allowed false = search rules

other_code_none : (u : Bool) (n : ℕ) → nat_lt (n - code_least) 1920 ≡ u → n < 2 ^ 64 → code_least ≤ n → plain_tag (other_code u) n ≡ None
other_code_none true n eu below least =
    let near : n - code_least < 1920 = ltb-true (n - code_least) 1920 eu in
    far_is_none (less_by n code_most) (omega arith)
other_code_none false n eu below least =
    let far : 1920 ≤ n - code_least = ltb-false (n - code_least) 1920 eu in
    far_is_none (less_by n code_least) (omega arith)

-- the distance from the greatest base is the least, and it is that of a code where another is
base_is_nearest : (k n : ℕ) → k % GRID ≡ 0 → k ≤ code_most → k ≤ n → k ≤ base_up_to code_most n
base_is_nearest k n aligned most le = omega arith

base_is_even : (k n : ℕ) → k % GRID ≡ 0 → k ≤ n → (n - k) % 16 ≡ 0 → (n - base_up_to code_most n) % 16 ≡ 0
base_is_even k n aligned le even = omega arith

-- the tests of a number against the greatest base
abbrev tests : ℕ → Bool
tests n = nat_le code_least n && nat_lt (n - base_up_to code_most n) 1920 && ((n - base_up_to code_most n) % 16 == 0)

tests_from : (n : ℕ) → code_least ≤ n → n - base_up_to code_most n < 1920 → (n - base_up_to code_most n) % 16 ≡ 0 → tests n ≡ true
tests_from n least near even = grind (arith, nat_tests)

tests_parts : (n : ℕ) → tests n ≡ true → (code_least ≤ n) × (n - base_up_to code_most n < 1920) × ((n - base_up_to code_most n) % 16 ≡ 0)
tests_parts n e =
    let least : code_least ≤ n = grind (arith, nat_tests) in
    let near : n - base_up_to code_most n < 1920 = grind (arith, nat_tests) in
    let even : (n - base_up_to code_most n) % 16 ≡ 0 = grind (arith, nat_tests) in
    (least, near, even)

-- where a tag's code stands at a number at some pair, the tests hold
tests_hold : (n k : ℕ) → n < 2 ^ 64 → k % GRID ≡ 0 → code_least ≤ k → k ≤ code_most → is_code (less_by n k) ≡ true → tests n ≡ true
tests_hold n k below aligned least most e =
    let p = and_parts (nat_lt (less_by n k) 1920) (less_by n k % 16 == 0) e in
    let near : less_by n k < 1920 = ltb-true (less_by n k) 1920 p.0 in
    let even : less_by n k % 16 ≡ 0 = eqb-true (less_by n k % 16) 0 p.1 in
    let le : k ≤ n = omega arith in
    let same : less_by n k ≡ n - k = omega arith in
    let base : k ≤ base_up_to code_most n = base_is_nearest k n aligned most le in
    tests_from n (omega arith) (omega arith) (base_is_even k n aligned le (ap (λ (i : ℕ). i % 16) (sym same) ∙ even))

plain_tags : (t u : Bool) (n : ℕ) (v : Pair → ℕ) → tests n ≡ t → nat_lt (n - code_least) 1920 ≡ u → n < 2 ^ 64 → ((pair : Pair) → v pair ≡ n)
    → Tells (λ pair. plain_tag pair (v pair)) (cond t (undecided data_least (base_up_to code_most n) data_least (cond u code_most code_least)) (Ok None))
plain_tags true u n v et eu below same =
    let p = tests_parts n et in
    let least : code_least ≤ n = p.0 in
    let near : n - base_up_to code_most n < 1920 = p.1 in
    let base = base_up_to code_most n in
    let first : IsAllowedPair (record { d = data_least; k = base }) = record { d_aligned = refl; k_aligned = omega arith; d_least = omega arith; d_most = omega arith; k_least = omega arith; k_most = omega arith } in
    let distance : less_by n base ≡ n - base = omega arith in
    let code : is_code (n - base) ≡ true = and_from (nat_lt (n - base) 1920) ((n - base) % 16 == 0) (lt-ltb (n - base) 1920 near) (eq-eqb ((n - base) % 16) 0 p.2) in
    let at_first = ap (λ (i : ℕ). tag_at (less_by i base)) (same (record { d = data_least; k = base })) ∙ (ap (λ (i : ℕ). tag_at i) distance ∙ tag_some (n - base) code) in
    (first, other_code_allowed u, some_or_none _ _ _ at_first (ap (λ (i : ℕ). plain_tag (other_code u) i) (same (other_code u)) ∙ other_code_none u n eu below least))
plain_tags false u n v et eu below same = λ pair allowed.
    ap (λ (i : ℕ). plain_tag pair i) (same pair)
    ∙ tag_none (less_by n pair.k) (false_from_ne_true (is_code (less_by n pair.k))
    (λ e. both_ways (tests n) et (tests_hold n pair.k below allowed.k_aligned allowed.k_least allowed.k_most e)))

-- an address behind the code base
code_value : (x : Form) (pair : Pair) → x.a ≡ 0 → x.b ≡ 1 → value_at x pair ≡ wrapped (pair.k + x.c)
code_value x pair ea eb =
    ap (λ (i : ℕ). wrapped (i * pair.d + x.b * pair.k + x.c)) ea
    ∙ (ap (λ (i : ℕ). wrapped (0 * pair.d + i * pair.k + x.c)) eb ∙ ap (λ (i : ℕ). wrapped i) (omega arith))

tag_cases : (t u s : Bool) (size : ℕ) (x : Form) → is_plain x ≡ t → ((x.a == 0) && (x.b == 1)) ≡ u → ((x.a == 1) && (x.b == 0) && nat_le x.c size) ≡ s → IsNormal x → IsSize size
    → Tells (λ pair. plain_tag pair (value_at x pair)) (cond t (tag_of_plain x.c) (cond u (Ok (tag_at x.c)) (cond s (Ok None) (Err Far))))
tag_cases true u s size x et eu es nx fits =
    plain_tags (tests x.c) (nat_lt (x.c - code_least) 1920) x.c (λ pair. value_at x pair) refl refl nx.c (λ pair. plain_at x pair nx et)
tag_cases false true s size x et eu es nx fits = λ pair allowed.
    (let e = and_parts (x.a == 0) (x.b == 1) eu in
    let value : value_at x pair ≡ wrapped (pair.k + x.c) = code_value x pair (eqb-true x.a 0 e.0) (eqb-true x.b 1 e.1) in
    ap (λ (i : ℕ). tag_at i) (ap (λ (i : ℕ). less_by i pair.k) value ∙ own_distance pair.k x.c nx.c (omega arith)))
tag_cases false false true size x et eu es nx fits = λ pair allowed.
    (let ea : x.a ≡ 1 = grind (arith, nat_tests) in
    let eb : x.b ≡ 0 = grind (arith, nat_tests) in
    let near : x.c ≤ size = grind (arith, nat_tests) in
    let value : value_at x pair ≡ pair.d + x.c = value_from_parts x pair 1 0 (pair.d + x.c) ea eb (omega arith) (omega arith) in
    far_is_none (less_by (value_at x pair) pair.k) (omega arith))
tag_cases false false false size x et eu es nx fits = tt

pub tag_tells : (size : ℕ) (x : Form) → IsNormal x → IsSize size → Tells (λ pair. plain_tag pair (value_at x pair)) (tag_of size x)
tag_tells size x nx fits = tag_cases (is_plain x) ((x.a == 0) && (x.b == 1)) ((x.a == 1) && (x.b == 0) && nat_le x.c size) size x refl refl refl nx fits
