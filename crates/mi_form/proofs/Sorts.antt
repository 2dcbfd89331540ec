-- What the sort of a form says about its value.
use Rattle.std.proofs.Common.{◌≡◌, ℕ, ◌+◌, ◌*◌, ◌^◌, ◌<◌, ◌≤◌, Bool, true, false, cond, ◌&&◌, ◌==◌, nat_lt, nat_le, refl, ap, ◌∙◌, arith}
use Rattle.std.proofs.Math.Nat.{mod-eq_of_lt}
use Rattle.std.proofs.lemmas.Bool.Decides.{nat_tests}
use Rattle.mi_model.specs.declared.Pair.{Pair}
use Rattle.mi_model.specs.declared.Form.{Form}
use Rattle.mi_model.specs.Pairs.{IsAllowedPair}
use Rattle.mi_model.specs.Plain.{wrapped}
use Rattle.mi_model.specs.Origin.Sort.{Plain, Data, Code, Mixed}
use Rattle.mi_model.specs.Forms.{value_at, is_plain, IsSize}
use Rattle.mi_model.specs.Origin.{code_bound, Sort, sort_of}

-- an address at c behind a base
pub record IsAddress (base c v most : ℕ) : Type 0 where
  pub value : v ≡ base + c
  pub near : c ≤ most

-- the value of a form of that sort
abbrev pub IsValue : Sort → Pair → ℕ → Type 0
IsValue (Plain n) pair v = (v ≡ n) × (n < 2 ^ 64)
IsValue (Data c) pair v = IsAddress pair.d c v (2 ^ 23)
IsValue (Code c) pair v = IsAddress pair.k c v code_bound
IsValue Mixed pair v = Unit {0}

pub value_from_parts : (x : Form) (pair : Pair) (a b n : ℕ) → x.a ≡ a → x.b ≡ b → a * pair.d + b * pair.k + x.c ≡ n → n < 2 ^ 64 → value_at x pair ≡ n
value_from_parts x pair a b n ea eb e below =
    ap (λ (i : ℕ). wrapped (i * pair.d + x.b * pair.k + x.c)) ea
    ∙ (ap (λ (i : ℕ). wrapped (a * pair.d + i * pair.k + x.c)) eb ∙ (ap (λ (i : ℕ). wrapped i) e ∙ mod-eq_of_lt below))

sort_cases : (t u v : Bool) (size : ℕ) (x : Form) (pair : Pair) → x.c < 2 ^ 64 → IsSize size → IsAllowedPair pair
    → is_plain x ≡ t → ((x.a == 1) && (x.b == 0) && nat_le x.c size) ≡ u → ((x.a == 0) && (x.b == 1) && nat_lt x.c code_bound) ≡ v
    → IsValue (cond t (Plain x.c) (cond u (Data x.c) (cond v (Code x.c) Mixed))) pair (value_at x pair)
sort_cases true u v size x pair below fits allowed et eu ev =
    let ea : x.a ≡ 0 = grind (arith, nat_tests) in
    let eb : x.b ≡ 0 = grind (arith, nat_tests) in
    (value_from_parts x pair 0 0 x.c ea eb (omega arith) below, below)
sort_cases false true v size x pair below fits allowed et eu ev =
    let ea : x.a ≡ 1 = grind (arith, nat_tests) in
    let eb : x.b ≡ 0 = grind (arith, nat_tests) in
    let le : x.c ≤ size = grind (arith, nat_tests) in
    record { value = value_from_parts x pair 1 0 (pair.d + x.c) ea eb (omega arith) (omega arith); near = omega arith }
sort_cases false false true size x pair below fits allowed et eu ev =
    let ea : x.a ≡ 0 = grind (arith, nat_tests) in
    let eb : x.b ≡ 1 = grind (arith, nat_tests) in
    let le : x.c < code_bound = grind (arith, nat_tests) in
    record { value = value_from_parts x pair 0 1 (pair.k + x.c) ea eb (omega arith) (omega arith); near = omega arith }
sort_cases false false false size x pair below fits allowed et eu ev = tt

pub sort_value : (size : ℕ) (x : Form) (pair : Pair) → x.c < 2 ^ 64 → IsSize size → IsAllowedPair pair → IsValue (sort_of size x) pair (value_at x pair)
sort_value size x pair below fits allowed =
    sort_cases (is_plain x) ((x.a == 1) && (x.b == 0) && nat_le x.c size) ((x.a == 0) && (x.b == 1) && nat_lt x.c code_bound) size x pair below fits allowed refl refl refl
