-- The values of sums, differences and products of forms at an allowed pair.
use Rattle.std.proofs.Common.{◌≡◌, ℕ, ◌+◌, ◌*◌, ◌%◌, ◌^◌, ◌<◌, refl, sym, ap, ◌∙◌, arith}
use Rattle.std.proofs.Math.Nat.{add-mod, mod-mod_of_dvd, dvd-mul_left, mod-eq_of_lt, mod-lt}
use Rattle.std.proofs.lemmas.Nat.{mul-mod_first}
use Rattle.mi_model.specs.declared.Pair.{Pair}
use Rattle.mi_model.specs.declared.Form.{Form}
use Rattle.mi_model.specs.Pairs.{IsAllowedPair}
use Rattle.mi_model.specs.Plain.{wrapped, less_by}
use Rattle.mi_model.specs.declared.TheConstants.{GRID, WRAP}
use Rattle.mi_model.specs.Forms.{value_at, normal}
use Rattle.mi_model.specs.Origin.{sum_of, difference_of, product_of}
use Rattle.mi_form.proofs.Grid.{parts_mod, difference_mod}

-- before it is taken modulo 2^64
abbrev pub whole : Form → Pair → ℕ
whole x pair = x.a * pair.d + x.b * pair.k + x.c

pub normal_value : (a b c : ℕ) (pair : Pair) → IsAllowedPair pair → value_at (normal a b c) pair ≡ wrapped (a * pair.d + b * pair.k + c)
normal_value a b c pair allowed = parts_mod GRID WRAP a b c pair.d pair.k allowed.d_aligned allowed.k_aligned

-- parts that wrapped around give the same normal form
wrapped_part : (n : ℕ) → wrapped n % WRAP ≡ n % WRAP
wrapped_part n = mod-mod_of_dvd WRAP n (dvd-mul_left WRAP GRID)

wrapped_twice : (n : ℕ) → wrapped (wrapped n) ≡ wrapped n
wrapped_twice n = let below : n % 2 ^ 64 < 2 ^ 64 = mod-lt n (omega arith) in mod-eq_of_lt below

pub normal_wrapped : (a b c : ℕ) → normal (wrapped a) (wrapped b) (wrapped c) ≡ normal a b c
normal_wrapped a b c = rw (wrapped_part a, wrapped_part b, wrapped_twice c) refl

sum_parts : (a a' b b' c c' d k : ℕ) → (a + a') * d + (b + b') * k + (c + c') ≡ (a * d + b * k + c) + (a' * d + b' * k + c')
sum_parts a a' b b' c c' d k = omega arith

product_parts : (a b c m d k : ℕ) → a * m * d + b * m * k + c * m ≡ (a * d + b * k + c) * m
product_parts a b c m d k = omega arith

pub sum_value : (x y : Form) (pair : Pair) → IsAllowedPair pair → value_at (sum_of x y) pair ≡ wrapped (value_at x pair + value_at y pair)
sum_value x y pair allowed =
    normal_value (x.a + y.a) (x.b + y.b) (x.c + y.c) pair allowed
    ∙ (ap (λ (n : ℕ). wrapped n) (sum_parts x.a y.a x.b y.b x.c y.c pair.d pair.k) ∙ add-mod (whole x pair) (whole y pair) (2 ^ 64))

pub product_value : (x : Form) (m : ℕ) (pair : Pair) → IsAllowedPair pair → value_at (product_of x m) pair ≡ wrapped (value_at x pair * m)
product_value x m pair allowed =
    normal_value (x.a * m) (x.b * m) (x.c * m) pair allowed
    ∙ (ap (λ (n : ℕ). wrapped n) (product_parts x.a x.b x.c m pair.d pair.k) ∙ sym (mul-mod_first (whole x pair) m (2 ^ 64)))

pub difference_value : (x y : Form) (pair : Pair) → y.a < 2 ^ 64 → y.b < 2 ^ 64 → y.c < 2 ^ 64 → IsAllowedPair pair
    → value_at (difference_of x y) pair ≡ less_by (value_at x pair) (value_at y pair)
difference_value x y pair ha hb hc allowed =
    normal_value (less_by x.a y.a) (less_by x.b y.b) (less_by x.c y.c) pair allowed
    ∙ difference_mod (2 ^ 64) x.a y.a x.b y.b x.c y.c pair.d pair.k (omega arith) (omega arith) (omega arith) (omega arith)
