-- The low bits of a form are those of its c, at every allowed pair.
use Rattle.std.proofs.Common.{◌≡◌, ℕ, ◌+◌, ◌-◌, ◌*◌, ◌/◌, ◌%◌, ◌^◌, ◌<◌, ◌≤◌, Bool, true, false, cond, ◌||◌, nat_lt, Result, Ok, Err, refl, sym, subst, ap, ◌∙◌, arith, bit_and, bit_or, ◌⊎◌, inl, inr}
use Rattle.std.specs.Prelude.{bit_xor}
use Rattle.std.specs.Int.{w64, trailing_zeros}
use lib.Count.{count_trailing_zeros}
use Rattle.std.specs.Int.Bits.{or_zero_r, xor_zero_r, and_zero_r}
use Rattle.std.proofs.Math.Nat.{div-add-mod, mod-eq_of_lt, mod-lt, mod-mod_of_dvd, dvd-mul_right}
use Rattle.std.proofs.lemmas.Nat.{and_block, or_block, xor_block, and_mask, and_le_l, or_lt, xor_lt}
use Rattle.std.proofs.lemmas.Bool.Decides.{nat_tests}
use Rattle.mi_model.specs.declared.Pair.{Pair}
use Rattle.mi_model.specs.declared.Form.{Form}
use Rattle.mi_model.specs.declared.Why.{Why}
use Rattle.mi_model.specs.declared.Why.TheVariants.{Mask}
use Rattle.mi_model.specs.Pairs.{IsAllowedPair}
use Rattle.mi_model.specs.Plain.{wrapped}
use Rattle.mi_model.specs.declared.TheConstants.{GRID, WRAP}
use Rattle.mi_model.specs.Forms.{value_at, normal, plain_form, is_plain, IsNormal, TellsForm}
use Rattle.mi_model.specs.Origin.{masked, or_low_of, xor_low_of}
use Rattle.mi_form.proofs.Grid.{same_mod, multiple, low_part_mod}
use Rattle.mi_form.proofs.Values.{normal_value}

-- where the bits above the grid begin
abbrev grid_bits : ℕ
grid_bits = trailing_zeros w64 GRID

abbrev wrap_bits : ℕ
wrap_bits = trailing_zeros w64 WRAP

-- an operation with bits below 2 ^ j leaves the others
or_apart : (j m q r : ℕ) → m < 2 ^ j → r < 2 ^ j → bit_or (2 ^ j * q + r) m ≡ 2 ^ j * q + bit_or r m
or_apart j m q r hm hr =
    let turned : 2 ^ j * q + r ≡ q * 2 ^ j + r = omega arith in
    let low : m ≡ 0 * 2 ^ j + m = omega arith in
    ap (λ (n : ℕ). bit_or n m) turned
    ∙ (ap (λ (n : ℕ). bit_or (q * 2 ^ j + r) n) low
    ∙ (or_block j q 0 r m hr hm
    ∙ (ap (λ (n : ℕ). n * 2 ^ j + bit_or r m) (or_zero_r q) ∙ omega arith)))

xor_apart : (j m q r : ℕ) → m < 2 ^ j → r < 2 ^ j → bit_xor (2 ^ j * q + r) m ≡ 2 ^ j * q + bit_xor r m
xor_apart j m q r hm hr =
    let turned : 2 ^ j * q + r ≡ q * 2 ^ j + r = omega arith in
    let low : m ≡ 0 * 2 ^ j + m = omega arith in
    ap (λ (n : ℕ). bit_xor n m) turned
    ∙ (ap (λ (n : ℕ). bit_xor (q * 2 ^ j + r) n) low
    ∙ (xor_block j q 0 r m hr hm
    ∙ (ap (λ (n : ℕ). n * 2 ^ j + bit_xor r m) (xor_zero_r q) ∙ omega arith)))

-- a mask of low bits sees the low bits alone
and_low : (j m n : ℕ) → m < 2 ^ j → 0 < 2 ^ j → bit_and n m ≡ bit_and (n % 2 ^ j) m
and_low j m n hm pos =
    let q = n / 2 ^ j in
    let r = n % 2 ^ j in
    let parts : 2 ^ j * q + r ≡ n = div-add-mod n (2 ^ j) in
    let turned : n ≡ q * 2 ^ j + r = omega arith in
    let low : m ≡ 0 * 2 ^ j + m = omega arith in
    ap (λ (i : ℕ). bit_and i m) turned
    ∙ (ap (λ (i : ℕ). bit_and (q * 2 ^ j + r) i) low
    ∙ (and_block j q 0 r m (mod-lt n pos) hm
    ∙ (ap (λ (i : ℕ). i * 2 ^ j + bit_and r m) (and_zero_r q) ∙ omega arith)))

-- a mask with all high bits keeps the high part
and_apart : (i j s q r : ℕ) → q < 2 ^ i → s < 2 ^ j → r < 2 ^ j → bit_and (2 ^ j * q + r) ((2 ^ i - 1) * 2 ^ j + s) ≡ 2 ^ j * q + bit_and r s
and_apart i j s q r hq hs hr =
    let turned : 2 ^ j * q + r ≡ q * 2 ^ j + r = omega arith in
    let kept : bit_and q (2 ^ i - 1) ≡ q = and_mask q i ∙ mod-eq_of_lt hq in
    ap (λ (n : ℕ). bit_and n ((2 ^ i - 1) * 2 ^ j + s)) turned
    ∙ (and_block j q (2 ^ i - 1) r s hr hs
    ∙ (ap (λ (n : ℕ). n * 2 ^ j + bit_and r s) kept ∙ omega arith))

-- what the bases of an allowed pair give has no low bits
pub aligned : (a b : ℕ) (pair : Pair) → IsAllowedPair pair → (a * pair.d + b * pair.k) % GRID ≡ 0
aligned a b pair allowed =
    let qd = pair.d / GRID in
    let qk = pair.k / GRID in
    let ed : a * (GRID * qd) ≡ a * pair.d = ap (λ (n : ℕ). a * n) (multiple GRID pair.d allowed.d_aligned) in
    let ek : b * (GRID * qk) ≡ b * pair.k = ap (λ (n : ℕ). b * n) (multiple GRID pair.k allowed.k_aligned) in
    same_mod GRID (a * pair.d + b * pair.k) 0 0 (a * qd + b * qk) (omega arith)

pub low_value : (x : Form) (pair : Pair) → IsAllowedPair pair → value_at x pair % GRID ≡ x.c % GRID
low_value x pair allowed =
    let s = x.a * pair.d + x.b * pair.k in
    let e : GRID * (s / GRID) ≡ s = multiple GRID s (aligned x.a x.b pair allowed) in
    mod-mod_of_dvd GRID (s + x.c) (dvd-mul_right GRID WRAP) ∙ same_mod GRID (s + x.c) x.c 0 (s / GRID) (omega arith)

-- the value of a form whose c went through an operation on the low bits
low_operation : (op : ℕ → ℕ) (x : Form) (pair : Pair) → x.c < 2 ^ 64 → IsAllowedPair pair
    → ((q r : ℕ) → q < WRAP → r < GRID → op (GRID * q + r) ≡ GRID * q + op r)
    → ((r : ℕ) → r < GRID → op r < GRID)
    → value_at (normal x.a x.b (op x.c)) pair ≡ op (value_at x pair)
low_operation op x pair below allowed apart low =
    normal_value x.a x.b (op x.c) pair allowed
    ∙ low_part_mod op GRID WRAP (x.a * pair.d + x.b * pair.k) x.c (omega arith) (omega arith) below (aligned x.a x.b pair allowed) apart low

pub or_low_value : (x : Form) (m : ℕ) (pair : Pair) → x.c < 2 ^ 64 → m < GRID → IsAllowedPair pair → value_at (normal x.a x.b (bit_or x.c m)) pair ≡ bit_or (value_at x pair) m
unfolding count_trailing_zeros
or_low_value x m pair below hm allowed =
    low_operation (λ (n : ℕ). bit_or n m) x pair below allowed
    (λ q r hq hr. or_apart grid_bits m q r hm hr) (λ r hr. or_lt grid_bits r m hr hm)

pub xor_low_value : (x : Form) (m : ℕ) (pair : Pair) → x.c < 2 ^ 64 → m < GRID → IsAllowedPair pair → value_at (normal x.a x.b (bit_xor x.c m)) pair ≡ bit_xor (value_at x pair) m
unfolding count_trailing_zeros
xor_low_value x m pair below hm allowed =
    low_operation (λ (n : ℕ). bit_xor n m) x pair below allowed
    (λ q r hq hr. xor_apart grid_bits m q r hm hr) (λ r hr. xor_lt grid_bits r m hr hm)

-- a number below the grid sees the low bits of a mask alone
and_below : (r m s : ℕ) → m ≡ (WRAP - 1) * GRID + s → r < GRID → s < GRID → bit_and r m ≡ bit_and r s
unfolding count_trailing_zeros
and_below r m s parts hr hs =
    let pos : 0 < WRAP = omega arith in
    let e : GRID * 0 + r ≡ r = omega arith in
    let f : bit_and (GRID * 0 + r) m ≡ GRID * 0 + bit_and r s =
    ap (λ (n : ℕ). bit_and (GRID * 0 + r) n) parts ∙ and_apart wrap_bits grid_bits s 0 r pos hs hr in
    sym (ap (λ (n : ℕ). bit_and n m) e) ∙ (f ∙ omega arith)

-- a mask that drops low bits alone
pub and_high_value : (x : Form) (m : ℕ) (pair : Pair) → x.c < 2 ^ 64 → m < 2 ^ 64 → 2 ^ 64 - 1 - m < GRID → IsAllowedPair pair → value_at (normal x.a x.b (bit_and x.c m)) pair ≡ bit_and (value_at x pair) m
unfolding count_trailing_zeros
and_high_value x m pair below whole hm allowed =
    let s = m - (WRAP - 1) * GRID in
    let hs : s < GRID = omega arith in
    let parts : m ≡ (WRAP - 1) * GRID + s = omega arith in
    let one : (q r : ℕ) → q < WRAP → r < GRID → bit_and (GRID * q + r) m ≡ GRID * q + bit_and r s =
    λ q r hq hr. ap (λ (n : ℕ). bit_and (GRID * q + r) n) parts ∙ and_apart wrap_bits grid_bits s q r hq hs hr in
    let below_grid : (r : ℕ) → r < GRID → bit_and r m ≡ bit_and r s =
    λ r hr. and_below r m s parts hr hs in
    low_operation (λ (n : ℕ). bit_and n m) x pair below allowed
    (λ q r hq hr. one q r hq hr ∙ ap (λ (n : ℕ). GRID * q + n) (sym (below_grid r hr)))
    (λ r hr. let le : bit_and r m ≤ r = and_le_l r m in omega arith)

pub and_low_value : (x : Form) (m : ℕ) (pair : Pair) → m < GRID → IsAllowedPair pair → bit_and x.c m ≡ bit_and (value_at x pair) m
unfolding count_trailing_zeros
and_low_value x m pair hm allowed =
    and_low grid_bits m x.c hm (omega arith)
    ∙ (ap (λ (n : ℕ). bit_and n m) (sym (low_value x pair allowed)) ∙ sym (and_low grid_bits m (value_at x pair) hm (omega arith)))

-- a plain form has the same value at every pair
pub plain_value : (n : ℕ) (pair : Pair) → n < 2 ^ 64 → value_at (plain_form n) pair ≡ n
plain_value n pair below =
    let e : 0 * pair.d + 0 * pair.k + n ≡ n = omega arith in
    ap (λ (i : ℕ). wrapped i) e ∙ mod-eq_of_lt below

pub is_plain_value : (x : Form) (pair : Pair) → x.c < 2 ^ 64 → x.a ≡ 0 → x.b ≡ 0 → value_at x pair ≡ x.c
is_plain_value x pair below ea eb =
    ap (λ (a : ℕ). wrapped (a * pair.d + x.b * pair.k + x.c)) ea
    ∙ (ap (λ (b : ℕ). wrapped (0 * pair.d + b * pair.k + x.c)) eb ∙ plain_value x.c pair below)

pub normal_is_normal : (a b c : ℕ) → IsNormal (normal a b c)
normal_is_normal a b c = record { a = mod-lt a (omega arith); b = mod-lt b (omega arith); c = mod-lt c (omega arith) }

pub plain_is_normal : (n : ℕ) → n < 2 ^ 64 → IsNormal (plain_form n)
plain_is_normal n below = record { a = omega arith; b = omega arith; c = below }

-- what the first test says
plain_or_low : (x : Form) (m : ℕ) → (is_plain x || nat_lt m GRID) ≡ true → ((x.a ≡ 0) × (x.b ≡ 0)) ⊎ (m < GRID)
plain_or_low x m e = grind (arith, nat_tests)

-- a plain form with another number as its c
replaced_value : (x : Form) (n : ℕ) (pair : Pair) → x.a ≡ 0 → x.b ≡ 0 → n < 2 ^ 64 → value_at (normal x.a x.b n) pair ≡ n
replaced_value x n pair ea eb below =
    let same : normal x.a x.b n ≡ plain_form n = rw (ea, eb, mod-eq_of_lt below) refl in
    ap (λ (form : Form). value_at form pair) same ∙ plain_value n pair below

masked_low : (x : Form) (m : ℕ) (pair : Pair) → x.c < 2 ^ 64 → IsAllowedPair pair → ((x.a ≡ 0) × (x.b ≡ 0)) ⊎ (m < GRID) → value_at (plain_form (bit_and x.c m)) pair ≡ bit_and (value_at x pair) m
masked_low x m pair below allowed (inl e) =
    let le : bit_and x.c m ≤ x.c = and_le_l x.c m in
    let small : bit_and x.c m < 2 ^ 64 = omega arith in
    plain_value (bit_and x.c m) pair small ∙ ap (λ (n : ℕ). bit_and n m) (sym (is_plain_value x pair below e.0 e.1))
masked_low x m pair below allowed (inr low) =
    let le : bit_and x.c m ≤ x.c = and_le_l x.c m in
    let small : bit_and x.c m < 2 ^ 64 = omega arith in
    plain_value (bit_and x.c m) pair small ∙ and_low_value x m pair low allowed

or_low_any : (x : Form) (m : ℕ) (pair : Pair) → x.c < 2 ^ 64 → m < 2 ^ 64 → IsAllowedPair pair → ((x.a ≡ 0) × (x.b ≡ 0)) ⊎ (m < GRID) → value_at (normal x.a x.b (bit_or x.c m)) pair ≡ bit_or (value_at x pair) m
or_low_any x m pair below whole allowed (inl e) =
    replaced_value x (bit_or x.c m) pair e.0 e.1 (or_lt 64 x.c m below whole) ∙ ap (λ (n : ℕ). bit_or n m) (sym (is_plain_value x pair below e.0 e.1))
or_low_any x m pair below whole allowed (inr low) = or_low_value x m pair below low allowed

xor_low_any : (x : Form) (m : ℕ) (pair : Pair) → x.c < 2 ^ 64 → m < 2 ^ 64 → IsAllowedPair pair → ((x.a ≡ 0) × (x.b ≡ 0)) ⊎ (m < GRID) → value_at (normal x.a x.b (bit_xor x.c m)) pair ≡ bit_xor (value_at x pair) m
xor_low_any x m pair below whole allowed (inl e) =
    replaced_value x (bit_xor x.c m) pair e.0 e.1 (xor_lt 64 x.c m below whole) ∙ ap (λ (n : ℕ). bit_xor n m) (sym (is_plain_value x pair below e.0 e.1))
xor_low_any x m pair below whole allowed (inr low) = xor_low_value x m pair below low allowed

masked_cases : (t u : Bool) (x : Form) (m : ℕ) → x.c < 2 ^ 64 → m < 2 ^ 64 → (is_plain x || nat_lt m GRID) ≡ t → nat_lt (2 ^ 64 - 1 - m) GRID ≡ u
    → TellsForm (λ pair. bit_and (value_at x pair) m) (cond t (Ok (plain_form (bit_and x.c m))) (cond u (Ok (normal x.a x.b (bit_and x.c m))) (Err Mask)))
masked_cases true u x m below whole e f =
    let le : bit_and x.c m ≤ x.c = and_le_l x.c m in
    ((λ pair allowed. masked_low x m pair below allowed (plain_or_low x m e)), plain_is_normal (bit_and x.c m) (omega arith))
masked_cases false true x m below whole e f =
    let high : 2 ^ 64 - 1 - m < GRID = grind (arith, nat_tests) in
    ((λ pair allowed. and_high_value x m pair below whole high allowed), normal_is_normal x.a x.b (bit_and x.c m))
masked_cases false false x m below whole e f = tt

pub masked_tells : (x : Form) (m : ℕ) (r : Result Form Why) → r ≡ masked x m → x.c < 2 ^ 64 → m < 2 ^ 64 → TellsForm (λ pair. bit_and (value_at x pair) m) r
masked_tells x m r e below whole =
    subst (λ (r : Result Form Why). TellsForm (λ pair. bit_and (value_at x pair) m) r) (sym e)
    (masked_cases (is_plain x || nat_lt m GRID) (nat_lt (2 ^ 64 - 1 - m) GRID) x m below whole refl refl)

or_cases : (t : Bool) (x : Form) (m : ℕ) → x.c < 2 ^ 64 → m < 2 ^ 64 → (is_plain x || nat_lt m GRID) ≡ t
    → TellsForm (λ pair. bit_or (value_at x pair) m) (cond t (Ok (normal x.a x.b (bit_or x.c m))) (Err Mask))
or_cases true x m below whole e = ((λ pair allowed. or_low_any x m pair below whole allowed (plain_or_low x m e)), normal_is_normal x.a x.b (bit_or x.c m))
or_cases false x m below whole e = tt

pub or_low_tells : (x : Form) (m : ℕ) (r : Result Form Why) → r ≡ or_low_of x m → x.c < 2 ^ 64 → m < 2 ^ 64 → TellsForm (λ pair. bit_or (value_at x pair) m) r
or_low_tells x m r e below whole =
    subst (λ (r : Result Form Why). TellsForm (λ pair. bit_or (value_at x pair) m) r) (sym e)
    (or_cases (is_plain x || nat_lt m GRID) x m below whole refl)

xor_cases : (t : Bool) (x : Form) (m : ℕ) → x.c < 2 ^ 64 → m < 2 ^ 64 → (is_plain x || nat_lt m GRID) ≡ t
    → TellsForm (λ pair. bit_xor (value_at x pair) m) (cond t (Ok (normal x.a x.b (bit_xor x.c m))) (Err Mask))
xor_cases true x m below whole e = ((λ pair allowed. xor_low_any x m pair below whole allowed (plain_or_low x m e)), normal_is_normal x.a x.b (bit_xor x.c m))
xor_cases false x m below whole e = tt

pub xor_low_tells : (x : Form) (m : ℕ) (r : Result Form Why) → r ≡ xor_low_of x m → x.c < 2 ^ 64 → m < 2 ^ 64 → TellsForm (λ pair. bit_xor (value_at x pair) m) r
xor_low_tells x m r e below whole =
    subst (λ (r : Result Form Why). TellsForm (λ pair. bit_xor (value_at x pair) m) r) (sym e)
    (xor_cases (is_plain x || nat_lt m GRID) x m below whole refl)
