-- The definitions of divisions give quotients and remainders, and there are no others.
use Rattle.std.proofs.Common.{◌≡◌, ℕ, zero, suc, ◌+◌, ◌-◌, ◌*◌, ◌/◌, ◌%◌, ◌<◌, Bool, true, false, not, ℤ, pos, neg_ℤ, ◌+ℤ◌, ◌-ℤ◌, ◌*ℤ◌, ◌<ℤ◌, unsigned_abs, refl, sym, ◌∙◌, ap, arith}
use Rattle.std.proofs.lemmas.Int.{ints, unsigned_abs-mul}
use Rattle.std.proofs.lemmas.Nat.{div-add-mod', mod_below}
use Rattle.std.proofs.Math.Nat.{mod-le, mul_comm}
use borrow.Author.Differences.{up, down}
use Rattle.mi_model.specs.Plain.{rounded_up_quotient, missing}
use Rattle.mi_num.specs.Quotients.{Divides, DividesCut, DividesFloored}
use Rattle.mi_num.proofs.SignLemmas.{of_sign, sign_of_product, of_sign-size, of_sign-product, of_sign-sum, of_sign-below, of_sign-above}

-- a product that is smaller than one of its factors is 0
no_factor : (k n : ℕ) → k * n < n → k ≡ 0
no_factor zero n below = refl
no_factor (suc k) n below = absurd (grind arith)

mul-add3 : (a b c n : ℕ) → (a + b + c) * n ≡ a * n + b * n + c * n
mul-add3 a b c n = grind arith

-- equal sums, each times a number
times_each : (a b c d e f n : ℕ) → a + b + c ≡ d + e + f → a * n + b * n + c * n ≡ d * n + e * n + f * n
times_each a b c d e f n is = sym (mul-add3 a b c n) ∙ ap (λ (m : ℕ). m * n) is ∙ mul-add3 d e f n

-- a difference times a number
difference_times : (a b c : ℤ) → (a -ℤ b) *ℤ c ≡ a *ℤ c -ℤ b *ℤ c
difference_times a b c =
    let is : up (a -ℤ b) + down a + up b ≡ down (a -ℤ b) + up a + down b = omega (arith, ints) in
    let by_up = times_each _ _ _ _ _ _ (up c) is in
    let by_down = times_each _ _ _ _ _ _ (down c) is in
    omega (arith, ints)

-- the quotients are one where the remainders differ by less than the divisor
one_quotient : (divisor q r q' r' : ℤ) → q *ℤ divisor +ℤ r ≡ q' *ℤ divisor +ℤ r' → unsigned_abs (r' -ℤ r) < unsigned_abs divisor → q ≡ q'
one_quotient divisor q r q' r' same near =
    let apart : (q -ℤ q') *ℤ divisor ≡ r' -ℤ r = difference_times q q' divisor ∙ omega (arith, ints) in
    let product : unsigned_abs (q -ℤ q') * unsigned_abs divisor < unsigned_abs divisor = rw (← unsigned_abs-mul (q -ℤ q') divisor) (rw apart near) in
    let none = no_factor (unsigned_abs (q -ℤ q')) (unsigned_abs divisor) product in
    omega (arith, ints, none)

-- remainders that go with one leader are near to each other
near : (leader r r' : ℤ) (n : ℕ) → unsigned_abs r < n → unsigned_abs r' < n → (r <ℤ pos 0 → leader <ℤ pos 0) → (pos 0 <ℤ r → pos 0 <ℤ leader) → (r' <ℤ pos 0 → leader <ℤ pos 0) → (pos 0 <ℤ r' → pos 0 <ℤ leader) → unsigned_abs (r' -ℤ r) < n
near leader r r' n below below' negative positive negative' positive' = grind (arith, ints)

-- there is one quotient
pub unique : (leader dividend divisor q r q' r' : ℤ) → Divides leader dividend divisor q r → Divides leader dividend divisor q' r' → q ≡ q'
unique leader dividend divisor q r q' r' one other =
    one_quotient divisor q r q' r' (one.whole ∙ sym other.whole) (near leader r r' _ one.smaller other.smaller one.negative one.positive other.negative other.positive)

-- the quotient that is cut towards zero
pub cut : (s t : Bool) (n b : ℕ) → 0 < b → DividesCut (of_sign s n) (of_sign t b) (of_sign (sign_of_product s t) (n / b)) (of_sign s (n % b))
cut s t n b some = record {
  whole = ap (λ z. z +ℤ of_sign s (n % b)) (of_sign-product s t (n / b) b) ∙ of_sign-sum s (n / b * b) (n % b) ∙ ap (of_sign s) (div-add-mod' n b);
  smaller = rw (of_sign-size s (n % b)) (rw (of_sign-size t b) (mod_below n b some));
  negative = of_sign-below s (n % b) n (mod-le n b);
  positive = of_sign-above s (n % b) n (mod-le n b);
}

same_whole : (t : Bool) (n b : ℕ) → 0 < b → pos (n / b) *ℤ of_sign t b +ℤ of_sign t (n % b) ≡ of_sign t n
same_whole true n b some = (cut true true n b some).whole
same_whole false n b some = (cut false false n b some).whole

-- it is that which is rounded down, where the signs are the same
pub floored_same : (t : Bool) (n b : ℕ) → 0 < b → DividesFloored (of_sign t n) (of_sign t b) (pos (n / b)) (of_sign t (n % b))
floored_same t n b some = record {
  whole = same_whole t n b some;
  smaller = rw (of_sign-size t (n % b)) (rw (of_sign-size t b) (mod_below n b some));
  negative = of_sign-below t (n % b) b (omega (arith, mod_below n b some));
  positive = of_sign-above t (n % b) b (omega (arith, mod_below n b some));
}

-- the quotient rounded up, times the divisor
pub reached : (n b : ℕ) → 0 < b → (n + missing n b ≡ rounded_up_quotient n b * b) × (missing n b < b)
reached n b some =
    let parts = div-add-mod' (n + (b - 1)) b in
    let left = mod_below (n + (b - 1)) b some in
    let turned : b * rounded_up_quotient n b ≡ rounded_up_quotient n b * b = mul_comm b (rounded_up_quotient n b) in
    (omega (arith, parts, left, turned), omega (arith, parts, left, turned))

apart_whole : (t : Bool) (n b q m : ℕ) → n + m ≡ q * b → neg_ℤ (pos q) *ℤ of_sign t b +ℤ of_sign t m ≡ of_sign (not t) n
apart_whole true n b q m is = ap (λ z. z +ℤ of_sign true m) (of_sign-product false true q b) ∙ omega (arith, ints, is)
apart_whole false n b q m is = ap (λ z. z +ℤ of_sign false m) (of_sign-product true false q b) ∙ omega (arith, ints, is)

-- where they differ, it is the quotient of the sizes rounded up
pub floored_apart : (t : Bool) (n b : ℕ) → 0 < b → DividesFloored (of_sign (not t) n) (of_sign t b) (neg_ℤ (pos (rounded_up_quotient n b))) (of_sign t (missing n b))
floored_apart t n b some = record {
  whole = apart_whole t n b (rounded_up_quotient n b) (missing n b) (reached n b some).0;
  smaller = rw (of_sign-size t (missing n b)) (rw (of_sign-size t b) (reached n b some).1);
  negative = of_sign-below t (missing n b) b (omega (arith, (reached n b some).1));
  positive = of_sign-above t (missing n b) b (omega (arith, (reached n b some).1));
}
