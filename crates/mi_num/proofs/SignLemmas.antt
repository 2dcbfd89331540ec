-- Numbers as a sign and a magnitude.
use Rattle.std.proofs.Common.{◌≡◌, ℕ, zero, suc, ◌+◌, ◌-◌, ◌*◌, ◌^◌, ◌<◌, ◌≤◌, Bool, true, false, not, cond, ℤ, pos, negsuc, neg_ℤ, ◌+ℤ◌, ◌*ℤ◌, ◌<ℤ◌, unsigned_abs, refl, ◌∙◌, ap, arith}
use Rattle.std.specs.Int.{w64, cast_signed}
use Rattle.std.proofs.lemmas.Int.{ints, to_z-of_z, to_z_pos}
use Rattle.std.proofs.lemmas.Bool.Decides.{nat_tests}
use Rattle.mi_model.specs.Plain.{is_negative, magnitude, double, double_magnitude, signed_as, quotient_fits}
use Rattle.mi_num.specs.Quotients.{signed, signed_double}

-- the number of a sign and a magnitude
abbrev pub of_sign : Bool → ℕ → ℤ
of_sign true n = neg_ℤ (pos n)
of_sign false n = pos n

-- a negative number is read as one
negative_read : (x k : ℕ) → k < 2 ^ 63 → x ≡ 2 ^ 64 - suc k → signed x ≡ negsuc k
negative_read x k below is = ap (cast_signed w64) is ∙ to_z-of_z w64 (negsuc k) (record { sfits = below })

-- a sign and a magnitude that fit are read as they are
pub signed-as : (negative : Bool) (n : ℕ) → quotient_fits negative n ≡ true → signed (signed_as negative n) ≡ of_sign negative n
signed-as true zero fits = refl
signed-as true (suc k) fits = negative_read (signed_as true (suc k)) k (grind (arith, nat_tests, fits)) (grind (arith, nat_tests, fits))
signed-as false n fits = to_z_pos w64 n (grind (arith, nat_tests, fits))

-- a number is of its sign and its magnitude
pub signed-is : (x : ℕ) → x < 2 ^ 64 → signed x ≡ of_sign (is_negative x) (magnitude x)
signed-is x below = elim (is_negative x) as (λ t. is_negative x ≡ t → signed x ≡ of_sign t (cond t (2 ^ 64 - x) x)) [
  | true ↦ λ is. negative_read x (2 ^ 64 - suc x) (grind (arith, nat_tests, is)) (grind (arith, nat_tests, is)) ∙ (let some : suc (2 ^ 64 - suc x) ≡ 2 ^ 64 - x = omega arith in ap (λ n. neg_ℤ (pos n)) some)
  | false ↦ λ is. to_z_pos w64 x (grind (arith, nat_tests, is))
] refl

-- a double is of its sign and its magnitude
pub signed_double-is : (low high : ℕ) → low < 2 ^ 64 → high < 2 ^ 64 → signed_double low high ≡ of_sign (is_negative high) (double_magnitude low high)
signed_double-is low high low_below high_below = ap (λ z. pos low +ℤ pos (2 ^ 64) *ℤ z) (signed-is high high_below) ∙ elim (is_negative high) as (λ t. is_negative high ≡ t → pos low +ℤ pos (2 ^ 64) *ℤ of_sign t (cond t (2 ^ 64 - high) high) ≡ of_sign t (cond t (2 ^ 128 - double low high) (double low high))) [
  | true ↦ λ is. omega (arith, ints)
  | false ↦ λ is. refl
] refl

-- products by the signs
minus_left : (q b : ℕ) → neg_ℤ (pos q) *ℤ pos b ≡ neg_ℤ (pos (q * b))
minus_left zero b = let none : 0 * b ≡ 0 = omega arith in rw none refl
minus_left (suc q) b = refl

minus_right : (q b : ℕ) → pos q *ℤ neg_ℤ (pos b) ≡ neg_ℤ (pos (q * b))
minus_right q zero = let none : q * 0 ≡ 0 = omega arith in rw none refl
minus_right q (suc b) = refl

minus_both : (q b : ℕ) → neg_ℤ (pos q) *ℤ neg_ℤ (pos b) ≡ pos (q * b)
minus_both zero b = let none : 0 * b ≡ 0 = omega arith in minus_right 0 b ∙ rw none refl
minus_both (suc q) zero = let none : suc q * 0 ≡ 0 = omega arith in rw none refl
minus_both (suc q) (suc b) = refl

-- the sign of a product
abbrev pub sign_of_product : Bool → Bool → Bool
sign_of_product true t = not t
sign_of_product false t = t

pub of_sign-size : (t : Bool) (n : ℕ) → unsigned_abs (of_sign t n) ≡ n
of_sign-size true n = omega (arith, ints)
of_sign-size false n = refl

pub of_sign-product : (s t : Bool) (q b : ℕ) → of_sign (sign_of_product s t) q *ℤ of_sign t b ≡ of_sign s (q * b)
of_sign-product true true q b = minus_right q b
of_sign-product true false q b = minus_left q b
of_sign-product false true q b = minus_both q b
of_sign-product false false q b = refl

pub of_sign-sum : (t : Bool) (m n : ℕ) → of_sign t m +ℤ of_sign t n ≡ of_sign t (m + n)
of_sign-sum true m n = omega (arith, ints)
of_sign-sum false m n = refl

-- signs are those of the numbers, where there is a magnitude
pub of_sign-below : (t : Bool) (n m : ℕ) → n ≤ m → of_sign t n <ℤ pos 0 → of_sign t m <ℤ pos 0
of_sign-below true n m most below = omega (arith, ints)
of_sign-below false n m most below = omega (arith, ints)

pub of_sign-above : (t : Bool) (n m : ℕ) → n ≤ m → pos 0 <ℤ of_sign t n → pos 0 <ℤ of_sign t m
of_sign-above true n m most above = omega (arith, ints)
of_sign-above false n m most above = omega (arith, ints)
