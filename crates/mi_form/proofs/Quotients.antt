-- Remainders, quotients and products of numbers of 64 bits are such numbers.
use Rattle.std.proofs.Common.{◌≡◌, ℕ, ◌+◌, ◌-◌, ◌*◌, ◌/◌, ◌%◌, ◌^◌, ◌<◌, ◌≤◌, Bool, true, false, cond, ◌==◌, nat_lt, Result, Ok, Err, refl, arith}
use Rattle.std.proofs.Math.Nat.{mod-lt, mul-div-le}
use Rattle.std.proofs.lemmas.Nat.{mul-lt, div_below}
use Rattle.std.proofs.lemmas.Bool.{ltb-true, leb-true}
use Rattle.std.proofs.lemmas.Bool.Decides.{nat_tests}
use Rattle.mi_model.specs.declared.DivFault.{DivFault}
use Rattle.mi_model.specs.declared.DivFault.TheVariants.{ByZero, OutOfRange}
use Rattle.mi_model.specs.Ops.{Division}
use Rattle.mi_model.specs.Ops.Division.{Unsigned, Symmetric, Floored}
use Rattle.mi_model.specs.Plain.{is_negative, double, magnitude, double_magnitude, signed_as, quotient_fits, symmetric_division, floored_division, rounded_up_quotient, missing, plain_division, divided}

-- both numbers of an answer are below 2^64
abbrev pub AreBelow : Result (ℕ × ℕ) DivFault → Type 0
AreBelow (Ok p) = (p.0 < 2 ^ 64) × (p.1 < 2 ^ 64)
AreBelow (Err fault) = Unit {0}

answer_below : (t : Bool) (r q : ℕ) → r < 2 ^ 64 → (t ≡ true → q < 2 ^ 64) → AreBelow (cond t (Ok (r, q)) (Err OutOfRange))
answer_below true r q hr hq = (hr, hq refl)
answer_below false r q hr hq = tt

minus_below : (n : ℕ) → signed_as true n < 2 ^ 64
minus_below n = mod-lt (0 + (2 ^ 64 - n)) (omega arith)

fits_below : (negative : Bool) (q : ℕ) → quotient_fits negative q ≡ true → q < 2 ^ 64
fits_below true q e = let le : q ≤ 2 ^ 63 = leb-true q (2 ^ 63) e in omega arith
fits_below false q e = let lt : q < 2 ^ 63 = ltb-true q (2 ^ 63) e in omega arith

-- what is missing to the next multiple is less than the number itself
missing_below : (n by : ℕ) → 0 < by → missing n by < by
missing_below n by pos =
    let le : by * ((n + (by - 1)) / by) ≤ n + (by - 1) = mul-div-le (n + (by - 1)) by in
    omega arith

-- a divisor with its size
pub record IsDivisor (by : ℕ) : Type 0 where
  pub positive : 0 < by
  pub small : by < 2 ^ 64

remainder_below : (n by : ℕ) → IsDivisor by → n % by < 2 ^ 64
remainder_below n by d = let lt : n % by < by = mod-lt n d.positive in let small = d.small in omega arith

missing_small : (n by : ℕ) → IsDivisor by → missing n by < 2 ^ 64
missing_small n by d = let lt : missing n by < by = missing_below n by d.positive in let small = d.small in omega arith

magnitude_cases : (t : Bool) (by : ℕ) → is_negative by ≡ t → 0 < by → by < 2 ^ 64 → IsDivisor (cond t (2 ^ 64 - by) by)
magnitude_cases true by e pos small = record { positive = omega arith; small = omega arith }
magnitude_cases false by e pos small = record { positive = pos; small = small }

symmetric_below : (s t : Bool) (n by : ℕ) → IsDivisor by → AreBelow (symmetric_division s t n by)
symmetric_below true true n by d = answer_below (quotient_fits false (n / by)) (signed_as true (n % by)) (n / by) (minus_below (n % by)) (λ e. fits_below false (n / by) e)
symmetric_below true false n by d = answer_below (quotient_fits true (n / by)) (signed_as true (n % by)) (signed_as true (n / by)) (minus_below (n % by)) (λ e. minus_below (n / by))
symmetric_below false true n by d = answer_below (quotient_fits true (n / by)) (n % by) (signed_as true (n / by)) (remainder_below n by d) (λ e. minus_below (n / by))
symmetric_below false false n by d = answer_below (quotient_fits false (n / by)) (n % by) (n / by) (remainder_below n by d) (λ e. fits_below false (n / by) e)

floored_below : (s t : Bool) (n by : ℕ) → IsDivisor by → AreBelow (floored_division s t n by)
floored_below true true n by d = answer_below (quotient_fits false (n / by)) (signed_as true (n % by)) (n / by) (minus_below (n % by)) (λ e. fits_below false (n / by) e)
floored_below true false n by d = answer_below (quotient_fits true (rounded_up_quotient n by)) (missing n by) (signed_as true (rounded_up_quotient n by)) (missing_small n by d) (λ e. minus_below (rounded_up_quotient n by))
floored_below false true n by d = answer_below (quotient_fits true (rounded_up_quotient n by)) (signed_as true (missing n by)) (signed_as true (rounded_up_quotient n by)) (minus_below (missing n by)) (λ e. minus_below (rounded_up_quotient n by))
floored_below false false n by d = answer_below (quotient_fits false (n / by)) (n % by) (n / by) (remainder_below n by d) (λ e. fits_below false (n / by) e)

plain_below : (division : Division) (low high by : ℕ) → 0 < by → by < 2 ^ 64 → AreBelow (plain_division division low high by)
plain_below Unsigned low high by pos small =
    answer_below (nat_lt (double low high / by) (2 ^ 64)) (double low high % by) (double low high / by)
    (remainder_below (double low high) by (record { positive = pos; small = small })) (λ e. ltb-true (double low high / by) (2 ^ 64) e)
plain_below Symmetric low high by pos small =
    symmetric_below (is_negative high) (is_negative by) (double_magnitude low high) (magnitude by) (magnitude_cases (is_negative by) by refl pos small)
plain_below Floored low high by pos small =
    floored_below (is_negative high) (is_negative by) (double_magnitude low high) (magnitude by) (magnitude_cases (is_negative by) by refl pos small)

divided_cases : (t : Bool) (division : Division) (low high by : ℕ) → (by == 0) ≡ t → by < 2 ^ 64 → AreBelow (cond t (Err ByZero) (plain_division division low high by))
divided_cases true division low high by e small = tt
divided_cases false division low high by e small =
    let pos : 0 < by = grind (arith, nat_tests) in
    plain_below division low high by pos small

pub divided_below : (division : Division) (low high by : ℕ) → by < 2 ^ 64 → AreBelow (divided division low high by)
divided_below division low high by small = divided_cases (by == 0) division low high by refl small

-- the high half of a product
pub high_half_below : (x y : ℕ) → x < 2 ^ 64 → y < 2 ^ 64 → x * y / 2 ^ 64 < 2 ^ 64
high_half_below x y hx hy =
    let lt : x * y < 2 ^ 64 * 2 ^ 64 = mul-lt x y (2 ^ 64) (2 ^ 64) hx hy in
    div_below (x * y) (2 ^ 64) (2 ^ 64) (omega arith) lt
