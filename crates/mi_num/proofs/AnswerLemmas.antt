-- What the divisions of the definitions answer: quotients and remainders, or a fault where there are none.
use Rattle.std.proofs.Common.{◌≡◌, ◌≢◌, ℕ, ◌/◌, ◌%◌, ◌^◌, ◌<◌, ◌≤◌, Bool, true, false, cond, ◌==◌, nat_lt, ℤ, FitsSigned, Result, Ok, Err, IfOk, refl, sym, subst, arith}
use Rattle.std.specs.Int.{w64}
use Rattle.std.proofs.lemmas.Int.{ints}
use Rattle.std.proofs.lemmas.Bool.Decides.{nat_tests}
use Rattle.std.proofs.lemmas.Nat.{mod_below, div-add-mod', div-mul-add}
use Rattle.mi_model.specs.declared.DivFault.{DivFault}
use Rattle.mi_model.specs.declared.DivFault.TheVariants.{ByZero, OutOfRange}
use Rattle.mi_model.specs.Ops.Division.{Unsigned, Symmetric, Floored}
use Rattle.mi_model.specs.Plain.{divided, plain_division, unsigned_division, symmetric_division, floored_division, double, is_negative, magnitude, double_magnitude, signed_as, quotient_fits, rounded_up_quotient, missing}
use Rattle.mi_num.specs.Quotients.{signed, signed_double, DividesUnsigned, Divides, NoneFits}
use Rattle.mi_num.proofs.SignLemmas.{of_sign, signed-as, signed-is, signed_double-is}
use Rattle.mi_num.proofs.QuotientLemmas.{unique, cut, floored_same, floored_apart, reached}

-- an answer is a quotient with its remainder, and a quotient out of range is one that doesn't fit
pub record Answers (leader dividend divisor : ℤ) (result : Result (ℕ × ℕ) DivFault) : Type 0 where
  pub quotient : IfOk result (λ p. Divides leader dividend divisor (signed p.1) (signed p.0))
  pub out_of_range : result ≡ Err OutOfRange → NoneFits (Divides leader dividend divisor)

small_fits : (negative : Bool) (n : ℕ) → n < 2 ^ 63 → quotient_fits negative n ≡ true
small_fits true n below = grind (arith, nat_tests)
small_fits false n below = grind (arith, nat_tests)

unfit : (negative : Bool) (n : ℕ) → quotient_fits negative n ≡ false → ¬ (FitsSigned w64 (of_sign negative n))
unfit true n is fits = grind (arith, ints, nat_tests)
unfit false n is fits = grind (arith, ints, nat_tests)

by_test : (leader dividend divisor : ℤ) (remainder_negative negative : Bool) (remainder quotient : ℕ) → remainder < 2 ^ 63 → Divides leader dividend divisor (of_sign negative quotient) (of_sign remainder_negative remainder) → Answers leader dividend divisor (cond (quotient_fits negative quotient) (Ok (signed_as remainder_negative remainder, signed_as negative quotient)) (Err OutOfRange))
by_test leader dividend divisor remainder_negative negative remainder quotient below holds = elim (quotient_fits negative quotient) as (λ t. quotient_fits negative quotient ≡ t → Answers leader dividend divisor (cond t (Ok (signed_as remainder_negative remainder, signed_as negative quotient)) (Err OutOfRange))) [
  | true ↦ λ is. record {
    quotient = rw (signed-as negative quotient is) (rw (signed-as remainder_negative remainder (small_fits remainder_negative remainder below)) holds);
    out_of_range = λ other. cc;
  }
  | false ↦ λ is. record {
    quotient = tt;
    out_of_range = λ _ q r divides fits. unfit negative quotient is (subst (FitsSigned w64) (unique leader dividend divisor q r _ _ divides holds) fits);
  }
] refl

symmetric : (s t : Bool) (n b : ℕ) → 0 < b → b ≤ 2 ^ 63 → Answers (of_sign s n) (of_sign s n) (of_sign t b) (symmetric_division s t n b)
symmetric true true n b some most = by_test _ _ _ true false (n % b) (n / b) (omega (arith, mod_below n b some)) (cut true true n b some)
symmetric true false n b some most = by_test _ _ _ true true (n % b) (n / b) (omega (arith, mod_below n b some)) (cut true false n b some)
symmetric false true n b some most = by_test _ _ _ false true (n % b) (n / b) (omega (arith, mod_below n b some)) (cut false true n b some)
symmetric false false n b some most = by_test _ _ _ false false (n % b) (n / b) (omega (arith, mod_below n b some)) (cut false false n b some)

floored : (s t : Bool) (n b : ℕ) → 0 < b → b ≤ 2 ^ 63 → Answers (of_sign t b) (of_sign s n) (of_sign t b) (floored_division s t n b)
floored true true n b some most = by_test _ _ _ true false (n % b) (n / b) (omega (arith, mod_below n b some)) (floored_same true n b some)
floored true false n b some most = by_test _ _ _ false true (missing n b) (rounded_up_quotient n b) (omega (arith, (reached n b some).1)) (floored_apart false n b some)
floored false true n b some most = by_test _ _ _ true true (missing n b) (rounded_up_quotient n b) (omega (arith, (reached n b some).1)) (floored_apart true n b some)
floored false false n b some most = by_test _ _ _ false false (n % b) (n / b) (omega (arith, mod_below n b some)) (floored_same false n b some)

magnitude_some : (x : ℕ) → x ≢ 0 → x < 2 ^ 64 → 0 < magnitude x
magnitude_some x some below = grind (arith, nat_tests)

magnitude_most : (x : ℕ) → x < 2 ^ 64 → magnitude x ≤ 2 ^ 63
magnitude_most x below = grind (arith, nat_tests)

-- no quotient comes of 0, which is no fault of range
by_zero : (leader dividend divisor : ℤ) → Answers leader dividend divisor (Err ByZero)
by_zero leader dividend divisor = record { quotient = tt; out_of_range = λ other. cc }

cut_answers : (low high by : ℕ) → low < 2 ^ 64 → high < 2 ^ 64 → by < 2 ^ 64 → Answers (signed_double low high) (signed_double low high) (signed by) (divided Symmetric low high by)
cut_answers low high by low_below high_below by_below = elim (by == 0) as (λ t. (by == 0) ≡ t → Answers (signed_double low high) (signed_double low high) (signed by) (cond t (Err ByZero) (plain_division Symmetric low high by))) [
  | true ↦ λ is. by_zero _ _ _
  | false ↦ λ is. rw (signed_double-is low high low_below high_below) (rw (signed-is by by_below) (symmetric (is_negative high) (is_negative by) (double_magnitude low high) (magnitude by) (magnitude_some by (grind (arith, nat_tests)) by_below) (magnitude_most by by_below)))
] refl

floored_answers : (low high by : ℕ) → low < 2 ^ 64 → high < 2 ^ 64 → by < 2 ^ 64 → Answers (signed by) (signed_double low high) (signed by) (divided Floored low high by)
floored_answers low high by low_below high_below by_below = elim (by == 0) as (λ t. (by == 0) ≡ t → Answers (signed by) (signed_double low high) (signed by) (cond t (Err ByZero) (plain_division Floored low high by))) [
  | true ↦ λ is. by_zero _ _ _
  | false ↦ λ is. rw (signed_double-is low high low_below high_below) (rw (signed-is by by_below) (floored (is_negative high) (is_negative by) (double_magnitude low high) (magnitude by) (magnitude_some by (grind (arith, nat_tests)) by_below) (magnitude_most by by_below)))
] refl

-- the same of unsigned numbers
pub record AnswersUnsigned (dividend divisor : ℕ) (result : Result (ℕ × ℕ) DivFault) : Type 0 where
  pub quotient : IfOk result (λ p. DividesUnsigned dividend divisor p.1 p.0)
  pub out_of_range : result ≡ Err OutOfRange → (q r : ℕ) → DividesUnsigned dividend divisor q r → 2 ^ 64 ≤ q

unsigned : (n by : ℕ) → 0 < by → AnswersUnsigned n by (unsigned_division n by)
unsigned n by some = elim (nat_lt (n / by) (2 ^ 64)) as (λ t. nat_lt (n / by) (2 ^ 64) ≡ t → AnswersUnsigned n by (cond t (Ok (n % by, n / by)) (Err OutOfRange))) [
  | true ↦ λ is. record { quotient = record { whole = div-add-mod' n by; smaller = mod_below n by some }; out_of_range = λ other. cc }
  | false ↦ λ is. record {
    quotient = tt;
    out_of_range = λ _ q r divides. let one : n / by ≡ q = rw (← divides.whole) (div-mul-add q by r divides.smaller) in grind (arith, nat_tests);
  }
] refl

pub unsigned_answers : (low high by : ℕ) → AnswersUnsigned (double low high) by (divided Unsigned low high by)
unsigned_answers low high by = elim (by == 0) as (λ t. (by == 0) ≡ t → AnswersUnsigned (double low high) by (cond t (Err ByZero) (plain_division Unsigned low high by))) [
  | true ↦ λ is. record { quotient = tt; out_of_range = λ other. cc }
  | false ↦ λ is. unsigned (double low high) by (grind (arith, nat_tests))
] refl

-- the same of a result that is the definition's
pub cut_answer : (low high by : ℕ) (result : Result (ℕ × ℕ) DivFault) → low < 2 ^ 64 → high < 2 ^ 64 → by < 2 ^ 64 → result ≡ divided Symmetric low high by → Answers (signed_double low high) (signed_double low high) (signed by) result
cut_answer low high by result low_below high_below by_below is = subst (Answers _ _ _) (sym is) (cut_answers low high by low_below high_below by_below)

pub floored_answer : (low high by : ℕ) (result : Result (ℕ × ℕ) DivFault) → low < 2 ^ 64 → high < 2 ^ 64 → by < 2 ^ 64 → result ≡ divided Floored low high by → Answers (signed by) (signed_double low high) (signed by) result
floored_answer low high by result low_below high_below by_below is = subst (Answers _ _ _) (sym is) (floored_answers low high by low_below high_below by_below)
