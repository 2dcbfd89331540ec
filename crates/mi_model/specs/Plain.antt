-- The operations on plain numbers below 2^64 at a base pair.
use Rattle.std.specs.Prelude.{ℕ, ◌+◌, ◌-◌, ◌*◌, ◌/◌, ◌%◌, ◌^◌, Option, None, Some, Result, Ok, Err, Bool, true, false, cond, nat_le, nat_lt, ◌==◌, ◌&&◌, List, [], ◌∷◌, slice_index, bit_and, bit_or, bit_xor}
use Rattle.std.specs.Int.{w64, to_le_bytes, from_le_bytes}
use Rattle.mi_model.specs.declared.Pair.{Pair}
use Rattle.mi_model.specs.declared.Eight.{Eight}
use Rattle.mi_model.specs.declared.DivFault.{DivFault}
use Rattle.mi_model.specs.declared.DivFault.TheVariants.{ByZero, OutOfRange}
use Rattle.mi_model.specs.Ops.{Ops, Two, One, Test, Division}
use Rattle.mi_model.specs.Ops.Two.{Add, Sub, Mul, And, Or, Xor, LeftShift, RightShift}
use Rattle.mi_model.specs.Ops.One.{Negate, Invert, Half}
use Rattle.mi_model.specs.Ops.Test.{Equal, Less, Below}
use Rattle.mi_model.specs.Ops.Division.{Unsigned, Symmetric, Floored}

-- modulo 2^64
abbrev pub wrapped : ℕ → ℕ
wrapped n = n % 2 ^ 64

-- the difference modulo 2^64
abbrev pub less_by : ℕ → ℕ → ℕ
less_by x y = wrapped (x + (2 ^ 64 - y))

-- is the number negative when it is read as a signed one
abbrev pub is_negative : ℕ → Bool
is_negative x = nat_le (2 ^ 63) x

-- shifts by 64 and more give 0
abbrev pub shifted_left : ℕ → ℕ → ℕ
shifted_left x y = cond (nat_lt y 64) (wrapped (x * 2 ^ y)) 0

abbrev pub shifted_right : ℕ → ℕ → ℕ
shifted_right x y = cond (nat_lt y 64) (x / 2 ^ y) 0

abbrev pub plain_two : Two → ℕ → ℕ → ℕ
plain_two Add x y = wrapped (x + y)
plain_two Sub x y = less_by x y
plain_two Mul x y = wrapped (x * y)
plain_two And x y = bit_and x y
plain_two Or x y = bit_or x y
plain_two Xor x y = bit_xor x y
plain_two LeftShift x y = shifted_left x y
plain_two RightShift x y = shifted_right x y

-- half keeps the sign bit
abbrev pub plain_one : One → ℕ → ℕ
plain_one Negate x = less_by 0 x
plain_one Invert x = (2 ^ 64 - 1) - x
plain_one Half x = x / 2 + cond (is_negative x) (2 ^ 63) 0

-- signed numbers are in the order of the unsigned ones after their sign bits are turned over
abbrev pub plain_test : Test → ℕ → ℕ → Bool
plain_test Equal x y = x == y
plain_test Less x y = nat_lt (wrapped (x + 2 ^ 63)) (wrapped (y + 2 ^ 63))
plain_test Below x y = nat_lt x y

-- the double cell of two halves
abbrev pub double : (low high : ℕ) → ℕ
double low high = low + 2 ^ 64 * high

-- the size of a signed number, and of a signed double, without its sign
abbrev pub magnitude : ℕ → ℕ
magnitude x = cond (is_negative x) (2 ^ 64 - x) x

abbrev pub double_magnitude : (low high : ℕ) → ℕ
double_magnitude low high = cond (is_negative high) (2 ^ 128 - double low high) (double low high)

-- a magnitude with a sign, as a number modulo 2^64
abbrev pub signed_as : (negative : Bool) → ℕ → ℕ
signed_as negative n = cond negative (less_by 0 n) n

-- does a quotient of that sign and magnitude fit a signed number
abbrev pub quotient_fits : (negative : Bool) → ℕ → Bool
quotient_fits negative q = cond negative (nat_le q (2 ^ 63)) (nat_lt q (2 ^ 63))

-- remainder and quotient of unsigned numbers
abbrev pub unsigned_division : (n by : ℕ) → Result (ℕ × ℕ) DivFault
unsigned_division n by = cond (nat_lt (n / by) (2 ^ 64)) (Ok (n % by, n / by)) (Err OutOfRange)

-- remainder and quotient of signed numbers, of these signs and magnitudes: the quotient is cut towards zero,
-- and the remainder has the sign of the dividend
abbrev pub symmetric_division : (dividend_negative divisor_negative : Bool) (n by : ℕ) → Result (ℕ × ℕ) DivFault
symmetric_division true true n by = cond (quotient_fits false (n / by)) (Ok (signed_as true (n % by), n / by)) (Err OutOfRange)
symmetric_division true false n by = cond (quotient_fits true (n / by)) (Ok (signed_as true (n % by), signed_as true (n / by))) (Err OutOfRange)
symmetric_division false true n by = cond (quotient_fits true (n / by)) (Ok (n % by, signed_as true (n / by))) (Err OutOfRange)
symmetric_division false false n by = cond (quotient_fits false (n / by)) (Ok (n % by, n / by)) (Err OutOfRange)

-- the least number of parts of that size that reach n
abbrev pub rounded_up_quotient : (n by : ℕ) → ℕ
rounded_up_quotient n by = (n + (by - 1)) / by

-- what is missing at n to the next multiple
abbrev pub missing : (n by : ℕ) → ℕ
missing n by = by * rounded_up_quotient n by - n

-- the same, but the quotient is rounded down, and the remainder has the sign of the divisor
abbrev pub floored_division : (dividend_negative divisor_negative : Bool) (n by : ℕ) → Result (ℕ × ℕ) DivFault
floored_division true true n by = cond (quotient_fits false (n / by)) (Ok (signed_as true (n % by), n / by)) (Err OutOfRange)
floored_division true false n by = cond (quotient_fits true (rounded_up_quotient n by)) (Ok (missing n by, signed_as true (rounded_up_quotient n by))) (Err OutOfRange)
floored_division false true n by = cond (quotient_fits true (rounded_up_quotient n by)) (Ok (signed_as true (missing n by), signed_as true (rounded_up_quotient n by))) (Err OutOfRange)
floored_division false false n by = cond (quotient_fits false (n / by)) (Ok (n % by, n / by)) (Err OutOfRange)

abbrev pub plain_division : Division → (low high by : ℕ) → Result (ℕ × ℕ) DivFault
plain_division Unsigned low high by = unsigned_division (double low high) by
plain_division Symmetric low high by = symmetric_division (is_negative high) (is_negative by) (double_magnitude low high) (magnitude by)
plain_division Floored low high by = floored_division (is_negative high) (is_negative by) (double_magnitude low high) (magnitude by)

-- a division by zero has no quotient
abbrev pub divided : Division → (low high by : ℕ) → Result (ℕ × ℕ) DivFault
divided division low high by = cond (by == 0) (Err ByZero) (plain_division division low high by)

-- the offset of an address from the data base on, where it is at most the size
abbrev pub plain_place : Pair → ℕ → ℕ → Option ℕ
plain_place pair size x = let o = x - pair.d in cond (nat_le pair.d x && nat_le o size) (Some o) None

-- the tag whose code stands there: one of 120, 16 bytes apart
abbrev pub plain_tag : Pair → ℕ → Option ℕ
plain_tag pair x = let o = less_by x pair.k in cond (nat_lt o 1920 && (o % 16 == 0)) (Some (o / 16)) None

-- eight bytes as a list
abbrev pub listed : {B : Type 0} → Eight B → List B
listed b = b.b0 ∷ (b.b1 ∷ (b.b2 ∷ (b.b3 ∷ (b.b4 ∷ (b.b5 ∷ (b.b6 ∷ (b.b7 ∷ [])))))))

unfoldable pub plain_ops : Pair → (size : ℕ) → Ops ℕ ℕ
plain_ops pair size = record {
  plain = λ n. wrapped n;
  region_cell = λ o. wrapped (pair.d + o);
  code_cell = λ t. wrapped (pair.k + 16 * t);
  two = λ op x y. Ok (plain_two op x y);
  one = λ op x. Ok (plain_one op x);
  test = λ op x y. Ok (plain_test op x y);
  product = λ x y. Ok (wrapped (x * y), x * y / 2 ^ 64);
  divide = λ division low high by. Ok (divided division low high by);
  place = λ x. Ok (plain_place pair size x);
  tag = λ x. Ok (plain_tag pair x);
  number = λ x. Ok x;
  byte = λ b. b;
  cut = λ x i. slice_index (to_le_bytes w64 x) i;
  value = λ b. Ok b;
  low_byte = λ x. Ok (x % 256);
  join = λ b. Ok (from_le_bytes w64 (listed b));
}
