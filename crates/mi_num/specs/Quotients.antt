-- What quotients and remainders are, over the integers.
use Rattle.std.specs.Prelude.{ℕ, ◌+◌, ◌*◌, ◌<◌, ◌^◌, ℤ, pos, ◌+ℤ◌, ◌*ℤ◌, ◌<ℤ◌, unsigned_abs, ◌≡◌, FitsSigned}
use Rattle.std.specs.Int.{w64, cast_signed}

-- what a division of unsigned numbers gives
pub record DividesUnsigned (dividend divisor quotient remainder : ℕ) : Type 0 where
  pub whole : quotient * divisor + remainder ≡ dividend
  pub smaller : remainder < divisor

-- a number that is read as a signed one
abbrev pub signed : ℕ → ℤ
signed x = cast_signed w64 x

-- a double of these halves that is read as a signed one
abbrev pub signed_double : (low high : ℕ) → ℤ
signed_double low high = pos low +ℤ pos (2 ^ 64) *ℤ signed high

-- what a division gives whose remainder is 0 or has the sign of this leader
pub record Divides (leader dividend divisor quotient remainder : ℤ) : Type 0 where
  pub whole : quotient *ℤ divisor +ℤ remainder ≡ dividend
  pub smaller : unsigned_abs remainder < unsigned_abs divisor
  pub negative : remainder <ℤ pos 0 → leader <ℤ pos 0
  pub positive : pos 0 <ℤ remainder → pos 0 <ℤ leader

-- the quotient is cut towards zero: the remainder goes with the dividend
abbrev pub DividesCut : (dividend divisor quotient remainder : ℤ) → Type 0
DividesCut n by q r = Divides n n by q r

-- the quotient is rounded down: the remainder goes with the divisor
abbrev pub DividesFloored : (dividend divisor quotient remainder : ℤ) → Type 0
DividesFloored n by q r = Divides by n by q r

-- no signed number of 64 bits is such a quotient
abbrev pub NoneFits : (ℤ → ℤ → Type 0) → Type 0
NoneFits IsQuotient = (quotient remainder : ℤ) → IsQuotient quotient remainder → ¬ (FitsSigned w64 quotient)
