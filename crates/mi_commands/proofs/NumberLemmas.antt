-- Numbers of digits.
use Rattle.std.proofs.Common.{◌≡◌, ◌≤◌, ◌<◌, ◌+◌, ◌*◌, ◌-◌, ◌^◌, ℕ, List, [], ◌∷◌, Option, None, Some, refl, rules, arith, length}
use Rattle.std.proofs.lemmas.Nat.{mul-le}
use Rattle.mi_model.specs.Numbers.{digit_in, at_most, after_digit, continued, magnitude_of}

more : (base n d : ℕ) → 2 ≤ base → 2 ^ 64 ≤ n → 2 ^ 64 ≤ base * n + d
more base n d h k = omega (arith, mul-le 1 n base n (omega (arith, h)) (omega arith), k)

behind_digit : (digit : Option ℕ) (base n : ℕ) (digits : List ℕ) → 2 ≤ base → 2 ^ 64 ≤ n → ((m : ℕ) → 2 ^ 64 ≤ m → at_most (2 ^ 64 - 1) (continued base m digits) ≡ None)
    → at_most (2 ^ 64 - 1) (after_digit digit (λ d. continued base (base * n + d) digits)) ≡ None
behind_digit None base n digits h k rest = refl
behind_digit (Some d) base n digits h k rest = rest (base * n + d) (more base n d h k)

-- digits behind a number that isn't below 2^64
pub too_large : (base n : ℕ) (digits : List ℕ) → 2 ≤ base → 2 ^ 64 ≤ n → at_most (2 ^ 64 - 1) (continued base n digits) ≡ None
too_large base n [] h k = search rules
too_large base n (c ∷ cs) h k = behind_digit (digit_in base c) base n cs h k (λ m l. too_large base m cs h l)

-- there is a digit
pub some_digits : (base : ℕ) (digits : List ℕ) → 0 < length digits → magnitude_of base digits ≡ continued base 0 digits
some_digits base [] h = absurd (omega (arith, h))
some_digits base (c ∷ cs) h = refl

-- no digit is left
pub none_left : (base n : ℕ) (digits : List ℕ) → length digits ≡ 0 → n ≤ 2 ^ 64 - 1 → at_most (2 ^ 64 - 1) (continued base n digits) ≡ Some n
none_left base n [] h k = search rules
none_left base n (c ∷ cs) h k = absurd (omega (arith, h))
