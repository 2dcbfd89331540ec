-- A magnitude that is too large stays so, whatever digits follow.
use Rattle.std.proofs.Common.{◌≡◌, ℕ, ◌+◌, ◌-◌, ◌*◌, ◌^◌, ◌<◌, ◌≤◌, Bool, true, false, cond, List, [], ◌∷◌, refl, ap, arith, Option, None, Some, Result, Ok, Err}
use Rattle.std.proofs.lemmas.Bool.Decides.{nat_tests}
use Rattle.mi_model.specs.declared.BadBase.{BadBase}
use Rattle.mi_model.specs.Numbers.{digit_in, at_most, after_digit, continued, negated, is_base}
use Rattle.mi_text.specs.Number.{in_base, with_sign}

-- one more digit makes no number smaller
pub not-smaller : (base n d : ℕ) → 1 ≤ base → n ≤ base * n + d
not-smaller base n d some = grind arith

pub above-limit : (limit n : ℕ) → limit < n → at_most limit (Some n) ≡ None
above-limit limit n above = grind (arith, nat_tests)

pub not-at-most : (limit n : ℕ) → at_most limit (Some n) ≡ None → limit < n
not-at-most limit n is = grind (arith, nat_tests)

pub some-base : (base : ℕ) → is_base base ≡ true → 1 ≤ base
some-base base is = grind (arith, nat_tests)

-- a magnitude above the limit stays above it
pub stays-above : (limit base n : ℕ) (rest : List ℕ) → 1 ≤ base → limit < n → at_most limit (continued base n rest) ≡ None
stays-above limit base n [] some above = above-limit limit n above
stays-above limit base n (c ∷ cs) some above =
    elim (digit_in base c) as (λ v. at_most limit (after_digit v (λ d. continued base (base * n + d) cs)) ≡ None) [
      | None ↦ refl
      | Some d ↦ stays-above limit base (base * n + d) cs some (let more = not-smaller base n d some in omega arith)
    ]

-- so a magnitude above 2^64 - 1 is no number with either sign
pub too-large : (negative : Bool) (base n : ℕ) (rest : List ℕ) → 1 ≤ base → 2 ^ 64 - 1 < n → with_sign negative (continued base n rest) ≡ None
too-large true base n rest some above = ap negated (stays-above (2 ^ 63) base n rest some (omega arith))
too-large false base n rest some above = stays-above (2 ^ 64 - 1) base n rest some above

pub no-magnitude : (negative : Bool) → with_sign negative None ≡ None
no-magnitude true = refl
no-magnitude false = refl

-- where the magnitude has no place for one more digit, or the byte is none, the text is no number
pub no-longer : (negative : Bool) (base n c : ℕ) (rest : List ℕ) → 1 ≤ base → at_most (2 ^ 64 - 1) (continued base n (c ∷ [])) ≡ None → with_sign negative (continued base n (c ∷ rest)) ≡ None
no-longer negative base n c rest some =
    elim (digit_in base c) as (λ v. at_most (2 ^ 64 - 1) (after_digit v (λ d. Some (base * n + d))) ≡ None → with_sign negative (after_digit v (λ d. continued base (base * n + d) rest)) ≡ None) [
      | None ↦ λ is. no-magnitude negative
      | Some d ↦ λ is. too-large negative base (base * n + d) rest some (not-at-most (2 ^ 64 - 1) (base * n + d) is)
    ]

-- answers are the same where the numbers are the same in a base that is one
pub same-answer : (base : ℕ) (x y : Option ℕ) → (is_base base ≡ true → x ≡ y) → in_base base x ≡ in_base base y
same-answer base x y =
    elim (is_base base) as (λ b. (b ≡ true → x ≡ y) → ◌≡◌ {A = Result (Option ℕ) BadBase} (cond b (Ok x) (Err (record {}))) (cond b (Ok y) (Err (record {})))) [
      | true ↦ λ same. ap Ok (same refl)
      | false ↦ λ same. refl
    ]
