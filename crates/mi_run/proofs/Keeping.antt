-- The front of a line that is kept.
use Rattle.std.proofs.Common.{◌≡◌, ℕ, zero, suc, ◌+◌, ◌-◌, ◌<◌, ◌≤◌, Bool, true, false, cond, ◌&&◌, List, [], ◌∷◌, ◌++◌, length, take, get_or, refl, sym, ◌∙◌, ap, arith, eq-eqb, length-append}
use Rattle.std.proofs.Math.ListN.{set}
use Rattle.std.proofs.lemmas.Bool.{ne_eqb}
use Rattle.std.proofs.lemmas.List.{take_at, take_all, take_more_set, length-take-le}
use Rattle.mi_text.specs.Ending.{without_last_cr}

pub kept_with : (xs : List ℕ) (i y : ℕ) → i < 1022 → length xs ≡ 1022 → take (i + 1) (set xs i y) ≡ take 1022 (take i xs ++ y ∷ [])
kept_with xs i y h n =
    let size : length (take i xs ++ y ∷ []) ≤ 1022 = omega (arith, length-append (take i xs) (y ∷ []), length-take-le i xs (omega arith)) in
    take_more_set xs i y (omega arith) ∙ sym (take_all 1022 (take i xs ++ y ∷ []) size)

pub kept_full : (xs : List ℕ) (i y : ℕ) → i ≤ 1022 → 1022 ≤ i → length xs ≡ 1022 → take i xs ≡ take 1022 (take i xs ++ y ∷ [])
kept_full xs i y h k n = sym (take_at (take i xs) (y ∷ []) 1022 (length-take-le i xs (omega arith) ∙ omega arith))

stays : (t : Bool) (xs ys : List ℕ) → cond (t && false) xs ys ≡ ys
stays true xs ys = refl
stays false xs ys = refl

without_cr : (xs : List ℕ) (n : ℕ) → n < length xs → get_or xs n 0 ≡ 13 → without_last_cr (take (suc n) xs) ≡ take n xs
without_cr [] n below is_cr = absurd (omega arith)
without_cr (c ∷ []) zero below is_cr = rw (eq-eqb c 13 is_cr) refl
without_cr (c ∷ d ∷ cs) zero below is_cr = rw (eq-eqb c 13 is_cr) refl
without_cr (c ∷ []) (suc n) below is_cr = absurd (omega arith)
without_cr (c ∷ d ∷ cs) (suc n) below is_cr = stays _ _ _ ∙ ap (λ rest. c ∷ rest) (without_cr (d ∷ cs) n (omega arith) is_cr)

with_other : (xs : List ℕ) (n : ℕ) → n < length xs → (get_or xs n 0 ≡ 13 → ⊥) → without_last_cr (take (suc n) xs) ≡ take (suc n) xs
with_other [] n below is_other = absurd (omega arith)
with_other (c ∷ []) zero below is_other = rw (ne_eqb c 13 is_other) refl
with_other (c ∷ d ∷ cs) zero below is_other = rw (ne_eqb c 13 is_other) refl
with_other (c ∷ []) (suc n) below is_other = absurd (omega arith)
with_other (c ∷ d ∷ cs) (suc n) below is_other = stays _ _ _ ∙ ap (λ rest. c ∷ rest) (with_other (d ∷ cs) n (omega arith) is_other)

pub cr_dropped : (xs : List ℕ) (n : ℕ) → 0 < n → n ≤ length xs → get_or xs (n - 1) 0 ≡ 13 → take (n - 1) xs ≡ without_last_cr (take n xs)
cr_dropped xs n some within is_cr =
    let size : n ≡ suc (n - 1) = omega arith in
    sym (ap (λ k. without_last_cr (take k xs)) size ∙ without_cr xs (n - 1) (omega arith) is_cr)

pub other_kept : (xs : List ℕ) (n : ℕ) → 0 < n → n ≤ length xs → (get_or xs (n - 1) 0 ≡ 13 → ⊥) → take n xs ≡ without_last_cr (take n xs)
other_kept xs n some within is_other =
    let size : n ≡ suc (n - 1) = omega arith in
    sym (ap (λ k. without_last_cr (take k xs)) size ∙ with_other xs (n - 1) (omega arith) is_other ∙ ap (λ k. take k xs) (sym size))

pub none_kept : (xs : List ℕ) (n : ℕ) → n ≤ 0 → take n xs ≡ without_last_cr (take n xs)
none_kept xs n none = let e : n ≡ 0 = omega arith in rw e refl
