-- What a part of a text is without a CR at its end.
use Rattle.std.proofs.Common.{◌≡◌, ℕ, zero, suc, ◌+◌, ◌-◌, ◌<◌, ◌≤◌, Bool, true, false, cond, ◌&&◌, List, [], ◌∷◌, length, get_or, take, drop, slice_range, refl, sym, ◌∙◌, ap, arith, eq-eqb}
use Rattle.std.proofs.lemmas.Bool.{ne_eqb}
use Rattle.std.proofs.lemmas.List.{get_or-drop, length-drop}
use Rattle.mi_text.specs.Ending.{without_last_cr}

-- a byte before another one stays
pub stays : (t : Bool) (xs ys : List ℕ) → cond (t && false) xs ys ≡ ys
stays true xs ys = refl
stays false xs ys = refl

-- a part that ends with a CR loses it
pub without-cr : (xs : List ℕ) (n : ℕ) → n < length xs → get_or xs n 0 ≡ 13 → without_last_cr (take (suc n) xs) ≡ take n xs
without-cr [] n below is_cr = absurd (omega arith)
without-cr (c ∷ []) zero below is_cr = rw (eq-eqb c 13 is_cr) refl
without-cr (c ∷ d ∷ cs) zero below is_cr = rw (eq-eqb c 13 is_cr) refl
without-cr (c ∷ []) (suc n) below is_cr = absurd (omega arith)
without-cr (c ∷ d ∷ cs) (suc n) below is_cr =
    stays _ _ _ ∙ ap (λ rest. c ∷ rest) (without-cr (d ∷ cs) n (omega arith) is_cr)

-- a part that ends with another byte stays
pub with-other : (xs : List ℕ) (n : ℕ) → n < length xs → (get_or xs n 0 ≡ 13 → ⊥) → without_last_cr (take (suc n) xs) ≡ take (suc n) xs
with-other [] n below is_other = absurd (omega arith)
with-other (c ∷ []) zero below is_other = rw (ne_eqb c 13 is_other) refl
with-other (c ∷ d ∷ cs) zero below is_other = rw (ne_eqb c 13 is_other) refl
with-other (c ∷ []) (suc n) below is_other = absurd (omega arith)
with-other (c ∷ d ∷ cs) (suc n) below is_other =
    stays _ _ _ ∙ ap (λ rest. c ∷ rest) (with-other (d ∷ cs) n (omega arith) is_other)

-- the same for a range of a text
pub range-without-cr : (text : List ℕ) (from end : ℕ) → from < end → end ≤ length text → get_or text (end - 1) 0 ≡ 13 → slice_range text from (end - 1) ≡ without_last_cr (slice_range text from end)
range-without-cr text from end some within is_cr =
    let n : ℕ = end - 1 - from in
    let rest : List ℕ = drop from text in
    let below : n < length rest = simp length-drop (omega arith) in
    let place : from + n ≡ end - 1 = omega arith in
    let last : get_or rest n 0 ≡ 13 = get_or-drop from text n 0 ∙ ap (λ i. get_or text i 0) place ∙ is_cr in
    let size : suc n ≡ end - from = omega arith in
    sym (without-cr rest n below last) ∙ ap (λ m. without_last_cr (take m rest)) size

pub range-with-other : (text : List ℕ) (from end : ℕ) → from < end → end ≤ length text → (get_or text (end - 1) 0 ≡ 13 → ⊥) → slice_range text from end ≡ without_last_cr (slice_range text from end)
range-with-other text from end some within is_other =
    let n : ℕ = end - 1 - from in
    let rest : List ℕ = drop from text in
    let below : n < length rest = simp length-drop (omega arith) in
    let place : from + n ≡ end - 1 = omega arith in
    let same : get_or rest n 0 ≡ get_or text (end - 1) 0 = get_or-drop from text n 0 ∙ ap (λ i. get_or text i 0) place in
    let size : suc n ≡ end - from = omega arith in
    ap (λ m. take m rest) (sym size) ∙ sym (with-other rest n below (λ is_cr. is_other (sym same ∙ is_cr))) ∙ ap (λ m. without_last_cr (take m rest)) size

-- an empty range has no CR
pub range-empty : (text : List ℕ) (from end : ℕ) → end ≤ from → slice_range text from end ≡ without_last_cr (slice_range text from end)
range-empty text from end none =
    let size : end - from ≡ 0 = omega arith in
    ap (λ m. take m (drop from text)) size ∙ ap (λ m. without_last_cr (take m (drop from text))) (sym size)
