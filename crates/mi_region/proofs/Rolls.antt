-- An item that moves to the top of a stack.
use Rattle.std.proofs.Common.{◌≡◌, ℕ, ◌+◌, ◌-◌, ◌<◌, List, ◌∷◌, ◌++◌, length, get_or, take, drop, ap, sym, ◌∙◌, arith, append_assoc, get_or-drop, drop-drop, length-drop}
use Rattle.std.proofs.Math.ListN.{set}
use Rattle.std.proofs.Math.Seq.{paste}
use Rattle.std.proofs.lemmas.List.{drop_at, drop-set, get_or_read, length-take-le}
use Rattle.std.proofs.lemmas.List.Edits.{length-paste}

-- the items from t on, where the first c of them went down a place, and x, which stood below those, went to the top
pub rolled : {C : Type 0} (xs : List C) (t c : ℕ) (x d : C) → t + c < length xs → x ≡ get_or xs (t + c) x
    → drop t (set (paste xs (t + 1) (drop t xs) (t + c - t)) t x) ≡ get_or (drop t xs) c d ∷ (take c (drop t xs) ++ drop (c + 1) (drop t xs))
rolled {C = C} xs t c x d h e =
    let ys = paste xs (t + 1) (drop t xs) (t + c - t) in
    let count : t + c - t ≡ c = omega arith in
    let place : t + 1 + c ≡ t + (c + 1) = omega arith in
    let front : length (take (t + 1) xs) ≡ t + 1 = length-take-le (t + 1) xs (omega arith) in
    let len : length ys ≡ length xs = length-paste xs (t + 1) (drop t xs) (t + c - t) (omega arith) (omega (arith, length-drop t xs)) in
    let under : drop (t + 1) ys ≡ take c (drop t xs) ++ drop (c + 1) (drop t xs) =
    rw count (ap (drop (t + 1)) (append_assoc (take (t + 1) xs) (take c (drop t xs)) (drop (t + 1 + c) xs))
    ∙ drop_at (take (t + 1) xs) (take c (drop t xs) ++ drop (t + 1 + c) xs) (t + 1) front
    ∙ ap (λ (zs : List C). take c (drop t xs) ++ zs) (ap (λ (k : ℕ). drop k xs) place ∙ sym (drop-drop (c + 1) t xs))) in
    let item : x ≡ get_or (drop t xs) c d = get_or_read xs (t + c) x h e d ∙ sym (get_or-drop t xs c d) in
    drop-set ys t x (omega arith)
    ∙ ap (λ (zs : List C). x ∷ zs) under
    ∙ ap (λ (z : C). z ∷ (take c (drop t xs) ++ drop (c + 1) (drop t xs))) item
