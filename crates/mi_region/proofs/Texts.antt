-- One byte more of a text that is copied, and of a range that is filled; a range that is moved.
use Rattle.std.proofs.Common.{◌≡◌, ℕ, suc, ◌+◌, ◌-◌, ◌<◌, ◌≤◌, List, [], ◌∷◌, ◌++◌, length, get_or, take, drop, replicate, refl, ap, sym, subst, ◌∙◌, arith, drop-cons, append_assoc, length-append}
use Rattle.std.proofs.Math.ListN.{set, take-append-drop}
use Rattle.std.proofs.Math.Seq.{paste, set-append_seam}
use Rattle.std.proofs.lemmas.List.{drop_all, length-replicate, length-take-le, replicate_more}
use Rattle.mi_model.specs.Ops.{Ops}
use Rattle.mi_model.specs.Region.{with_text, with_moved, with_filled}

pub text_next : {C B : Type 0} (ops : Ops C B) (bytes : List B) (o i : ℕ) (text : List ℕ) → i < length text
    → with_text ops bytes (o + i) (drop i text) ≡ with_text ops (set bytes (o + i) (ops.byte (get_or text i 0))) (o + (i + 1)) (drop (i + 1) text)
text_next ops bytes o i text h =
    rw (drop-cons text i 0 h)
    (let e : o + i + 1 ≡ o + (i + 1) = omega arith in
    let f : suc i ≡ i + 1 = omega arith in
    ap (λ (k : ℕ). with_text ops (set bytes (o + i) (ops.byte (get_or text i 0))) k (drop (suc i) text)) e
    ∙ ap (λ (k : ℕ). with_text ops (set bytes (o + i) (ops.byte (get_or text i 0))) (o + (i + 1)) (drop k text)) f)

-- nothing is left to copy at the end of a text
pub text_done : {C B : Type 0} (ops : Ops C B) (bytes : List B) (o i : ℕ) (text : List ℕ) → length text ≤ i → with_text ops bytes o (drop i text) ≡ bytes
text_done ops bytes o i text h = rw (drop_all i text h) refl

pub fill_none : {B : Type 0} (bytes : List B) (o : ℕ) (v : B) → with_filled bytes o 0 v ≡ bytes
fill_none bytes o v = let e : o + 0 ≡ o = omega arith in ap (λ (k : ℕ). take o bytes ++ drop k bytes) e ∙ take-append-drop o bytes

pub fill_next : {B : Type 0} (bytes : List B) (o i : ℕ) (v : B) → o + i < length bytes → set (with_filled bytes o i v) (o + i) v ≡ with_filled bytes o (i + 1) v
fill_next {B = B} bytes o i v h =
    let front = take o bytes ++ replicate i v in
    let rest = drop (suc (o + i)) bytes in
    let here = get_or bytes (o + i) v in
    let len : length front ≡ o + i = omega (arith, length-append (take o bytes) (replicate i v), length-replicate i v, length-take-le o bytes (omega arith)) in
    let opened : with_filled bytes o i v ≡ front ++ here ∷ rest = rw (drop-cons bytes (o + i) v h) (sym (append_assoc (take o bytes) (replicate i v) (here ∷ rest))) in
    let written : set (front ++ here ∷ rest) (o + i) v ≡ front ++ v ∷ rest = subst (λ (k : ℕ). set (front ++ here ∷ rest) k v ≡ front ++ v ∷ rest) len (set-append_seam front here rest v) in
    let more : replicate i v ++ v ∷ rest ≡ replicate (i + 1) v ++ rest = sym (append_assoc (replicate i v) (v ∷ []) rest) ∙ ap (λ (xs : List B). xs ++ rest) (replicate_more i v) in
    let places : suc (o + i) ≡ o + (i + 1) = omega arith in
    ap (λ (xs : List B). set xs (o + i) v) opened ∙ written ∙ append_assoc (take o bytes) (replicate i v) (v ∷ rest)
    ∙ ap (λ (xs : List B). take o bytes ++ xs) more ∙ ap (λ (k : ℕ). take o bytes ++ (replicate (i + 1) v ++ drop k bytes)) places

pub moved : {B : Type 0} (bytes : List B) (from to n : ℕ) → paste bytes to (drop from bytes) (from + n - from) ≡ with_moved bytes from to n
moved bytes from to n =
    let count : from + n - from ≡ n = omega arith in
    rw count (append_assoc (take to bytes) (take n (drop from bytes)) (drop (to + n) bytes))
