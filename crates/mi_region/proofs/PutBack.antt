-- Eight bytes that are put back where a cell was stored.
use Rattle.std.proofs.Common.{◌≡◌, ◌≢◌, ℕ, ◌+◌, ◌<◌, List, get_or, refl, ap, ◌∙◌, arith}
use Rattle.std.proofs.Math.ListN.{set}
use Rattle.std.proofs.Math.Seq.{set-set, set-get_or}
use Rattle.std.proofs.lemmas.List.{get_or-set_other}
use Rattle.mi_model.specs.Ops.{Ops}
use Rattle.mi_model.specs.Region.{eight_from, with_cell}
use Rattle.mi_region.specs.View.{with_eight}

-- a place is written, and then holds again what it held
undo : {X : Type 0} (ys : List X) (i : ℕ) (a b d : X) → get_or ys i d ≡ b → set (set ys i a) i b ≡ ys
undo ys i a b d h = set-set ys i a b ∙ rw (← h) (set-get_or ys i d)

-- a write before a place leaves it
later : {X : Type 0} (ys : List X) (i j : ℕ) (a d x : X) → i < j → get_or ys j d ≡ x → get_or (set ys i a) j d ≡ x
later ys i j a d x h e = let n : j ≢ i = omega arith in get_or-set_other ys i j a d n ∙ e

pub put_back : {C B : Type 0} (ops : Ops C B) (before : List B) (o : ℕ) (v : C) → with_eight (with_cell ops before o v) o (eight_from ops before o) ≡ before
put_back {B = B} ops before o v =
    let d = ops.byte 0 in
    let y1 = set before o (ops.cut v 0) in
    let y2 = set y1 (o + 1) (ops.cut v 1) in
    let y3 = set y2 (o + 2) (ops.cut v 2) in
    let y4 = set y3 (o + 3) (ops.cut v 3) in
    let y5 = set y4 (o + 4) (ops.cut v 4) in
    let y6 = set y5 (o + 5) (ops.cut v 5) in
    let y7 = set y6 (o + 6) (ops.cut v 6) in
    let l7 : get_or y7 (o + 7) d ≡ get_or before (o + 7) d =
    later _ (o + 6) (o + 7) _ d _ (omega arith) (later _ (o + 5) (o + 7) _ d _ (omega arith) (later _ (o + 4) (o + 7) _ d _ (omega arith) (later _ (o + 3) (o + 7) _ d _ (omega arith) (later _ (o + 2) (o + 7) _ d _ (omega arith) (later _ (o + 1) (o + 7) _ d _ (omega arith) (later _ o (o + 7) _ d _ (omega arith) refl)))))) in
    let l6 : get_or y6 (o + 6) d ≡ get_or before (o + 6) d =
    later _ (o + 5) (o + 6) _ d _ (omega arith) (later _ (o + 4) (o + 6) _ d _ (omega arith) (later _ (o + 3) (o + 6) _ d _ (omega arith) (later _ (o + 2) (o + 6) _ d _ (omega arith) (later _ (o + 1) (o + 6) _ d _ (omega arith) (later _ o (o + 6) _ d _ (omega arith) refl))))) in
    let l5 : get_or y5 (o + 5) d ≡ get_or before (o + 5) d =
    later _ (o + 4) (o + 5) _ d _ (omega arith) (later _ (o + 3) (o + 5) _ d _ (omega arith) (later _ (o + 2) (o + 5) _ d _ (omega arith) (later _ (o + 1) (o + 5) _ d _ (omega arith) (later _ o (o + 5) _ d _ (omega arith) refl)))) in
    let l4 : get_or y4 (o + 4) d ≡ get_or before (o + 4) d =
    later _ (o + 3) (o + 4) _ d _ (omega arith) (later _ (o + 2) (o + 4) _ d _ (omega arith) (later _ (o + 1) (o + 4) _ d _ (omega arith) (later _ o (o + 4) _ d _ (omega arith) refl))) in
    let l3 : get_or y3 (o + 3) d ≡ get_or before (o + 3) d =
    later _ (o + 2) (o + 3) _ d _ (omega arith) (later _ (o + 1) (o + 3) _ d _ (omega arith) (later _ o (o + 3) _ d _ (omega arith) refl)) in
    let l2 : get_or y2 (o + 2) d ≡ get_or before (o + 2) d =
    later _ (o + 1) (o + 2) _ d _ (omega arith) (later _ o (o + 2) _ d _ (omega arith) refl) in
    let l1 : get_or y1 (o + 1) d ≡ get_or before (o + 1) d =
    later _ o (o + 1) _ d _ (omega arith) refl in
    ap (λ (y : List B). set (set (set (set (set (set (set y (o + 6) (get_or before (o + 6) d)) (o + 5) (get_or before (o + 5) d)) (o + 4) (get_or before (o + 4) d)) (o + 3) (get_or before (o + 3) d)) (o + 2) (get_or before (o + 2) d)) (o + 1) (get_or before (o + 1) d)) o (get_or before o d)) (undo y7 (o + 7) _ _ d l7)
    ∙ ap (λ (y : List B). set (set (set (set (set (set y (o + 5) (get_or before (o + 5) d)) (o + 4) (get_or before (o + 4) d)) (o + 3) (get_or before (o + 3) d)) (o + 2) (get_or before (o + 2) d)) (o + 1) (get_or before (o + 1) d)) o (get_or before o d)) (undo y6 (o + 6) _ _ d l6)
    ∙ ap (λ (y : List B). set (set (set (set (set y (o + 4) (get_or before (o + 4) d)) (o + 3) (get_or before (o + 3) d)) (o + 2) (get_or before (o + 2) d)) (o + 1) (get_or before (o + 1) d)) o (get_or before o d)) (undo y5 (o + 5) _ _ d l5)
    ∙ ap (λ (y : List B). set (set (set (set y (o + 3) (get_or before (o + 3) d)) (o + 2) (get_or before (o + 2) d)) (o + 1) (get_or before (o + 1) d)) o (get_or before o d)) (undo y4 (o + 4) _ _ d l4)
    ∙ ap (λ (y : List B). set (set (set y (o + 2) (get_or before (o + 2) d)) (o + 1) (get_or before (o + 1) d)) o (get_or before o d)) (undo y3 (o + 3) _ _ d l3)
    ∙ ap (λ (y : List B). set (set y (o + 1) (get_or before (o + 1) d)) o (get_or before o d)) (undo y2 (o + 2) _ _ d l2)
    ∙ ap (λ (y : List B). set y o (get_or before o d)) (undo y1 (o + 1) _ _ d l1)
    ∙ undo before o _ _ d refl
