-- What is behind an offset after it was cleared.
use Rattle.std.proofs.Common.{◌≡◌, ℕ, ◌+◌, ◌-◌, ◌*◌, ◌/◌, ◌%◌, ◌≤◌, List, [], ◌++◌, length, take, drop, replicate, ap, sym, subst, ◌∙◌, arith, length-append, append-nil}
use Rattle.std.proofs.Math.Seq.{drop-append_seam}
use Rattle.std.proofs.lemmas.List.{drop_all, length-replicate, length-take-le, drop-replicate, drop-drop}
use Rattle.mi_model.specs.Ops.{Ops}
use Rattle.mi_model.specs.Region.{with_filled}
use Rattle.mi_machine.specs.Ready.{IsTidy}

-- all that is left is what was cleared
filled_end : {B : Type 0} (bytes : List B) (p : ℕ) (z : B) → p ≤ length bytes → with_filled bytes p (length bytes - p) z ≡ take p bytes ++ replicate (length bytes - p) z
filled_end {B = B} bytes p z h =
    let none : drop (p + (length bytes - p)) bytes ≡ [] = drop_all (p + (length bytes - p)) bytes (omega arith) in
    ap (λ (xs : List B). take p bytes ++ (replicate (length bytes - p) z ++ xs)) none ∙ ap (λ (xs : List B). take p bytes ++ xs) (append-nil (replicate (length bytes - p) z))

pub length_cleared : {B : Type 0} (bytes : List B) (p : ℕ) (z : B) → p ≤ length bytes → length (with_filled bytes p (length bytes - p) z) ≡ length bytes
length_cleared bytes p z h = ap length (filled_end bytes p z h) ∙ omega (arith, length-append (take p bytes) (replicate (length bytes - p) z), length-replicate (length bytes - p) z, length-take-le p bytes h)

pub cleared_behind : {B : Type 0} (bytes : List B) (p : ℕ) (z : B) → p ≤ length bytes → drop p (with_filled bytes p (length bytes - p) z) ≡ replicate (length bytes - p) z
cleared_behind bytes p z h =
    let zeros = replicate (length bytes - p) z in
    ap (drop p) (filled_end bytes p z h) ∙ subst (λ (k : ℕ). drop k (take p bytes ++ zeros) ≡ zeros) (length-take-le p bytes h) (drop-append_seam (take p bytes) zeros)

-- what is behind the next whole cell
pub tidy : {C B : Type 0} (ops : Ops C B) (bytes : List B) (p : ℕ) → 4096 ≤ p → p ≤ length bytes → drop p bytes ≡ replicate (length bytes - p) (ops.byte 0)
    → IsTidy ((p + 7) / 8 * 8) ops bytes
tidy {B = B} ops bytes p least most cleared =
    let used = (p + 7) / 8 * 8 in
    let above : p ≤ used = omega arith in
    let by = used - p in
    let same : p + by ≡ used = omega arith in
    let left : length bytes - p - by ≡ length bytes - used = omega arith in
    record {
      aligned = omega arith;
      least = omega arith;
      most = λ (h : length bytes % 8 ≡ 0). omega arith;
      cleared = ap (λ (k : ℕ). drop k bytes) (sym same) ∙ sym (drop-drop by p bytes) ∙ ap (drop by) cleared ∙ drop-replicate by (length bytes - p) (ops.byte 0) ∙ ap (λ (k : ℕ). replicate k (ops.byte 0)) left;
    }
