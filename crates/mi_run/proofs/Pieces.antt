-- Pieces of what a run emits.
use Rattle.std.proofs.Common.{◌≡◌, ◌==◌, ℕ, false, List, [], ◌∷◌, length, ◌++◌, Option, Result, Ok, Err, OnOk, refl, sym, ◌∙◌, subst}
use Rattle.std.specs.Prelude.{IsErr, IsErrOf, IsErrAnd, IfErr}
use Rattle.mi_model.specs.Recovery.{behind_blank}
use Rattle.mi_arith.specs.declared.plain.Plain.{Plain}
use Rattle.mi_region.specs.View.{StateView}
use Rattle.mi_outside.specs.Puts.{Output, Puts}
use Rattle.mi_outside.proofs.Putting.{puts_on, puts_front, lost_more, lost_on}
use Rattle.mi_reloc.specs.declared.ending.RunEnd.{RunEnd}
use Rattle.mi_reloc.specs.declared.ending.RunEnd.TheVariants.{ReadFault, WriteFault}
use Rattle.mi_run.specs.Ending.{IsRefusal}
use Rattle.mi_run.specs.Course.{PutsPiece}

pub piece_then : (r : Result (Unit {0}) RunEnd) (first second third : Output) (xs ys : List ℕ) → Puts first second xs → PutsPiece r second third ys → PutsPiece r first third (xs ++ ys)
piece_then (Ok x) first second third xs ys h k = puts_on first second third (xs ++ ys) ys [] (puts_front first second xs ys h) k
piece_then (Err end) first second third xs ys h k = (k.0, lost_on first second third (xs ++ ys) ys (puts_front first second xs ys h) k.1)

pub piece_more : (end : RunEnd) (first second : Output) (xs ys : List ℕ) → PutsPiece (Err end) first second xs → PutsPiece (Err end) first second (xs ++ ys)
piece_more end first second xs ys h = (h.0, lost_more first second xs ys h.1)

-- a piece that failed in a call
pub failed_piece : (r : Result (Unit {0}) RunEnd) (end : RunEnd) (before now : Output) (bytes : List ℕ) → IsErrAnd r (λ e. e ≡ end) → PutsPiece (Err end) before now bytes → PutsPiece r before now bytes
failed_piece (Ok x) end before now bytes is h = absurd is
failed_piece (Err e) end before now bytes is h = subst (λ (x : RunEnd). PutsPiece (Err x) before now bytes) (sym is) h

pub behind_some : (text : List ℕ) → false ≡ (length text == 0) → behind_blank text ≡ (32 ∷ []) ++ text
behind_some [] h = cc
behind_some (c ∷ cs) h = refl

-- a piece fails only by the output
pub piece_begun : (r : Result (Unit {0}) RunEnd) (before now : Output) (bytes : List ℕ) → PutsPiece r before now bytes → IfErr r (λ end. IsRefusal end → ⊥)
piece_begun (Ok x) before now bytes h = tt
piece_begun (Err end) before now bytes h = λ k. subst IsRefusal h.0 k

pub piece_reads : (r : Result (Unit {0}) RunEnd) (before now : Output) (bytes : List ℕ) → PutsPiece r before now bytes → IsErrOf r ReadFault → ⊥
piece_reads r before now bytes h e =
    let k = subst (λ (x : Result (Unit {0}) RunEnd). PutsPiece x before now bytes) e h in
    let same : ReadFault ≡ WriteFault = k.0 in cc

pub piece_fault : {P : Type 0} (r : Result (Unit {0}) RunEnd) → (IsErr r → P) → IsErrOf r WriteFault → P
piece_fault r h e = h (subst (λ (x : Result (Unit {0}) RunEnd). IsErr x) (sym e) refl)

-- what is known of a call that answers is known where it goes on
pub on_ok : {P : Type 0} (r : Result (Unit {0}) RunEnd) → P → OnOk r P
on_ok (Ok x) p = p
on_ok (Err end) p = tt

pub same_arith : (r : Result (Unit {0}) RunEnd) (s n : StateView Plain ℕ ℕ) (a : Plain) → OnOk r (a ≡ n.arith) → n ≡ s → OnOk r (a ≡ s.arith)
same_arith r s n a h e = subst (λ (x : StateView Plain ℕ ℕ). OnOk r (a ≡ x.arith)) e h

-- the output failed, so the input didn't
pub not_both_faults : (end : RunEnd) → end ≡ WriteFault → end ≡ ReadFault → ⊥
not_both_faults end e h = let no : ReadFault ≡ WriteFault = sym h ∙ e in cc
