-- One step more of the walks of a marker.
use Rattle.std.proofs.Common.{◌≡◌, ℕ, zero, suc, negsuc, Bool, true, false, nat_le, Err, ◌+◌, ◌-◌, ◌/◌, ◌<◌, List, [], ◌∷◌, length, Ok, refl, ap, sym, ◌∙◌, arith}
use Rattle.std.proofs.lemmas.Bool.Decides.{nat_tests}
use Rattle.mi_model.specs.declared.Fault.TheVariants.{Throw}
use Rattle.mi_model.specs.Ops.{Ops}
use Rattle.mi_model.specs.Ops.Test.{Equal}
use Rattle.mi_model.specs.Ops.Two.{Add}
use Rattle.mi_model.specs.Machine.{Machine}
use Rattle.mi_model.specs.Region.{offset_of, cell_at, fetch, fetch_at, with_cell}
use Rattle.mi_model.specs.Action.{Action}
use Rattle.mi_model.specs.Action.Action.{Throws}
use Rattle.mi_model.specs.Action.AnswerKind.{Numbers, Nothing}
use Rattle.mi_model.specs.Outcome.{outcome_of}
use Rattle.mi_model.specs.Markers.{old_wordlist, visit_new_wordlist, old_header, visit_new_header, check_wordlists, check_wordlist, restore_wordlists, restore_wordlist}
use Rattle.mi_model.proofs.ChainLemmas.{same_length}
use Rattle.mi_region.specs.View.{StateView, with_bytes}

pub old_wordlist_next : {C B : Type 0} (ops : Ops C B) (left o : ℕ) (m : Machine C B) (names : List C) → 0 < left
    → outcome_of ops (old_wordlist left o) m names ≡ outcome_of ops (visit_new_wordlist o (λ next. old_wordlist (left - 1) next)) m names
old_wordlist_next ops zero o m names h = absurd (omega arith)
old_wordlist_next ops (suc left) o m names h = let e : left ≡ suc left - 1 = omega arith in ap (λ (k : ℕ). outcome_of ops (visit_new_wordlist o (λ next. old_wordlist k next)) m names) e

pub old_header_next : {C B : Type 0} (ops : Ops C B) (left o : ℕ) (m : Machine C B) (names : List C) → 0 < left
    → outcome_of ops (old_header left o) m names ≡ outcome_of ops (visit_new_header o (λ next. old_header (left - 1) next)) m names
old_header_next ops zero o m names h = absurd (omega arith)
old_header_next ops (suc left) o m names h = let e : left ≡ suc left - 1 = omega arith in ap (λ (k : ℕ). outcome_of ops (visit_new_header o (λ next. old_header k next)) m names) e

pub check_wordlists_next : {C B : Type 0} (ops : Ops C B) (headers left counted : ℕ) (m : Machine C B) (names : List C) → 0 < left
    → outcome_of ops (check_wordlists headers left counted) m names ≡ outcome_of ops (check_wordlist headers counted (check_wordlists headers (left - 1) (counted + 1))) m names
check_wordlists_next ops headers zero counted m names h = absurd (omega arith)
check_wordlists_next ops headers (suc left) counted m names h = let e : left ≡ suc left - 1 = omega arith in ap (λ (k : ℕ). outcome_of ops (check_wordlist headers counted (check_wordlists headers k (counted + 1))) m names) e

-- a test that doesn't hold throws
test_throws : {C B : Type 0} (ops : Ops C B) (m : Machine C B) (names : List C) (t : Bool) (rest : Action Numbers) → t ≡ false
    → outcome_of {i = Numbers} ops (elim t [ true ↦ rest | false ↦ Throws (negsuc 8) ]) m names ≡ Err (Throw (negsuc 8))
test_throws ops m names true rest e = cc
test_throws ops m names false rest e = refl

-- a wordlist lies below that of FORTH
low_throws : {C B : Type 0} (ops : Ops C B) (headers left counted o : ℕ) (m : Machine C B) (old list : C) → 0 < left → ops.test Equal list (ops.plain 0) ≡ Ok false → offset_of ops list ≡ Ok o → o < 240
    → outcome_of ops (check_wordlists headers left counted) m (old ∷ (list ∷ [])) ≡ Err (Throw (negsuc 8))
low_throws ops headers left counted o m old list more is at low =
    let low_is : nat_le 240 o ≡ false = grind (arith, nat_tests) in
    check_wordlists_next ops headers left counted m (old ∷ (list ∷ [])) more ∙ rw is (rw at (test_throws ops m (old ∷ (list ∷ [])) (nat_le 240 o) _ low_is))

pub too_low : {A C B : Type 0} (ops : A → Ops C B) (a0 a1 : A) (headers left counted o : ℕ) (m : Machine C B) (old list none : C) (ends : Bool) → 0 < left → a1 ≡ a0 → none ≡ (ops a1).plain 0
    → Ok ends ≡ (ops a1).test Equal list none → ends ≡ false → Ok o ≡ offset_of (ops a0) list → o < 240
    → Err (Throw (negsuc 8)) ≡ outcome_of (ops a0) (check_wordlists headers left counted) m (old ∷ (list ∷ []))
too_low {A} {C} ops a0 a1 headers left counted o m old list none ends more own is test not at low =
    let tested : (ops a0).test Equal list ((ops a0).plain 0) ≡ Ok false =
    ap (λ (x : A). (ops x).test Equal list ((ops x).plain 0)) (sym own) ∙ (ap (λ (c : C). (ops a1).test Equal list c) (sym is) ∙ (sym test ∙ ap (λ (b : Bool). Ok b) not)) in
    sym (low_throws (ops a0) headers left counted o m old list more tested (sym at) low)

pub restore_wordlists_next : {C B : Type 0} (ops : Ops C B) (headers left : ℕ) (m : Machine C B) (names : List C) → 0 < left
    → outcome_of ops (restore_wordlists headers left) m names ≡ outcome_of ops (restore_wordlist headers (restore_wordlists headers (left - 1))) m names
restore_wordlists_next ops headers zero m names h = absurd (omega arith)
restore_wordlists_next ops headers (suc left) m names h = let e : left ≡ suc left - 1 = omega arith in ap (λ (k : ℕ). outcome_of ops (restore_wordlist headers (restore_wordlists headers k)) m names) e

-- one wordlist is restored
restored_one : {C B : Type 0} (ops : Ops C B) (headers head place : ℕ) (rest : Action Nothing) (m : Machine C B) (old list a link header : C)
    → cell_at ops m.bytes list ≡ Ok head → outcome_of ops (old_header headers head) m (old ∷ []) ≡ Ok (place, m) → ops.two Add list (ops.plain 8) ≡ Ok a
    → fetch ops m.bytes a ≡ Ok link → fetch_at ops m.bytes place ≡ Ok header
    → outcome_of ops (restore_wordlist headers rest) m (old ∷ (list ∷ [])) ≡ outcome_of ops rest (record m { bytes = with_cell ops m.bytes head header }) (old ∷ (link ∷ []))
restored_one ops headers head place rest m old list a link header at walked add link_at header_at = rw at (rw walked (rw add (rw link_at (rw header_at refl))))

pub restored_next : {A C B : Type 0} (ops : A → Ops C B) (s t : StateView A C B) (a0 a1 : A) (headers left head place : ℕ) (old list eight a link header : C)
    → 0 < left → length s.machine.bytes / 64 ≡ headers → s.arith ≡ a0 → a1 ≡ a0
    → Ok head ≡ cell_at (ops s.arith) s.machine.bytes list
    → Ok (place, s.machine) ≡ outcome_of (ops s.arith) (old_header (length s.machine.bytes / 64) head) s.machine (old ∷ [])
    → eight ≡ (ops a1).plain 8 → Ok a ≡ (ops a1).two Add list eight
    → Ok link ≡ fetch (ops s.arith) s.machine.bytes a
    → Ok header ≡ fetch_at (ops s.arith) s.machine.bytes place
    → t ≡ with_bytes s (with_cell (ops s.arith) s.machine.bytes head header)
    → outcome_of (ops a0) (restore_wordlists headers (left - 1)) t.machine (old ∷ (link ∷ [])) ≡ outcome_of (ops a0) (restore_wordlists headers left) s.machine (old ∷ (list ∷ []))
restored_next {A} {C} {B} ops s t a0 a1 headers left head place old list eight a link header more most own other at walked is add link_at header_at put =
    let walked_to : outcome_of (ops a0) (old_header headers head) s.machine (old ∷ []) ≡ Ok (place, s.machine) =
    ap (λ (n : ℕ). outcome_of (ops a0) (old_header n head) s.machine (old ∷ [])) (sym most) ∙ (ap (λ (x : A). outcome_of (ops x) (old_header (length s.machine.bytes / 64) head) s.machine (old ∷ [])) (sym own) ∙ sym walked) in
    let written : t.machine ≡ record s.machine { bytes = with_cell (ops a0) s.machine.bytes head header } =
    ap (λ (v : StateView A C B). v.machine) put ∙ ap (λ (x : A). record s.machine { bytes = with_cell (ops x) s.machine.bytes head header }) own in
    let added : (ops a0).two Add list ((ops a0).plain 8) ≡ Ok a =
    ap (λ (x : A). (ops x).two Add list ((ops x).plain 8)) (sym other) ∙ (ap (λ (c : C). (ops a1).two Add list c) (sym is) ∙ sym add) in
    let one = restored_one (ops a0) headers head place (restore_wordlists headers (left - 1)) s.machine old list a link header
    (ap (λ (x : A). cell_at (ops x) s.machine.bytes list) (sym own) ∙ sym at) walked_to added
    (ap (λ (x : A). fetch (ops x) s.machine.bytes a) (sym own) ∙ sym link_at) (ap (λ (x : A). fetch_at (ops x) s.machine.bytes place) (sym own) ∙ sym header_at) in
    ap (λ (m : Machine C B). outcome_of (ops a0) (restore_wordlists headers (left - 1)) m (old ∷ (link ∷ []))) written
    ∙ (sym one ∙ sym (restore_wordlists_next (ops a0) headers left s.machine (old ∷ (list ∷ [])) more))

-- what a cell that is put leaves
pub kept_arith : {A C B : Type 0} (ops : Ops C B) (s t : StateView A C B) (o : ℕ) (a : A) (v : C) → t ≡ with_bytes s (with_cell ops s.machine.bytes o v) → s.arith ≡ a → t.arith ≡ a
kept_arith {A} {C} {B} ops s t o a v put own = ap (λ (w : StateView A C B). w.arith) put ∙ own

pub kept_size : {A C B : Type 0} (ops : Ops C B) (s t : StateView A C B) (o n : ℕ) (v : C) → t ≡ with_bytes s (with_cell ops s.machine.bytes o v) → length s.machine.bytes ≡ n → length t.machine.bytes ≡ n
kept_size {A} {C} {B} ops s t o n v put size = ap (λ (w : StateView A C B). length w.machine.bytes) put ∙ (same_length ops s.machine.bytes o v ∙ size)
