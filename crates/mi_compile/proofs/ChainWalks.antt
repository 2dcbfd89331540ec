-- One step more of the walks over a chain, and that the second one goes through.
use Rattle.std.proofs.Common.{◌≡◌, ℕ, zero, suc, ◌+◌, ◌-◌, ◌<◌, List, [], ◌∷◌, length, Ok, ap, sym, ◌∙◌, refl, arith}
use Rattle.mi_model.specs.Ops.{Ops}
use Rattle.mi_model.specs.Machine.{Machine}
use Rattle.mi_model.specs.Region.{cell_at, fetch_at, with_cell}
use Rattle.mi_model.specs.Action.{Action}
use Rattle.mi_model.specs.Action.AnswerKind.{Nothing}
use Rattle.mi_model.specs.Outcome.{outcome_of}
use Rattle.mi_model.specs.Chains.{count_from, count_member, chain_length, resolve, resolve_member}
use Rattle.mi_model.proofs.ChainLemmas.{same_length, chain_law}
use Rattle.mi_region.specs.View.{StateView, with_bytes}

pub count_next : {C B : Type 0} (ops : Ops C B) (left counted : ℕ) (m : Machine C B) (names : List C) → 0 < left
    → outcome_of ops (count_from left counted) m names ≡ outcome_of ops (count_member counted (count_from (left - 1) (counted + 1))) m names
count_next ops zero counted m names h = absurd (omega arith)
count_next ops (suc left) counted m names h = let e : left ≡ suc left - 1 = omega arith in ap (λ (k : ℕ). outcome_of ops (count_member counted (count_from k (counted + 1))) m names) e

pub resolve_next : {C B : Type 0} (ops : Ops C B) (left : ℕ) (m : Machine C B) (names : List C) → 0 < left
    → outcome_of ops (resolve left) m names ≡ outcome_of ops (resolve_member (resolve (left - 1))) m names
resolve_next ops zero m names h = absurd (omega arith)
resolve_next ops (suc left) m names h = let e : left ≡ suc left - 1 = omega arith in ap (λ (k : ℕ). outcome_of ops (resolve_member (resolve k)) m names) e

-- one member becomes the target
resolved_one : {C B : Type 0} (ops : Ops C B) (place : ℕ) (rest : Action Nothing) (m : Machine C B) (member next target : C)
    → cell_at ops m.bytes member ≡ Ok place → fetch_at ops m.bytes place ≡ Ok next
    → outcome_of ops (resolve_member rest) m (member ∷ (target ∷ [])) ≡ outcome_of ops rest (record m { bytes = with_cell ops m.bytes place target }) (next ∷ (target ∷ []))
resolved_one ops place rest m member next target at link = rw at (rw link refl)

pub resolved_next : {A C B : Type 0} (ops : A → Ops C B) (s t : StateView A C B) (a : A) (left place : ℕ) (member next target : C)
    → 0 < left → s.arith ≡ a
    → Ok place ≡ cell_at (ops s.arith) s.machine.bytes member
    → Ok next ≡ fetch_at (ops s.arith) s.machine.bytes place
    → t ≡ with_bytes s (with_cell (ops s.arith) s.machine.bytes place target)
    → outcome_of (ops a) (resolve (left - 1)) t.machine (next ∷ (target ∷ [])) ≡ outcome_of (ops a) (resolve left) s.machine (member ∷ (target ∷ []))
resolved_next {A} {C} {B} ops s t a left place member next target more own at link put =
    let written : t.machine ≡ record s.machine { bytes = with_cell (ops a) s.machine.bytes place target } =
    ap (λ (v : StateView A C B). v.machine) put ∙ ap (λ (x : A). record s.machine { bytes = with_cell (ops x) s.machine.bytes place target }) own in
    let one = resolved_one (ops a) place (resolve (left - 1)) s.machine member next target
    (ap (λ (x : A). cell_at (ops x) s.machine.bytes member) (sym own) ∙ sym at) (ap (λ (x : A). fetch_at (ops x) s.machine.bytes place) (sym own) ∙ sym link) in
    ap (λ (m : Machine C B). outcome_of (ops a) (resolve (left - 1)) m (next ∷ (target ∷ []))) written
    ∙ (sym one ∙ sym (resolve_next (ops a) left s.machine (member ∷ (target ∷ [])) more))

-- where the members were counted, the second walk goes through
pub goes_through : {C B : Type 0} (ops : Ops C B) (m : Machine C B) (chain target : C) (count : ℕ) → Ok (count, m) ≡ outcome_of ops chain_length m (chain ∷ [])
    → (n : Machine C B) × (outcome_of ops (resolve count) m (chain ∷ (target ∷ [])) ≡ Ok (tt, n))
goes_through ops m chain target count counted = let law = chain_law ops m chain target count m (sym counted) in (_, law.5)

-- what a cell that is put leaves
pub kept_arith : {A C B : Type 0} (ops : Ops C B) (s t : StateView A C B) (o : ℕ) (a : A) (v : C) → t ≡ with_bytes s (with_cell ops s.machine.bytes o v) → s.arith ≡ a → t.arith ≡ a
kept_arith {A} {C} {B} ops s t o a v put own = ap (λ (w : StateView A C B). w.arith) put ∙ own

pub kept_size : {A C B : Type 0} (ops : Ops C B) (s t : StateView A C B) (o n : ℕ) (v : C) → t ≡ with_bytes s (with_cell ops s.machine.bytes o v) → length s.machine.bytes ≡ n → length t.machine.bytes ≡ n
kept_size {A} {C} {B} ops s t o n v put size = ap (λ (w : StateView A C B). length w.machine.bytes) put ∙ (same_length ops s.machine.bytes o v ∙ size)

pub kept_stack : {A C B : Type 0} (ops : Ops C B) (s t : StateView A C B) (o : ℕ) (stack : List C) (v : C) → t ≡ with_bytes s (with_cell ops s.machine.bytes o v) → s.machine.stack ≡ stack → t.machine.stack ≡ stack
kept_stack {A} {C} {B} ops s t o stack v put own = ap (λ (w : StateView A C B). w.machine.stack) put ∙ own
