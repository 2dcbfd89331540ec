-- The second walk of a marker, behind the first one and the copy of the search order, goes through.
use Rattle.std.proofs.Common.{ℕ, ◌≡◌, ◌+◌, ◌/◌, ◌≤◌, true, [], ◌∷◌, length, Result, Ok, subst, sym}
use Rattle.mi_model.specs.declared.Fault.{Fault}
use Rattle.mi_model.specs.Ops.{Ops}
use Rattle.mi_model.specs.Ops.Test.{Below}
use Rattle.mi_model.specs.Offsets.{KeepsOffsets}
use Rattle.mi_model.specs.Machine.{Machine, asked}
use Rattle.mi_model.specs.Region.{offset_of, fetch_at, with_moved}
use Rattle.mi_model.specs.Outcome.{outcome_of}
use Rattle.mi_model.specs.Markers.{old_wordlist, check_wordlists, restore_wordlists}
use Rattle.mi_model.specs.MarkerLaws.{SameFromForth}
use Rattle.mi_model.proofs.MarkerRestores.{marker_law, order_moved}
use Rattle.mi_model.proofs.MarkerActions.{Newest, newest}
use Rattle.mi_region.specs.View.{StateView, with_bytes}

-- the address that was found is below the old end
below_old : {C B : Type 0} (ops : Ops C B) (m : Machine C B) (old voc : C) (left place : ℕ) → outcome_of ops (old_wordlist left 256) m (old ∷ []) ≡ Ok (place, m)
    → fetch_at ops m.bytes place ≡ Ok voc → asked (ops.test Below voc old) ≡ Ok true
below_old {C} {B} ops m old voc left place is at =
    let found : Newest ops old m (Ok (place, m)) = subst (λ (r : Result (ℕ × Machine C B) Fault). Newest ops old m r) is (newest ops old m left 256) in
    let there : fetch_at ops m.bytes place ≡ Ok found.0 = found.1 in
    let one : found.0 ≡ voc = cc (there, at) in
    subst (λ (x : C). asked (ops.test Below x old) ≡ Ok true) one found.2

pub goes_through : {A C B : Type 0} (ops : A → Ops C B) (s t : StateView A C B) (old voc : C) (end left place order count : ℕ) → KeepsOffsets (ops s.arith)
    → Ok end ≡ offset_of (ops s.arith) old
    → Ok (place, s.machine) ≡ outcome_of (ops s.arith) (old_wordlist left 256) s.machine (old ∷ []) → Ok voc ≡ fetch_at (ops s.arith) s.machine.bytes place
    → Ok (count, s.machine) ≡ outcome_of (ops s.arith) (check_wordlists (length s.machine.bytes / 64) (length s.machine.bytes / 8) 0) s.machine (old ∷ (voc ∷ []))
    → order + 136 ≤ length s.machine.bytes → 240 ≤ length s.machine.bytes
    → t ≡ with_bytes s (with_moved s.machine.bytes order 104 136)
    → (m : Machine C B) × (outcome_of (ops t.arith) (restore_wordlists (length t.machine.bytes / 64) count) t.machine (old ∷ (voc ∷ [])) ≡ Ok (tt, m))
goes_through ops s t old voc end left place order count keeps at newest_is voc_at counted fits long moved =
    let below = below_old (ops s.arith) s.machine old voc left place (sym newest_is) (sym voc_at) in
    let law = marker_law (ops s.arith) keeps s.machine s.machine old voc end count (sym at) below (length s.machine.bytes / 64) (length s.machine.bytes / 8) (sym counted) in
    let same : SameFromForth s.machine.bytes (with_moved s.machine.bytes order 104 136) = order_moved s.machine.bytes order fits long in
    let walk = law.6 (record s.machine { bytes = with_moved s.machine.bytes order 104 136 }) same in
    rw moved (rw same.0 (_, walk))
