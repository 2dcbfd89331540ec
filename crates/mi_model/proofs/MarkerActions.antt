-- What (DOMARKER) throws or is refused, it is before it writes anything.
use Rattle.std.proofs.Common.{ℕ, ℤ, ◌≡◌, ◌+◌, ◌/◌, ◌≤◌, zero, suc, Bool, true, false, nat_le, List, [], ◌∷◌, length, Result, Ok, Err, refl, subst, arith}
use Rattle.std.proofs.lemmas.Bool.Decides.{nat_tests}
use Rattle.mi_model.specs.declared.Fault.{Fault}
use Rattle.mi_model.specs.declared.Effect.{Effect}
use Rattle.mi_model.specs.declared.Effect.TheVariants.{Went}
use Rattle.mi_model.specs.Ops.{Ops}
use Rattle.mi_model.specs.Ops.Two.{Add}
use Rattle.mi_model.specs.Ops.Test.{Below}
use Rattle.mi_model.specs.Machine.{Machine, after, asked, unless_throw, invalid_address}
use Rattle.mi_model.specs.Region.{offset_of, cell_at, range_at, fetch_at, fetch, with_moved}
use Rattle.mi_model.specs.Action.{Action}
use Rattle.mi_model.specs.Action.AnswerKind.{Numbers, Effects}
use Rattle.mi_model.specs.Action.Operand.{At, Plain, Of}
use Rattle.mi_model.specs.Action.Question.{CellAt}
use Rattle.mi_model.specs.Action.Action.{Give, Throws, Ask}
use Rattle.mi_model.specs.Offsets.{KeepsOffsets}
use Rattle.mi_model.specs.Outcome.{outcome_of}
use Rattle.mi_model.specs.Layout.{voc_cell, order_count_cell}
use Rattle.mi_model.specs.Markers.{old_wordlist, check_wordlists, do_domarker}
use Rattle.mi_model.specs.MarkerLaws.{domarker_reads}
use Rattle.mi_model.proofs.MarkerChecks.{by_answer}
use Rattle.mi_model.proofs.MarkerRestores.{marker_law, order_moved}

module _ {C B : Type 0} (ops : Ops C B) (old : C) (m : Machine C B) where
  -- the address of a wordlist below the old end was found, and the machine is as it was
  abbrev pub Newest : Result (ℕ × Machine C B) Fault → Type 0
  Newest (Ok r) = (w : C) × (fetch_at ops m.bytes r.0 ≡ Ok w) × (asked (ops.test Below w old) ≡ Ok true) × (r.1 ≡ m)
  Newest (Err z) = Unit {0}

  newest_more : (left o : ℕ) (w : C) → fetch_at ops m.bytes o ≡ Ok w → ((q : ℕ) → Newest (outcome_of ops (old_wordlist left q) m (old ∷ [])))
      → (t : Bool) → asked (ops.test Below w old) ≡ Ok t
      → Newest (outcome_of {i = Numbers} ops (elim t [ true ↦ Give o | false ↦ Ask CellAt (Of Add (At o) (Plain 8)) (λ q. old_wordlist left q) ]) m (old ∷ []))
  newest_more left o w at rest true e = (w, at, e, refl)
  newest_more left o w at rest false e = rw at (by_answer (λ r. Newest r) (asked (ops.two Add w (ops.plain 8))) _ (λ z. tt) (λ a add. by_answer (λ r. Newest r) (cell_at ops m.bytes a) _ (λ z. tt) (λ q place. rest q)))

  newest_last : (o : ℕ) (w : C) → fetch_at ops m.bytes o ≡ Ok w → (t : Bool) → asked (ops.test Below w old) ≡ Ok t
      → Newest (outcome_of {i = Numbers} ops (elim t [ true ↦ Give o | false ↦ Throws invalid_address ]) m (old ∷ []))
  newest_last o w at true e = (w, at, e, refl)
  newest_last o w at false e = tt

  pub newest : (left o : ℕ) → Newest (outcome_of ops (old_wordlist left o) m (old ∷ []))
  newest zero o = by_answer (λ r. Newest r) (fetch_at ops m.bytes o) _ (λ z. tt) (λ w at. by_answer (λ r. Newest r) (asked (ops.test Below w old)) _ (λ z. tt) (λ t e. newest_last o w at t e))
  newest (suc left) o = by_answer (λ r. Newest r) (fetch_at ops m.bytes o) _ (λ z. tt) (λ w at. by_answer (λ r. Newest r) (asked (ops.test Below w old)) _ (λ z. tt) (λ t e. newest_more left o w at (λ q. newest left q) t e))

  use_newest : {P : Type 0} (r : ℕ × Machine C B) → Newest (Ok r) → ((w : C) → fetch_at ops m.bytes r.0 ≡ Ok w → asked (ops.test Below w old) ≡ Ok true → r.1 ≡ m → P) → P
  use_newest r (w, at, below, same) k = k w at below same

-- a range that may be written lies in the region
range_fits : {C B : Type 0} (ops : Ops C B) (bytes : List B) (x : C) (o : ℕ) → range_at ops bytes 136 x ≡ Ok o → o + 136 ≤ length bytes
unfolding range_at
range_fits ops bytes x o h = by_offset (offset_of ops x) h
  where
    by_test : (p : ℕ) (t : Bool) → nat_le (p + 136) (length bytes) ≡ t → after (unless_throw t invalid_address) (λ _. Ok p) ≡ Ok o → o + 136 ≤ length bytes
    by_test p true e k = let same : p ≡ o = cc in grind (arith, nat_tests)
    by_test p false e k = cc

    by_offset : (r : Result ℕ Fault) → after r (λ p. after (unless_throw (nat_le (p + 136) (length bytes)) invalid_address) (λ _. Ok p)) ≡ Ok o → o + 136 ≤ length bytes
    by_offset (Ok p) k = by_test p _ refl k
    by_offset (Err z) k = cc

module _ {C B : Type 0} (ops : Ops C B) (keeps : KeepsOffsets ops) (m : Machine C B) (least : 240 ≤ length m.bytes) where
  -- where the reads give a count, they have changed nothing and the action goes on; else it throws or is refused the same
  abbrev Through : Result (ℕ × Machine C B) Fault → Result (Effect × Machine C B) Fault → Type 0
  Through (Ok r) s = (r.1 ≡ m) × ((bytes : List B) × (s ≡ Ok (Went, record m { bytes = bytes })))
  Through (Err z) s = s ≡ Err z

  both : {X : Type 0} (r : Result X Fault) (f : X → Result (ℕ × Machine C B) Fault) (g : X → Result (Effect × Machine C B) Fault) → ((x : X) → r ≡ Ok x → Through (f x) (g x)) → Through (after r f) (after r g)
  both (Ok x) f g k = k x refl
  both (Err z) f g k = refl

  both_tested : (t : Bool) (c : ℤ) (a : Action Numbers) (b : Action Effects) (names : List C) → Through (outcome_of ops a m names) (outcome_of ops b m names)
      → Through (outcome_of {i = Numbers} ops (elim t [ true ↦ a | false ↦ Throws c ]) m names) (outcome_of {i = Effects} ops (elim t [ true ↦ b | false ↦ Throws c ]) m names)
  both_tested true c a b names h = h
  both_tested false c a b names h = refl

  through : (token : C) → Through (outcome_of ops domarker_reads m (token ∷ [])) (outcome_of ops do_domarker m (token ∷ []))
  through token =
      both (asked (ops.two Add token (ops.plain 16))) _ _ (λ body _.
      both (fetch ops m.bytes body) _ _ (λ old old_at.
      both (offset_of ops old) _ _ (λ end end_at.
      both_tested (nat_le 4096 end) invalid_address _ _ _ (
      both (outcome_of ops (old_wordlist (length m.bytes / 8) voc_cell) m (old ∷ [])) _ _ (λ r is.
      use_newest ops old m r (subst (λ (t : Result (ℕ × Machine C B) Fault). Newest ops old m t) is (newest ops old m (length m.bytes / 8) voc_cell)) (λ voc voc_at below same.
      rw same (rw voc_at (
      both (fetch ops m.bytes body) _ _ (λ again _.
      both (asked (ops.two Add body (ops.plain 8))) _ _ (λ a _.
      both (fetch ops m.bytes a) _ _ (λ latest _.
      both (asked (ops.two Add body (ops.plain 16))) _ _ (λ b _.
      both (fetch ops m.bytes b) _ _ (λ current _.
      both (asked (ops.two Add body (ops.plain 24))) _ _ (λ c _.
      both (range_at ops m.bytes 136 c) _ _ (λ order order_at.
      both (outcome_of ops (check_wordlists (length m.bytes / 64) (length m.bytes / 8) 0) m (old ∷ (voc ∷ []))) _ _ (λ s checked.
      let law = marker_law ops keeps m s.1 old voc end s.0 end_at below (length m.bytes / 64) (length m.bytes / 8) checked in
      (law.5, rw (law.5) (rw (law.6 (record m { bytes = with_moved m.bytes order order_count_cell 136 }) (order_moved m.bytes order (range_fits ops m.bytes c order order_at) least)) (_, refl)))))))))))))))))))

  pub goes_through : (token : C) (count : ℕ) (n : Machine C B) → outcome_of ops domarker_reads m (token ∷ []) ≡ Ok (count, n)
      → (n ≡ m) × ((bytes : List B) × (outcome_of ops do_domarker m (token ∷ []) ≡ Ok (Went, record m { bytes = bytes })))
  goes_through token count n h = subst (λ (r : Result (ℕ × Machine C B) Fault). Through r (outcome_of ops do_domarker m (token ∷ []))) h (through token)

  pub faults_alike : (token : C) (fault : Fault) → outcome_of ops domarker_reads m (token ∷ []) ≡ Err fault
      → outcome_of ops do_domarker m (token ∷ []) ≡ Err fault
  faults_alike token fault h = subst (λ (r : Result (ℕ × Machine C B) Fault). Through r (outcome_of ops do_domarker m (token ∷ []))) h (through token)
