-- The first walk of a marker over the wordlists: where it counts, it has met wordlists that descend.
use Rattle.std.proofs.Common.{ℕ, ◌≡◌, ◌+◌, ◌%◌, ◌≤◌, ◌==◌, zero, suc, Bool, true, false, nat_le, List, [], ◌∷◌, length, Result, Ok, Err, refl, ap, subst, ◌∙◌, arith}
use Rattle.std.proofs.lemmas.Bool.Decides.{nat_tests}
use Rattle.mi_model.specs.declared.Fault.{Fault}
use Rattle.mi_model.specs.Ops.{Ops}
use Rattle.mi_model.specs.Ops.Two.{Add}
use Rattle.mi_model.specs.Ops.Test.{Equal, Below}
use Rattle.mi_model.specs.Machine.{Machine, after, asked, unless_throw, invalid_address, misaligned}
use Rattle.mi_model.specs.Region.{offset_of, cell_at, fetch_at, fetch}
use Rattle.mi_model.specs.Action.{Action}
use Rattle.mi_model.specs.Action.AnswerKind.{Numbers, Nothing}
use Rattle.mi_model.specs.Action.Operand.{Named, At, Plain, Of}
use Rattle.mi_model.specs.Action.Question.{Offset, CellAt}
use Rattle.mi_model.specs.Action.Action.{Give, Throws, Check, Ask, Fetch, Call, Again}
use Rattle.mi_model.specs.Outcome.{outcome_of}
use Rattle.mi_model.specs.Markers.{old_header, check_link, check_wordlists}
use Rattle.mi_model.specs.MarkerLaws.{FirstBelow, AreWordlists, Descend}
use Rattle.mi_model.specs.MarkerLaws.FirstBelow.{none, here, behind}
use Rattle.mi_model.specs.MarkerLaws.AreWordlists.{ends, wordlist}

-- what holds of each fault, and of what follows each answer, holds of both
pub by_answer : {X Y : Type 0} (P : Result Y Fault → Type 0) (r : Result X Fault) (f : X → Result Y Fault) → ((z : Fault) → P (Err z)) → ((x : X) → r ≡ Ok x → P (f x)) → P (after r f)
by_answer P (Ok x) f fails k = k x refl
by_answer P (Err z) f fails k = fails z

one_answer : {X : Type 0} (r : Result X Fault) (x y : X) → r ≡ Ok x → r ≡ Ok y → x ≡ y
one_answer r x y h k = cc

abbrev result_is : Result ℕ Fault → Result ℕ Fault → Type 0
result_is r s = r ≡ s

-- the same where two answers follow one another
by_answers : {X Y Z : Type 0} (P : Result Z Fault → Type 0) (r : Result X Fault) (g : X → Result Y Fault) (f : Y → Result Z Fault) → ((z : Fault) → P (Err z))
    → ((x : X) (y : Y) → r ≡ Ok x → g x ≡ Ok y → P (f y)) → P (after (after r g) f)
by_answers P (Ok x) g f fails k = by_answer P (g x) f fails (λ y e. k x y refl e)
by_answers P (Err z) g f fails k = fails z

module _ {C B : Type 0} (ops : Ops C B) where
  -- a cell's place is the offset of its address
  pub place_offset : (bytes : List B) (c : C) (o : ℕ) → cell_at ops bytes c ≡ Ok o → offset_of ops c ≡ Ok o
  unfolding cell_at
  place_offset bytes c o h = by_offset (offset_of ops c) h
    where
      by_tests : (p : ℕ) (fits aligned : Bool) → after (unless_throw fits invalid_address) (λ _. after (unless_throw aligned misaligned) (λ _. Ok p)) ≡ Ok o → result_is (Ok p) (Ok o)
      by_tests p true true k = k
      by_tests p true false k = cc
      by_tests p false aligned k = cc

      by_offset : (r : Result ℕ Fault) → after r (λ p. after (unless_throw (nat_le (p + 8) (length bytes)) invalid_address) (λ _. after (unless_throw (p % 8 == 0) misaligned) (λ _. Ok p))) ≡ Ok o → r ≡ Ok o
      by_offset (Ok p) k = by_tests p _ _ k
      by_offset (Err f) k = cc

  module _ (old : C) (end : ℕ) (m : Machine C B) (high : (y : C) (o q : ℕ) → fetch_at ops m.bytes o ≡ Ok y → asked (ops.test Below y old) ≡ Ok false → cell_at ops m.bytes y ≡ Ok q → end ≤ q) where
    -- the walk over headers has met the first one below the old end, and has left the machine as it was
    abbrev Found : (most o : ℕ) → Result (ℕ × Machine C B) Fault → Type 0
    Found most o (Ok r) = (x : C) × FirstBelow ops m.bytes old end most o r.0 x × (r.1 ≡ m)
    Found most o (Err z) = Unit {0}

    found_behind : (most o q : ℕ) (y : C) → fetch_at ops m.bytes o ≡ Ok y → asked (ops.test Equal y (ops.plain 0)) ≡ Ok false → asked (ops.test Below y old) ≡ Ok false → cell_at ops m.bytes y ≡ Ok q
        → (r : Result (ℕ × Machine C B) Fault) → Found most q r → Found (suc most) o r
    found_behind most o q y at e below link (Ok r) (x, first, same) = (x, behind at e below link (high y o q at below link) first, same)
    found_behind most o q y at e below link (Err z) h = tt

    found_below : (most o : ℕ) (y : C) → fetch_at ops m.bytes o ≡ Ok y → asked (ops.test Equal y (ops.plain 0)) ≡ Ok false
        → ((q : ℕ) → Found most q (outcome_of ops (old_header most q) m (old ∷ [])))
        → (t : Bool) → asked (ops.test Below y old) ≡ Ok t → Found (suc most) o (outcome_of {i = Numbers} ops (elim t [ true ↦ Give o | false ↦ Ask CellAt (At o) (λ q. old_header most q) ]) m (old ∷ []))
    found_below most o y at e rest true below = (y, here at e below, refl)
    found_below most o y at e rest false below = rw at (by_answer (λ r. Found (suc most) o r) (cell_at ops m.bytes y) _ (λ z. tt) (λ q link. found_behind most o q y at e below link _ (rest q)))

    found_more : (most o : ℕ) (y : C) → fetch_at ops m.bytes o ≡ Ok y
        → ((q : ℕ) → Found most q (outcome_of ops (old_header most q) m (old ∷ [])))
        → (t : Bool) → asked (ops.test Equal y (ops.plain 0)) ≡ Ok t
        → Found (suc most) o (outcome_of {i = Numbers} ops (elim t [ true ↦ Give o | false ↦ Check Below (At o) (Named 0) (λ b. elim b [ true ↦ Give o | false ↦ Ask CellAt (At o) (λ q. old_header most q) ]) ]) m (old ∷ []))
    found_more most o y at rest true e = (y, none at e, refl)
    found_more most o y at rest false e = rw at (by_answer (λ r. Found (suc most) o r) (asked (ops.test Below y old)) _ (λ z. tt) (λ t below. found_below most o y at e rest t below))

    found_last : (o : ℕ) (y : C) → fetch_at ops m.bytes o ≡ Ok y → (t : Bool) → asked (ops.test Equal y (ops.plain 0)) ≡ Ok t
        → Found 0 o (outcome_of {i = Numbers} ops (elim t [ true ↦ Give o | false ↦ Throws invalid_address ]) m (old ∷ []))
    found_last o y at true e = (y, none at e, refl)
    found_last o y at false e = tt

    found : (most o : ℕ) → Found most o (outcome_of ops (old_header most o) m (old ∷ []))
    found zero o = by_answer (λ r. Found 0 o r) (fetch_at ops m.bytes o) _ (λ z. tt) (λ y at. by_answer (λ r. Found 0 o r) (asked (ops.test Equal y (ops.plain 0))) _ (λ z. tt) (λ t e. found_last o y at t e))
    found (suc most) o = by_answer (λ r. Found (suc most) o r) (fetch_at ops m.bytes o) _ (λ z. tt) (λ y at.
        by_answer (λ r. Found (suc most) o r) (asked (ops.test Equal y (ops.plain 0))) _ (λ z. tt) (λ t e. found_more most o y at (λ q. found most q) t e))

    -- a link that was tested leads to a wordlist that ends at or below the offset
    abbrev Lower : (bound : ℕ) → C → Type 0
    Lower bound w = (p : ℕ) → asked (ops.test Equal w (ops.plain 0)) ≡ Ok false → offset_of ops w ≡ Ok p → p + 16 ≤ bound

    abbrev Tested : (o : ℕ) → C → Result ((Unit {0}) × Machine C B) Fault → Type 0
    Tested o link (Ok r) = Lower o link × (r.1 ≡ m)
    Tested o link (Err z) = Unit {0}

    tested_lower : (o p : ℕ) (link : C) → offset_of ops link ≡ Ok p → (t : Bool) → nat_le (p + 16) o ≡ t
        → Tested o link (outcome_of {i = Nothing} ops (elim t [ true ↦ Give tt | false ↦ Throws invalid_address ]) m (link ∷ []))
    tested_lower o p link at true e = ((λ q _ also. let same : p ≡ q = one_answer (offset_of ops link) p q at also in grind (arith, nat_tests)), refl)
    tested_lower o p link at false e = tt

    tested_link : (o : ℕ) (link : C) (t : Bool) → asked (ops.test Equal link (ops.plain 0)) ≡ Ok t
        → Tested o link (outcome_of {i = Nothing} ops (elim t [ true ↦ Give tt | false ↦ Ask Offset (Named 0) (λ p. elim (nat_le (p + 16) o) [ true ↦ Give tt | false ↦ Throws invalid_address ]) ]) m (link ∷ []))
    tested_link o link true e = ((λ q not _. cc), refl)
    tested_link o link false e = by_answer (λ r. Tested o link r) (offset_of ops link) _ (λ z. tt) (λ p at. tested_lower o p link at _ refl)

    tested : (o : ℕ) (link : C) → Tested o link (outcome_of ops (check_link o) m (link ∷ []))
    unfolding check_link
    tested o link = by_answer (λ r. Tested o link r) (asked (ops.test Equal link (ops.plain 0))) _ (λ z. tt) (λ t e. tested_link o link t e)

    -- the next link stands 8 bytes behind the head
    module _ (headers : ℕ) (along : (w a : C) (o l : ℕ) → offset_of ops w ≡ Ok o → asked (ops.two Add w (ops.plain 8)) ≡ Ok a → offset_of ops a ≡ Ok l → l ≡ o + 8) where
      -- the walk over wordlists has met wordlists that descend from a bound, and has left the machine as it was
      abbrev Visited : (bound counted : ℕ) → C → Result (ℕ × Machine C B) Fault → Type 0
      Visited bound counted w (Ok r) = (lists : List (ℕ × C)) × AreWordlists ops m.bytes old end headers w lists × Descend bound lists × (r.0 ≡ counted + length lists) × (r.1 ≡ m)
      Visited bound counted w (Err z) = Unit {0}

      -- one wordlist more was met
      visited_next : (bound counted o place l : ℕ) (w a link x : C) → asked (ops.test Equal w (ops.plain 0)) ≡ Ok false → cell_at ops m.bytes w ≡ Ok o → FirstBelow ops m.bytes old end headers o place x
          → asked (ops.two Add w (ops.plain 8)) ≡ Ok a → cell_at ops m.bytes a ≡ Ok l → fetch_at ops m.bytes l ≡ Ok link → 240 ≤ o → Lower bound w
          → (r : Result (ℕ × Machine C B) Fault) → Visited o (counted + 1) link r → Visited bound counted w r
      visited_next bound counted o place l w a link x e at first add link_at found least lower (Ok r) (lists, are, d, count, same) =
          let next : l ≡ o + 8 = along w a o l (place_offset m.bytes w o at) add (place_offset m.bytes a l link_at) in (
            (o, x) ∷ lists,
            wordlist e at first add (link_at ∙ ap (λ (q : ℕ). Ok q) next) (subst (λ (q : ℕ). fetch_at ops m.bytes q ≡ Ok link) next found) are,
            (least, lower o e (place_offset m.bytes w o at), d),
            (count ∙ omega arith),
            same,
          )
      visited_next bound counted o place l w a link x e at first add link_at found least lower (Err z) h = tt

      -- what follows when the link was tested
      visited_link : (bound counted o place l : ℕ) (w a link x : C) → asked (ops.test Equal w (ops.plain 0)) ≡ Ok false → cell_at ops m.bytes w ≡ Ok o → FirstBelow ops m.bytes old end headers o place x
          → asked (ops.two Add w (ops.plain 8)) ≡ Ok a → cell_at ops m.bytes a ≡ Ok l → fetch_at ops m.bytes l ≡ Ok link → 240 ≤ o → Lower bound w
          → (walk : Action Numbers) → ((v : C) → Lower o v → Visited o (counted + 1) v (outcome_of ops walk m (old ∷ (v ∷ []))))
          → (r : (Unit {0}) × Machine C B) → Tested o link (Ok r) → Visited bound counted w (outcome_of ops walk r.1 (old ∷ (link ∷ [])))
      visited_link bound counted o place l w a link x e at first add link_at found least lower walk rest r (below, same) =
          rw same (visited_next bound counted o place l w a link x e at first add link_at found least lower _ (rest link below))

      -- what follows when the header was found
      visited_place : (bound counted o : ℕ) (w x : C) → asked (ops.test Equal w (ops.plain 0)) ≡ Ok false → cell_at ops m.bytes w ≡ Ok o → 240 ≤ o → Lower bound w
          → (walk : Action Numbers) → ((v : C) → Lower o v → Visited o (counted + 1) v (outcome_of ops walk m (old ∷ (v ∷ []))))
          → (r : ℕ × Machine C B) → FirstBelow ops m.bytes old end headers o r.0 x → r.1 ≡ m
          → Visited bound counted w (outcome_of {i = Numbers} ops (Fetch (Of Add (Named 1) (Plain 8)) (λ link. Call (check_link o) (link ∷ []) (λ _. Again (Named 0 ∷ (link ∷ [])) walk))) r.1 (old ∷ (w ∷ [])))
      unfolding fetch
      visited_place bound counted o w x e at least lower walk rest r first same =
          rw same (by_answer (λ r. Visited bound counted w r) (asked (ops.two Add w (ops.plain 8))) _ (λ z. tt) (λ a add.
          by_answers (λ r. Visited bound counted w r) (cell_at ops m.bytes a) (λ l. fetch_at ops m.bytes l) _ (λ z. tt) (λ l link link_at found.
          by_answer (λ r. Visited bound counted w r) (outcome_of ops (check_link o) m (link ∷ [])) _ (λ z. tt) (λ s is.
          visited_link bound counted o r.0 l w a link x e at first add link_at found least lower walk rest s (subst (λ (t : Result ((Unit {0}) × Machine C B) Fault). Tested o link t) is (tested o link))))))

      visited_head : (bound counted o head : ℕ) (w : C) → asked (ops.test Equal w (ops.plain 0)) ≡ Ok false → head ≡ o → cell_at ops m.bytes w ≡ Ok head → 240 ≤ o → Lower bound w
          → (walk : Action Numbers) → ((v : C) → Lower o v → Visited o (counted + 1) v (outcome_of ops walk m (old ∷ (v ∷ []))))
          → Visited bound counted w (outcome_of {i = Numbers} ops (Call (old_header headers head) (Named 0 ∷ []) (λ place.
          Fetch (Of Add (Named 1) (Plain 8)) (λ link. Call (check_link o) (link ∷ []) (λ _. Again (Named 0 ∷ (link ∷ [])) walk)))) m (old ∷ (w ∷ [])))
      visited_head bound counted o head w e same at least lower walk rest =
          by_answer (λ r. Visited bound counted w r) (outcome_of ops (old_header headers head) m (old ∷ [])) _ (λ z. tt) (λ r is.
          let met : Found headers head (Ok r) = subst (λ (t : Result (ℕ × Machine C B) Fault). Found headers head t) is (found headers head) in
          visited_place bound counted o w met.0 e (at ∙ ap (λ (q : ℕ). Ok q) same) least lower walk rest r (subst (λ (q : ℕ). FirstBelow ops m.bytes old end headers q r.0 met.0) same met.1) met.2)

      visited_least : (bound counted o : ℕ) (w : C) → asked (ops.test Equal w (ops.plain 0)) ≡ Ok false → offset_of ops w ≡ Ok o → Lower bound w
          → (walk : Action Numbers) → ((v : C) → Lower o v → Visited o (counted + 1) v (outcome_of ops walk m (old ∷ (v ∷ []))))
          → (t : Bool) → nat_le 240 o ≡ t
          → Visited bound counted w (outcome_of {i = Numbers} ops (elim t [
            | true ↦ Ask CellAt (Named 1) (λ head. Call (old_header headers head) (Named 0 ∷ []) (λ place.
                Fetch (Of Add (Named 1) (Plain 8)) (λ link. Call (check_link o) (link ∷ []) (λ _. Again (Named 0 ∷ (link ∷ [])) walk))))
            | false ↦ Throws invalid_address
          ]) m (old ∷ (w ∷ [])))
      visited_least bound counted o w e offset lower walk rest true h =
          by_answer (λ r. Visited bound counted w r) (cell_at ops m.bytes w) _ (λ z. tt) (λ head at.
          visited_head bound counted o head w e (one_answer (offset_of ops w) head o (place_offset m.bytes w head at) offset) at (grind (arith, nat_tests)) lower walk rest)
      visited_least bound counted o w e offset lower walk rest false h = tt

      visited_more : (bound counted : ℕ) (w : C) → Lower bound w
          → (walk : Action Numbers) → ((o : ℕ) (v : C) → Lower o v → Visited o (counted + 1) v (outcome_of ops walk m (old ∷ (v ∷ []))))
          → (t : Bool) → asked (ops.test Equal w (ops.plain 0)) ≡ Ok t
          → Visited bound counted w (outcome_of {i = Numbers} ops (elim t [
            | true ↦ Give counted
            | false ↦ Ask Offset (Named 1) (λ o. elim (nat_le 240 o) [
              | true ↦ Ask CellAt (Named 1) (λ head. Call (old_header headers head) (Named 0 ∷ []) (λ place.
                  Fetch (Of Add (Named 1) (Plain 8)) (λ link. Call (check_link o) (link ∷ []) (λ _. Again (Named 0 ∷ (link ∷ [])) walk))))
              | false ↦ Throws invalid_address
            ])
          ]) m (old ∷ (w ∷ [])))
      visited_more bound counted w lower walk rest true e = ([], ends e, tt, omega arith, refl)
      visited_more bound counted w lower walk rest false e =
          by_answer (λ r. Visited bound counted w r) (offset_of ops w) _ (λ z. tt) (λ o offset. visited_least bound counted o w e offset lower walk (rest o) _ refl)

      visited_last : (bound counted : ℕ) (w : C) (t : Bool) → asked (ops.test Equal w (ops.plain 0)) ≡ Ok t
          → Visited bound counted w (outcome_of {i = Numbers} ops (elim t [ true ↦ Give counted | false ↦ Throws invalid_address ]) m (old ∷ (w ∷ [])))
      visited_last bound counted w true e = ([], ends e, tt, omega arith, refl)
      visited_last bound counted w false e = tt

      visited : (bound left counted : ℕ) (w : C) → Lower bound w → Visited bound counted w (outcome_of ops (check_wordlists headers left counted) m (old ∷ (w ∷ [])))
      visited bound zero counted w lower = by_answer (λ r. Visited bound counted w r) (asked (ops.test Equal w (ops.plain 0))) _ (λ z. tt) (λ t e. visited_last bound counted w t e)
      visited bound (suc left) counted w lower = by_answer (λ r. Visited bound counted w r) (asked (ops.test Equal w (ops.plain 0))) _ (λ z. tt) (λ t e.
          visited_more bound counted w lower (check_wordlists headers left (counted + 1)) (λ o v below. visited o left (counted + 1) v below) t e)

      -- where the first walk counts, it has met so many wordlists, which descend, and has left the machine as it was
      pub visits : (bound left : ℕ) (w : C) (count : ℕ) (n : Machine C B) → Lower bound w → outcome_of ops (check_wordlists headers left 0) m (old ∷ (w ∷ [])) ≡ Ok (count, n)
          → (lists : List (ℕ × C)) × AreWordlists ops m.bytes old end headers w lists × Descend bound lists × (count ≡ length lists) × (n ≡ m)
      visits bound left w count n lower h =
          let v : Visited bound 0 w (Ok (count, n)) = subst (λ (r : Result (ℕ × Machine C B) Fault). Visited bound 0 w r) h (visited bound left 0 w lower) in
          (v.0, v.1, v.2, v.3 ∙ omega arith, v.4)
