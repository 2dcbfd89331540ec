-- A chain that ends has members that all differ, and writing into members leaves the rest of it.
use Rattle.std.proofs.Common.{ℕ, ◌≡◌, ◌≢◌, ◌+◌, ◌%◌, ◌/◌, ◌<◌, ◌≤◌, ◌==◌, ◌⊎◌, inl, inr, zero, suc, Bool, true, false, nat_le, List, [], ◌∷◌, length, Result, Ok, Err, refl, ap, sym, subst, ◌∙◌, arith}
use Rattle.std.proofs.lemmas.Bool.Decides.{nat_tests}
use Rattle.std.proofs.lemmas.List.{get_or-set_other}
use Rattle.std.proofs.Math.ListN.{length-set}
use Rattle.mi_model.specs.declared.Fault.{Fault}
use Rattle.mi_model.specs.declared.Eight.{Eight}
use Rattle.mi_model.specs.Ops.{Ops}
use Rattle.mi_model.specs.Ops.Test.{Equal}
use Rattle.mi_model.specs.Machine.{Machine, after, asked, unless_throw, invalid_address, misaligned, control_mismatch}
use Rattle.mi_model.specs.Region.{offset_of, cell_at, fetch_at, fetch, get, eight_from, with_cell}
use Rattle.mi_model.specs.Action.Operand.{Named}
use Rattle.mi_model.specs.Action.Action.{Give, Throws, Fetch, Again}
use Rattle.mi_model.specs.Action.AnswerKind.{Numbers}
use Rattle.mi_model.specs.Outcome.{outcome_of}
use Rattle.mi_model.specs.Chains.{count_from, chain_length, resolve}
use Rattle.mi_model.specs.ChainLaws.{IsChain, IsIn, AllDiffer, with_cells}
use Rattle.mi_model.specs.ChainLaws.IsChain.{ends, member}
use Rattle.mi_model.specs.ChainLaws.IsIn.{first, later}

-- aligned cells at different offsets are apart
pub apart : (o p : ℕ) → o % 8 ≡ 0 → p % 8 ≡ 0 → o ≢ p → (o + 8 ≤ p) ⊎ (p + 8 ≤ o)
apart o p a b d = grind (arith)

-- a byte outside a cell is none of its bytes
not_at : (o i k : ℕ) → k < 8 → (i < o) ⊎ (o + 8 ≤ i) → i ≢ o + k
not_at o i k below outside = grind (arith)

-- two values of eight bytes are equal
abbrev eight_is : {X : Type 0} → Eight X → Eight X → Type 0
eight_is e f = e ≡ f

by_bytes : {X : Type 0} {a0 a1 a2 a3 a4 a5 a6 a7 c0 c1 c2 c3 c4 c5 c6 c7 : X} → a0 ≡ c0 → a1 ≡ c1 → a2 ≡ c2 → a3 ≡ c3 → a4 ≡ c4 → a5 ≡ c5 → a6 ≡ c6 → a7 ≡ c7
    → eight_is (record { b0 = a0; b1 = a1; b2 = a2; b3 = a3; b4 = a4; b5 = a5; b6 = a6; b7 = a7 }) (record { b0 = c0; b1 = c1; b2 = c2; b3 = c3; b4 = c4; b5 = c5; b6 = c6; b7 = c7 })
by_bytes h0 h1 h2 h3 h4 h5 h6 h7 = cc

-- eight bytes that are the same
same_eight : {X : Type 0} (e f : Eight X) → e.b0 ≡ f.b0 → e.b1 ≡ f.b1 → e.b2 ≡ f.b2 → e.b3 ≡ f.b3 → e.b4 ≡ f.b4 → e.b5 ≡ f.b5 → e.b6 ≡ f.b6 → e.b7 ≡ f.b7 → e ≡ f
same_eight e f h0 h1 h2 h3 h4 h5 h6 h7 = by_bytes h0 h1 h2 h3 h4 h5 h6 h7

module _ {C B : Type 0} (ops : Ops C B) where
  pub same_length : (bytes : List B) (o : ℕ) (v : C) → length (with_cell ops bytes o v) ≡ length bytes
  same_length bytes o v =
      length-set _ (o + 7) (ops.cut v 7) ∙ length-set _ (o + 6) (ops.cut v 6) ∙ length-set _ (o + 5) (ops.cut v 5) ∙ length-set _ (o + 4) (ops.cut v 4)
      ∙ length-set _ (o + 3) (ops.cut v 3) ∙ length-set _ (o + 2) (ops.cut v 2) ∙ length-set _ (o + 1) (ops.cut v 1) ∙ length-set _ o (ops.cut v 0)

  -- a byte outside the cell stays
  pub same_byte : (bytes : List B) (o i : ℕ) (v : C) → (i < o) ⊎ (o + 8 ≤ i) → get ops (with_cell ops bytes o v) i ≡ get ops bytes i
  same_byte bytes o i v outside =
      get_or-set_other _ (o + 7) i (ops.cut v 7) (ops.byte 0) (not_at o i 7 (omega arith) outside) ∙ get_or-set_other _ (o + 6) i (ops.cut v 6) (ops.byte 0) (not_at o i 6 (omega arith) outside)
      ∙ get_or-set_other _ (o + 5) i (ops.cut v 5) (ops.byte 0) (not_at o i 5 (omega arith) outside) ∙ get_or-set_other _ (o + 4) i (ops.cut v 4) (ops.byte 0) (not_at o i 4 (omega arith) outside)
      ∙ get_or-set_other _ (o + 3) i (ops.cut v 3) (ops.byte 0) (not_at o i 3 (omega arith) outside) ∙ get_or-set_other _ (o + 2) i (ops.cut v 2) (ops.byte 0) (not_at o i 2 (omega arith) outside)
      ∙ get_or-set_other _ (o + 1) i (ops.cut v 1) (ops.byte 0) (not_at o i 1 (omega arith) outside) ∙ get_or-set_other _ o i (ops.cut v 0) (ops.byte 0) (grind (arith))

  -- so does a cell outside it
  pub same_cell : (bytes : List B) (o p : ℕ) (v : C) → (o + 8 ≤ p) ⊎ (p + 8 ≤ o) → fetch_at ops (with_cell ops bytes o v) p ≡ fetch_at ops bytes p
  unfolding fetch_at
  same_cell bytes o p v (inl after_it) =
      ap (λ (e : Eight B). asked (ops.join e)) (same_eight (eight_from ops (with_cell ops bytes o v) p) (eight_from ops bytes p)
      (same_byte bytes o p v (inr after_it)) (same_byte bytes o (p + 1) v (inr (omega arith))) (same_byte bytes o (p + 2) v (inr (omega arith))) (same_byte bytes o (p + 3) v (inr (omega arith)))
      (same_byte bytes o (p + 4) v (inr (omega arith))) (same_byte bytes o (p + 5) v (inr (omega arith))) (same_byte bytes o (p + 6) v (inr (omega arith))) (same_byte bytes o (p + 7) v (inr (omega arith))))
  same_cell bytes o p v (inr before_it) =
      ap (λ (e : Eight B). asked (ops.join e)) (same_eight (eight_from ops (with_cell ops bytes o v) p) (eight_from ops bytes p)
      (same_byte bytes o p v (inl (omega arith))) (same_byte bytes o (p + 1) v (inl (omega arith))) (same_byte bytes o (p + 2) v (inl (omega arith))) (same_byte bytes o (p + 3) v (inl (omega arith)))
      (same_byte bytes o (p + 4) v (inl (omega arith))) (same_byte bytes o (p + 5) v (inl (omega arith))) (same_byte bytes o (p + 6) v (inl (omega arith))) (same_byte bytes o (p + 7) v (inl (omega arith))))

  -- a cell's place depends on the length of the region alone, and is aligned
  pub same_place : (bytes others : List B) (c : C) → length others ≡ length bytes → cell_at ops others c ≡ cell_at ops bytes c
  unfolding cell_at
  same_place bytes others c e = rw e refl

  pub aligned_place : (bytes : List B) (c : C) (o : ℕ) → cell_at ops bytes c ≡ Ok o → o % 8 ≡ 0
  unfolding cell_at
  aligned_place bytes c o h = by_offset (offset_of ops c) h
    where
      by_tests : (p : ℕ) (fits aligned : Bool) → (p % 8 == 0) ≡ aligned → after (unless_throw fits invalid_address) (λ _. after (unless_throw aligned misaligned) (λ _. Ok p)) ≡ Ok o → o % 8 ≡ 0
      by_tests p true true e k = grind (arith, nat_tests)
      by_tests p true false e k = cc
      by_tests p false aligned e k = cc

      by_offset : (r : Result ℕ Fault) → after r (λ p. after (unless_throw (nat_le (p + 8) (length bytes)) invalid_address) (λ _. after (unless_throw (p % 8 == 0) misaligned) (λ _. Ok p))) ≡ Ok o → o % 8 ≡ 0
      by_offset (Ok p) k = by_tests p _ _ refl k
      by_offset (Err f) k = cc

  -- writing into a cell that is no member leaves the chain
  pub chain_stays : (bytes : List B) (o : ℕ) (v : C) (c : C) (os : List ℕ) → o % 8 ≡ 0 → (IsIn o os → ⊥) → IsChain ops bytes c os → IsChain ops (with_cell ops bytes o v) c os
  chain_stays bytes o v c _ aligned out (ends e) = ends e
  chain_stays bytes o v c _ aligned out (member {next = next} {o = p} {os = os} e place link rest) =
      member e (same_place bytes (with_cell ops bytes o v) c (same_length bytes o v) ∙ place)
      (same_cell bytes o p v (apart o p aligned (aligned_place bytes c p place) (λ same. out (subst (λ (q : ℕ). IsIn o (q ∷ os)) same (first os)))) ∙ link)
      (chain_stays bytes o v next os aligned (λ i. out (later p i)) rest)

  same_answer : {X : Type 0} (r : Result X Fault) (x y : X) → r ≡ Ok x → r ≡ Ok y → x ≡ y
  same_answer r x y h k = cc

  -- a chain has one list of members
  pub chain_is : (bytes : List B) (c : C) (os ps : List ℕ) → IsChain ops bytes c os → IsChain ops bytes c ps → os ≡ ps
  chain_is bytes c _ _ (ends e) (ends f) = refl
  chain_is bytes c _ _ (ends e) (member f place link rest) = cc
  chain_is bytes c _ _ (member e place link rest) (ends f) = cc
  chain_is bytes c _ _ (member {next = n} {o = o} {os = os} e place link rest) (member {next = m} {o = p} {os = ps} f place' link' rest') =
      let same : o ≡ p = same_answer _ o p place place' in
      let on : n ≡ m = same_answer _ n m link (ap (λ (q : ℕ). fetch_at ops bytes q) same ∙ link') in
      let all : os ≡ ps = chain_is bytes m os ps (subst (λ (x : C). IsChain ops bytes x os) on rest) rest' in
      cc

  -- what comes behind a member is shorter than the chain
  behind : (bytes : List B) (c : C) (o : ℕ) (os : List ℕ) → IsChain ops bytes c os → IsIn o os
      → (next : C) × (ps : List ℕ) × (fetch_at ops bytes o ≡ Ok next) × IsChain ops bytes next ps × (length ps < length os)
  behind bytes c o _ (ends e) i = elim i [ ]
  behind bytes c o _ (member {next = next} e place link rest) (first os) = (next, os, link, rest, omega arith)
  behind bytes c o _ (member {next = next} {os = os} e place link rest) (later k i) =
      let b = behind bytes next o os rest i in
      (b.0, b.1, b.2, b.3, (let below : length b.1 < length os = b.4 in omega arith))

  -- all members of a chain differ
  pub chain_differs : (bytes : List B) (c : C) (os : List ℕ) → IsChain ops bytes c os → AllDiffer os
  chain_differs bytes c _ (ends e) = tt
  chain_differs bytes c _ (member {next = next} {o = o} {os = os} e place link rest) = (
    (λ i.
        let b = behind bytes next o os rest i in
        let on : b.0 ≡ next = same_answer _ b.0 next b.2 link in
        let all : b.1 ≡ os = chain_is bytes next b.1 os (subst (λ (x : C). IsChain ops bytes x b.1) on b.3) rest in
        let below : length b.1 < length os = b.4 in
        let same : length b.1 ≡ length os = ap (λ (ns : List ℕ). length ns) all in
        absurd (omega arith)),
    chain_differs bytes next os rest,
  )

  -- writing the same cell into all members goes through them all: each link is read before its member is written
  pub resolved : (m : Machine C B) (c t : C) (os : List ℕ) → IsChain ops m.bytes c os
      → outcome_of ops (resolve (length os)) m (c ∷ (t ∷ [])) ≡ Ok (tt, record m { bytes = with_cells ops m.bytes os t })
  resolved m c t [] (ends e) = refl
  resolved m c t (o ∷ os) (member {next = next} e place link rest) =
      rw place (rw link (resolved (record m { bytes = with_cell ops m.bytes o t }) next t os
      (chain_stays m.bytes o t next os (aligned_place m.bytes c o place) (chain_differs m.bytes c (o ∷ os) (member e place link rest)).0 rest)))

  -- a walk that counts the members has met a chain, and has left the machine as it was
  abbrev Counted : Machine C B → C → (counted : ℕ) → Result (ℕ × Machine C B) Fault → Type 0
  Counted m c counted (Ok r) = (os : List ℕ) × IsChain ops m.bytes c os × (r.0 ≡ counted + length os) × (r.1 ≡ m)
  Counted m c counted (Err f) = Unit {0}

  -- one member more was counted
  counted_next : (m : Machine C B) (c next : C) (o counted : ℕ) → asked (ops.test Equal c (ops.plain 0)) ≡ Ok false → cell_at ops m.bytes c ≡ Ok o → fetch_at ops m.bytes o ≡ Ok next
      → (r : Result (ℕ × Machine C B) Fault) → Counted m next (counted + 1) r → Counted m c counted r
  counted_next m c next o counted e place link (Ok r) (os, chain, count, same) = (o ∷ os, member e place link chain, (count ∙ omega arith), same)
  counted_next m c next o counted e place link (Err f) k = tt

  -- what a member's link leads to
  counted_link : (left counted : ℕ) (m : Machine C B) (c : C) (o : ℕ) → asked (ops.test Equal c (ops.plain 0)) ≡ Ok false → cell_at ops m.bytes c ≡ Ok o
      → ((next : C) → Counted m next (counted + 1) (outcome_of ops (count_from left (counted + 1)) m (next ∷ [])))
      → (r : Result C Fault) → fetch_at ops m.bytes o ≡ r → Counted m c counted (after r (λ next. outcome_of ops (count_from left (counted + 1)) m (next ∷ [])))
  counted_link left counted m c o e place rest (Ok next) link = counted_next m c next o counted e place link _ (rest next)
  counted_link left counted m c o e place rest (Err f) link = tt

  counted_place : (left counted : ℕ) (m : Machine C B) (c : C) → asked (ops.test Equal c (ops.plain 0)) ≡ Ok false
      → ((next : C) → Counted m next (counted + 1) (outcome_of ops (count_from left (counted + 1)) m (next ∷ [])))
      → (r : Result ℕ Fault) → cell_at ops m.bytes c ≡ r → Counted m c counted (after (after r (λ o. fetch_at ops m.bytes o)) (λ next. outcome_of ops (count_from left (counted + 1)) m (next ∷ [])))
  counted_place left counted m c e rest (Ok o) place = counted_link left counted m c o e place rest _ refl
  counted_place left counted m c e rest (Err f) place = tt

  counted_more : (left counted : ℕ) (m : Machine C B) (c : C)
      → ((next : C) → Counted m next (counted + 1) (outcome_of ops (count_from left (counted + 1)) m (next ∷ [])))
      → (r : Result Bool Fault) → asked (ops.test Equal c (ops.plain 0)) ≡ r
      → Counted m c counted (after r (λ b. outcome_of {i = Numbers} ops (elim b [ true ↦ Give counted | false ↦ Fetch (Named 0) (λ next. Again (next ∷ []) (count_from left (counted + 1))) ]) m (c ∷ [])))
  unfolding fetch
  counted_more left counted m c rest (Ok true) e = ([], ends e, omega arith, refl)
  counted_more left counted m c rest (Ok false) e = counted_place left counted m c e rest _ refl
  counted_more left counted m c rest (Err f) e = tt

  counted_last : (counted : ℕ) (m : Machine C B) (c : C) (r : Result Bool Fault) → asked (ops.test Equal c (ops.plain 0)) ≡ r
      → Counted m c counted (after r (λ b. outcome_of {i = Numbers} ops (elim b [ true ↦ Give counted | false ↦ Throws control_mismatch ]) m (c ∷ [])))
  counted_last counted m c (Ok true) e = ([], ends e, omega arith, refl)
  counted_last counted m c (Ok false) e = tt
  counted_last counted m c (Err f) e = tt

  counts : (left counted : ℕ) (m : Machine C B) (c : C) → Counted m c counted (outcome_of ops (count_from left counted) m (c ∷ []))
  unfolding fetch
  counts zero counted m c = counted_last counted m c _ refl
  counts (suc left) counted m c = counted_more left counted m c (λ next. counts left (counted + 1) m next) _ refl

  -- the first walk counts the members of a chain
  pub counts_chain : (m : Machine C B) (c : C) → Counted m c 0 (outcome_of ops chain_length m (c ∷ []))
  unfolding chain_length
  counts_chain m c = counts (length m.bytes / 8) 0 m c

  -- what the two walks say of each other: where the first one counts, the second one throws nothing and is refused
  -- nothing, and all members become the target
  pub chain_law : (m : Machine C B) (c t : C) (count : ℕ) (n : Machine C B) → outcome_of ops chain_length m (c ∷ []) ≡ Ok (count, n)
      → (os : List ℕ) × IsChain ops m.bytes c os × (count ≡ length os) × AllDiffer os × (n ≡ m)
      × (outcome_of ops (resolve count) m (c ∷ (t ∷ [])) ≡ Ok (tt, record m { bytes = with_cells ops m.bytes os t }))
  chain_law m c t count n h =
      let w : Counted m c 0 (Ok (count, n)) = subst (λ (r : Result (ℕ × Machine C B) Fault). Counted m c 0 r) h (counts_chain m c) in
      let k : count ≡ length w.0 = w.2 ∙ omega arith in (
        w.0,
        w.1,
        k,
        chain_differs m.bytes c w.0 w.1,
        w.3,
        subst (λ (x : ℕ). outcome_of ops (resolve x) m (c ∷ (t ∷ [])) ≡ Ok (tt, record m { bytes = with_cells ops m.bytes w.0 t })) (sym k) (resolved m c t w.0 w.1),
      )
