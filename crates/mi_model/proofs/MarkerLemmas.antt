-- The walks of a marker over the wordlists: the second one goes over what the first one went over.
use Rattle.std.proofs.Common.{ℕ, ◌≡◌, ◌+◌, ◌%◌, ◌<◌, ◌≤◌, inr, zero, suc, List, [], ◌∷◌, length, Ok, refl, ◌∙◌, arith}
use Rattle.mi_model.specs.Ops.{Ops}
use Rattle.mi_model.specs.Machine.{Machine}
use Rattle.mi_model.specs.Region.{fetch_at, fetch, with_cell}
use Rattle.mi_model.specs.Outcome.{outcome_of}
use Rattle.mi_model.specs.Markers.{old_header, restore_wordlists}
use Rattle.mi_model.specs.MarkerLaws.{FirstBelow, AreWordlists, Descend, with_heads}
use Rattle.mi_model.specs.MarkerLaws.FirstBelow.{none, here, behind}
use Rattle.mi_model.specs.MarkerLaws.AreWordlists.{ends, wordlist}
use Rattle.mi_model.proofs.ChainLemmas.{same_length, same_cell, same_place, aligned_place, apart}

module _ {C B : Type 0} (ops : Ops C B) (old : C) (end : ℕ) where
  -- where the cells that a walk reads are the same, so is the walk
  pub first_same : (bytes others : List B) (most o place : ℕ) (x : C) → length others ≡ length bytes → fetch_at ops others o ≡ fetch_at ops bytes o
      → ((q : ℕ) → q % 8 ≡ 0 → end ≤ q → fetch_at ops others q ≡ fetch_at ops bytes q)
      → FirstBelow ops bytes old end most o place x → FirstBelow ops others old end most o place x
  first_same bytes others _ o _ x len at above (none found zero_) = none (at ∙ found) zero_
  first_same bytes others _ o _ x len at above (here found not_zero below) = here (at ∙ found) not_zero below
  first_same bytes others _ o place x len at above (behind {next = next} {y = y} found not_zero not_below link high rest) =
      behind (at ∙ found) not_zero not_below (same_place ops bytes others y len ∙ link) high
      (first_same bytes others _ next place x len (above next (aligned_place ops bytes y next link) high) above rest)

  pub wordlists_same : (bytes others : List B) (headers bound : ℕ) (w : C) (lists : List (ℕ × C)) → length others ≡ length bytes
      → ((q : ℕ) → q % 8 ≡ 0 → 240 ≤ q → q + 8 ≤ bound → fetch_at ops others q ≡ fetch_at ops bytes q)
      → ((q : ℕ) → q % 8 ≡ 0 → end ≤ q → fetch_at ops others q ≡ fetch_at ops bytes q)
      → Descend bound lists → AreWordlists ops bytes old end headers w lists → AreWordlists ops others old end headers w lists
  wordlists_same bytes others headers bound w _ len low above d (ends e) = ends e
  wordlists_same bytes others headers bound w _ len low above d (wordlist {a = a} {link = link} {x = x} {o = o} {place = place} {rest = rest} e at first add link_at found more) =
      let aligned : o % 8 ≡ 0 = aligned_place ops bytes w o at in
      let least : 240 ≤ o = d.0 in
      let most : o + 16 ≤ bound = d.1 in
      wordlist e (same_place ops bytes others w len ∙ at) (first_same bytes others headers o place x len (low o aligned least (omega arith)) above first)
      add (same_place ops bytes others a len ∙ link_at) (low (o + 8) (aligned_place ops bytes a (o + 8) link_at) (omega arith) (omega arith) ∙ found)
      (wordlists_same bytes others headers o link rest len (λ q l g u. low q l g (omega arith)) above d.2 more)

  -- the walk over headers gives where the first one below the old end stands
  pub header_gives : (m : Machine C B) (most o place : ℕ) (x : C) → FirstBelow ops m.bytes old end most o place x → outcome_of ops (old_header most o) m (old ∷ []) ≡ Ok (place, m)
  header_gives m zero o _ x (none found e) = rw found (rw e refl)
  header_gives m (suc most) o _ x (none found e) = rw found (rw e refl)
  header_gives m (suc most) o _ x (here found e below) = rw found (rw e (rw found (rw below refl)))
  header_gives m (suc most) o place x (behind {next = next} found e below link high rest) = rw found (rw e (rw found (rw below (rw found (rw link (header_gives m most next place x rest))))))

  pub first_is : (bytes : List B) (most o place : ℕ) (x : C) → FirstBelow ops bytes old end most o place x → fetch_at ops bytes place ≡ Ok x
  first_is bytes _ o _ x (none found e) = found
  first_is bytes _ o _ x (here found e below) = found
  first_is bytes _ o place x (behind {next = next} found e below link high rest) = first_is bytes _ next place x rest

  -- writing the head of the first wordlist leaves the others, and the headers
  pub rest_stays : (bytes : List B) (headers o : ℕ) (v w : C) (rest : List (ℕ × C)) → o % 8 ≡ 0 → o < end → Descend o rest
      → AreWordlists ops bytes old end headers w rest → AreWordlists ops (with_cell ops bytes o v) old end headers w rest
  rest_stays bytes headers o v w rest aligned below d h =
      wordlists_same bytes (with_cell ops bytes o v) headers o w rest (same_length ops bytes o v)
      (λ q l g u. same_cell ops bytes o q v (inr u))
      (λ q l g. same_cell ops bytes o q v (apart o q aligned l (λ (same : o ≡ q). omega arith))) d h

  -- the second walk makes each head the first header below the old end
  pub restored : (m : Machine C B) (headers bound : ℕ) (w : C) (lists : List (ℕ × C)) → bound ≤ end + 15 → Descend bound lists → AreWordlists ops m.bytes old end headers w lists
      → outcome_of ops (restore_wordlists headers (length lists)) m (old ∷ (w ∷ [])) ≡ Ok (tt, record m { bytes = with_heads ops m.bytes lists })
  unfolding fetch
  restored m headers bound w [] far d (ends e) = refl
  restored m headers bound w ((o, x) ∷ rest) far d (wordlist {link = link} {place = place} e at first add link_at found more) =
      let most : o + 16 ≤ bound = d.1 in
      rw at (rw (header_gives m headers o place x first) (rw add (rw link_at (rw found (rw (first_is m.bytes headers o place x first)
      (restored (record m { bytes = with_cell ops m.bytes o x }) headers o link rest (omega arith) d.2
      (rest_stays m.bytes headers o x link rest (aligned_place ops m.bytes w o at) (omega arith) d.2 more)))))))
