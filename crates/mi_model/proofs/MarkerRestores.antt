-- Where the first walk of a marker counts, the second one throws nothing and is refused nothing.
use Rattle.std.proofs.Common.{ℕ, ◌≡◌, ◌+◌, ◌-◌, ◌<◌, ◌≤◌, true, List, [], ◌∷◌, ◌++◌, length, get_or, take, drop, map, Ok, refl, ap, sym, subst, ◌∙◌, arith, length-drop}
use Rattle.std.proofs.lemmas.List.{get_or-drop, length-take-le, length-append, append_assoc}
use Rattle.std.proofs.lemmas.Slice.{drop-append-drop}
use Rattle.mi_model.specs.Ops.{Ops}
use Rattle.mi_model.specs.Ops.Test.{Below}
use Rattle.mi_model.specs.Offsets.{KeepsOffsets}
use Rattle.mi_model.specs.Machine.{Machine, asked}
use Rattle.mi_model.specs.Region.{offset_of, fetch_at, with_moved}
use Rattle.mi_model.specs.Outcome.{outcome_of}
use Rattle.mi_model.specs.Layout.{order_count_cell}
use Rattle.mi_model.specs.Markers.{check_wordlists, restore_wordlists}
use Rattle.mi_model.specs.ChainLaws.{IsIn, AllDiffer}
use Rattle.mi_model.specs.ChainLaws.IsIn.{first, later}
use Rattle.mi_model.specs.MarkerLaws.{AreWordlists, Descend, with_heads, SameFromForth}
use Rattle.mi_model.proofs.MarkerLemmas.{wordlists_same, restored}
use Rattle.mi_model.proofs.MarkerChecks.{place_offset, visits}
use Rattle.mi_model.proofs.MarkerPlaces.{offset_behind, high_link, low_wordlist}

-- wordlists that descend differ
in_bound : {C : Type 0} (bound q : ℕ) (lists : List (ℕ × C)) → Descend bound lists → IsIn q (map (λ (l : ℕ × C). l.0) lists) → q + 16 ≤ bound
in_bound bound q [] d i = elim i [ ]
in_bound bound _ ((o, x) ∷ rest) d (first _) = d.1
in_bound bound q ((o, x) ∷ rest) d (later _ i) = let below : q + 16 ≤ o = in_bound o q rest d.2 i in let most : o + 16 ≤ bound = d.1 in omega arith

pub descend_differs : {C : Type 0} (bound : ℕ) (lists : List (ℕ × C)) → Descend bound lists → AllDiffer (map (λ (l : ℕ × C). l.0) lists)
descend_differs bound [] d = tt
descend_differs bound ((o, x) ∷ rest) d = ((λ i. let below : o + 16 ≤ o = in_bound o o rest d.2 i in absurd (omega arith)), descend_differs o rest d.2)

-- bytes from 240 on that are the same
same_at : {B : Type 0} (bytes others : List B) (d : B) → drop 240 others ≡ drop 240 bytes → (i : ℕ) → 240 ≤ i → get_or others i d ≡ get_or bytes i d
same_at bytes others d same i least =
    let e : 240 + (i - 240) ≡ i = omega arith in
    ap (λ (j : ℕ). get_or others j d) (sym e) ∙ (sym (get_or-drop 240 others (i - 240) d) ∙ (ap (λ xs. get_or xs (i - 240) d) same ∙ (get_or-drop 240 bytes (i - 240) d ∙ ap (λ (j : ℕ). get_or bytes j d) e)))

module _ {C B : Type 0} (ops : Ops C B) where
  same_from : (bytes others : List B) → drop 240 others ≡ drop 240 bytes → (q : ℕ) → 240 ≤ q → fetch_at ops others q ≡ fetch_at ops bytes q
  unfolding fetch_at
  same_from bytes others same q least =
      let at : (i : ℕ) → 240 ≤ i → get_or others i (ops.byte 0) ≡ get_or bytes i (ops.byte 0) = same_at bytes others (ops.byte 0) same in
      rw (at q least) (rw (at (q + 1) (omega arith)) (rw (at (q + 2) (omega arith)) (rw (at (q + 3) (omega arith))
      (rw (at (q + 4) (omega arith)) (rw (at (q + 5) (omega arith)) (rw (at (q + 6) (omega arith)) (rw (at (q + 7) (omega arith)) refl)))))))

  -- the wordlists are there in each region with these bytes, and the second walk goes over them
  pub restored_after : (m k : Machine C B) (old w : C) (end headers : ℕ) (lists : List (ℕ × C)) → SameFromForth m.bytes k.bytes → Descend (end + 15) lists → AreWordlists ops m.bytes old end headers w lists
      → outcome_of ops (restore_wordlists headers (length lists)) k (old ∷ (w ∷ [])) ≡ Ok (tt, record k { bytes = with_heads ops k.bytes lists })
  restored_after m k old w end headers [] same d are = refl
  restored_after m k old w end headers ((o, x) ∷ rest) same d are =
      let least : 240 ≤ o = d.0 in
      let most : o + 16 ≤ end + 15 = d.1 in
      restored ops old end k headers (end + 15) w ((o, x) ∷ rest) (omega arith) d
      (wordlists_same ops old end m.bytes k.bytes headers (end + 15) w ((o, x) ∷ rest) same.0
      (λ q l g u. same_from m.bytes k.bytes same.1 q g) (λ q l g. same_from m.bytes k.bytes same.1 q (omega arith)) d are)

-- what the two walks say of each other
pub marker_law : {C B : Type 0} (ops : Ops C B) → KeepsOffsets ops → (m n : Machine C B) (old voc : C) (end count : ℕ) → offset_of ops old ≡ Ok end → asked (ops.test Below voc old) ≡ Ok true
    → (headers left : ℕ) → outcome_of ops (check_wordlists headers left 0) m (old ∷ (voc ∷ [])) ≡ Ok (count, n)
    → (lists : List (ℕ × C)) × AreWordlists ops m.bytes old end headers voc lists × (count ≡ length lists) × Descend (end + 15) lists × AllDiffer (map (λ (l : ℕ × C). l.0) lists) × (n ≡ m)
    × ((k : Machine C B) → SameFromForth m.bytes k.bytes → outcome_of ops (restore_wordlists headers count) k (old ∷ (voc ∷ [])) ≡ Ok (tt, record k { bytes = with_heads ops k.bytes lists }))
marker_law ops keeps m n old voc end count at below headers left h =
    let v = visits ops old end m (λ y o q found test link. high_link ops keeps old y end q at test (place_offset ops m.bytes y q link))
    headers (λ w a o l. offset_behind ops keeps w a o l) (end + 15) left voc count n
    (λ p not_zero offset. (let lower : p < end = low_wordlist ops keeps old voc end p at below offset in omega arith)) h in (
      v.0,
      v.1,
      v.3,
      v.2,
      descend_differs (end + 15) v.0 v.2,
      v.4,
      λ k same. subst (λ (c : ℕ). outcome_of ops (restore_wordlists headers c) k (old ∷ (voc ∷ [])) ≡ Ok (tt, record k { bytes = with_heads ops k.bytes v.0 })) (sym v.3)
          (restored_after ops m k old voc end headers v.0 same v.2 v.1),
    )

-- writing the search order leaves the bytes from 240 on
pub order_moved : {B : Type 0} (bytes : List B) (o : ℕ) → o + 136 ≤ length bytes → 240 ≤ length bytes → SameFromForth bytes (with_moved bytes o order_count_cell 136)
order_moved {B} bytes o fits long =
    let front : length (take 104 bytes) ≡ 104 = length-take-le 104 bytes (omega arith) in
    let part : length (take 136 (drop o bytes)) ≡ 136 = length-take-le 136 (drop o bytes) (omega (arith, length-drop o bytes)) in
    let both : length (take 104 bytes ++ take 136 (drop o bytes)) ≡ 240 = length-append (take 104 bytes) (take 136 (drop o bytes)) ∙ omega arith in
    let whole : take 104 bytes ++ take 136 (drop o bytes) ++ drop 240 bytes ≡ take 104 bytes ++ (take 136 (drop o bytes) ++ drop 240 bytes) = append_assoc (take 104 bytes) (take 136 (drop o bytes)) (drop 240 bytes) in
    let behind : length (drop 240 bytes) ≡ length bytes - 240 = length-drop 240 bytes in (
      ap (λ (xs : List B). length xs) (sym whole) ∙ (length-append (take 104 bytes ++ take 136 (drop o bytes)) (drop 240 bytes) ∙ omega arith),
      ap (λ (xs : List B). drop 240 xs) (sym whole) ∙ drop-append-drop 240 bytes (take 104 bytes ++ take 136 (drop o bytes)) 240 (omega arith) both,
    )
