-- An image whose first cells are those of a region.
use Rattle.std.proofs.Common.{◌≡◌, ℕ, zero, suc, ◌+◌, ◌-◌, ◌*◌, ◌/◌, ◌%◌, ◌<◌, ◌≤◌, false, List, [], ◌∷◌, ◌++◌, length, get_or, drop, replicate, All, refl, ap, sym, subst, ◌∙◌, inl, inr, arith, append_assoc, length-drop}
use Rattle.std.specs.Int.{w64, from_le_bytes}
use Rattle.std.proofs.Math.ListN.{set}
use Rattle.std.proofs.lemmas.List.{append-nil, get_or-drop, get_or-replicate, length-replicate}
use Rattle.std.proofs.lemmas.Grind.{get_or_default_zero}
use Rattle.std.proofs.lemmas.Bool.{cases_lt}
use Rattle.mi_image.proofs.Loads.{loaded_fixed}
use Rattle.std.proofs.Math.Seq.{set-append_seam}
use Rattle.mi_model.specs.declared.Pair.{Pair}
use Rattle.mi_model.specs.declared.Kind.TheVariants.{Fixed}
use Rattle.mi_model.specs.Image.{ImageRecord, region_cells, fixed_record, loaded}
use Rattle.mi_image.specs.Cells.{with_cell}
use Rattle.mi_reloc.specs.Cells.{cell_from}

-- the fixed image of which i cells are those of the region, and the others 0
abbrev pub begun : Pair → (used : ℕ) → List ℕ → (i : ℕ) → ImageRecord
begun pair used bytes i = record {
  kind = Fixed;
  size = length bytes;
  used = used;
  pair = pair;
  cells = region_cells i bytes ++ replicate (used / 8 - i) 0;
  marks = replicate (used / 8) false;
}

count_of : (n : ℕ) (bytes : List ℕ) → 8 * n ≤ length bytes → length (region_cells n bytes) ≡ n
count_of zero bytes h = refl
count_of (suc n) (b0 ∷ b1 ∷ b2 ∷ b3 ∷ b4 ∷ b5 ∷ b6 ∷ b7 ∷ rest) h = ap suc (count_of n rest (omega arith))
count_of (suc n) short h = absurd (omega arith)

-- eight bytes more in front
behind : (b0 b1 b2 b3 b4 b5 b6 b7 : ℕ) (rest : List ℕ) (o p : ℕ) → p ≡ suc (suc (suc (suc (suc (suc (suc (suc o)))))))
    → get_or rest o 0 ≡ get_or (b0 ∷ b1 ∷ b2 ∷ b3 ∷ b4 ∷ b5 ∷ b6 ∷ b7 ∷ rest) p 0
behind b0 b1 b2 b3 b4 b5 b6 b7 rest o p e = rw e refl

eight_alike : (a0 a1 a2 a3 a4 a5 a6 a7 b0 b1 b2 b3 b4 b5 b6 b7 : ℕ) → a0 ≡ b0 → a1 ≡ b1 → a2 ≡ b2 → a3 ≡ b3 → a4 ≡ b4 → a5 ≡ b5 → a6 ≡ b6 → a7 ≡ b7
    → a0 ∷ a1 ∷ a2 ∷ a3 ∷ a4 ∷ a5 ∷ a6 ∷ a7 ∷ [] ≡ b0 ∷ b1 ∷ b2 ∷ b3 ∷ b4 ∷ b5 ∷ b6 ∷ b7 ∷ []
eight_alike _ _ _ _ _ _ _ _ _ _ _ _ _ _ _ _ e0 e1 e2 e3 e4 e5 e6 e7 = cc

pub cell_behind : (b0 b1 b2 b3 b4 b5 b6 b7 : ℕ) (rest : List ℕ) (o p : ℕ) → p ≡ 8 + o
    → cell_from rest o ≡ cell_from (b0 ∷ b1 ∷ b2 ∷ b3 ∷ b4 ∷ b5 ∷ b6 ∷ b7 ∷ rest) p
cell_behind b0 b1 b2 b3 b4 b5 b6 b7 rest o p e =
    let here = behind b0 b1 b2 b3 b4 b5 b6 b7 rest in
    ap (λ (xs : List ℕ). from_le_bytes w64 xs) (eight_alike _ _ _ _ _ _ _ _ _ _ _ _ _ _ _ _
    (here o p (omega arith)) (here (o + 1) (p + 1) (omega arith)) (here (o + 2) (p + 2) (omega arith)) (here (o + 3) (p + 3) (omega arith))
    (here (o + 4) (p + 4) (omega arith)) (here (o + 5) (p + 5) (omega arith)) (here (o + 6) (p + 6) (omega arith)) (here (o + 7) (p + 7) (omega arith)))

-- one cell more
cell_more : (n : ℕ) (bytes : List ℕ) → 8 * n + 8 ≤ length bytes → region_cells (n + 1) bytes ≡ region_cells n bytes ++ cell_from bytes (8 * n) ∷ []
cell_more zero (b0 ∷ b1 ∷ b2 ∷ b3 ∷ b4 ∷ b5 ∷ b6 ∷ b7 ∷ rest) h = refl
cell_more (suc n) (b0 ∷ b1 ∷ b2 ∷ b3 ∷ b4 ∷ b5 ∷ b6 ∷ b7 ∷ rest) h =
    let bytes = b0 ∷ b1 ∷ b2 ∷ b3 ∷ b4 ∷ b5 ∷ b6 ∷ b7 ∷ rest in
    let first = from_le_bytes w64 (b0 ∷ b1 ∷ b2 ∷ b3 ∷ b4 ∷ b5 ∷ b6 ∷ b7 ∷ []) in
    let e : suc n + 1 ≡ suc (n + 1) = omega arith in
    ap (λ (k : ℕ). region_cells k bytes) e
    ∙ ap (λ (cs : List ℕ). first ∷ cs) (cell_more n rest (omega arith))
    ∙ ap (λ (c : ℕ). first ∷ (region_cells n rest ++ c ∷ [])) (cell_behind b0 b1 b2 b3 b4 b5 b6 b7 rest (8 * n) (8 * suc n) (omega arith))
cell_more zero short h = absurd (omega arith)
cell_more (suc n) short h = absurd (omega arith)

unmarked : (n i : ℕ) → set (replicate n false) i false ≡ replicate n false
unmarked zero i = refl
unmarked (suc n) zero = refl
unmarked (suc n) (suc i) = ap (λ ms. false ∷ ms) (unmarked n i)

cells_next : (n : ℕ) (bytes : List ℕ) (i v : ℕ) → i < n → 8 * n ≤ length bytes → v ≡ cell_from bytes (8 * i)
    → set (region_cells i bytes ++ replicate (n - i) 0) i v ≡ region_cells (i + 1) bytes ++ replicate (n - (i + 1)) 0
cells_next n bytes i v below enough is =
    let e : n - i ≡ suc (n - (i + 1)) = omega arith in
    let left : List ℕ = replicate (n - (i + 1)) 0 in
    let count : length (region_cells i bytes) ≡ i = count_of i bytes (omega arith) in
    let more : region_cells (i + 1) bytes ≡ region_cells i bytes ++ cell_from bytes (8 * i) ∷ [] = cell_more i bytes (omega arith) in
    let written : set (region_cells i bytes ++ 0 ∷ left) i v ≡ region_cells i bytes ++ v ∷ left =
    subst (λ (k : ℕ). set (region_cells i bytes ++ 0 ∷ left) k v ≡ region_cells i bytes ++ v ∷ left) count (set-append_seam (region_cells i bytes) 0 left v) in
    ap (λ (k : ℕ). set (region_cells i bytes ++ replicate k 0) i v) e ∙ written
    ∙ ap (λ (c : ℕ). region_cells i bytes ++ c ∷ left) is
    ∙ sym (append_assoc (region_cells i bytes) (cell_from bytes (8 * i) ∷ []) left)
    ∙ ap (λ (cs : List ℕ). cs ++ left) (sym more)

pub begun_next : (pair : Pair) (used : ℕ) (bytes : List ℕ) (i v : ℕ) → i < used / 8 → used ≤ length bytes → v ≡ cell_from bytes (8 * i)
    → with_cell (begun pair used bytes i) i v false ≡ begun pair used bytes (i + 1)
begun_next pair used bytes i v below most is =
    ap (λ (cs : List ℕ). record { kind = Fixed; size = length bytes; used = used; pair = pair; cells = cs; marks = set (replicate (used / 8) false) i false })
    (cells_next (used / 8) bytes i v below (omega arith) is)
    ∙ ap (λ ms. record { kind = Fixed; size = length bytes; used = used; pair = pair; cells = region_cells (i + 1) bytes ++ replicate (used / 8 - (i + 1)) 0; marks = ms })
    (unmarked (used / 8) i)

pub begun_all : (pair : Pair) (used : ℕ) (bytes : List ℕ) → begun pair used bytes (used / 8) ≡ fixed_record pair used bytes
unfolding fixed_record
begun_all pair used bytes =
    let e : used / 8 - used / 8 ≡ 0 = omega arith in
    ap (λ (k : ℕ). record { kind = Fixed; size = length bytes; used = used; pair = pair; cells = region_cells (used / 8) bytes ++ replicate k 0; marks = replicate (used / 8) false }) e
    ∙ ap (λ (cs : List ℕ). record { kind = Fixed; size = length bytes; used = used; pair = pair; cells = cs; marks = replicate (used / 8) false }) (append-nil (region_cells (used / 8) bytes))

zeros : (n : ℕ) → All {X = ℕ} (λ b. b ≡ 0) (replicate n 0)
zeros n k d below = get_or-replicate n k 0 d (subst (λ (m : ℕ). k < m) (length-replicate {A = ℕ} n 0) below)

-- bytes that are small in what is in use, and 0 behind it
small_bytes : (used : ℕ) (bytes : List ℕ) → ((k : ℕ) → k < used → get_or bytes k 0 < 256) → All (λ b. b ≡ 0) (drop used bytes) → All (λ b. b < 256) bytes
small_bytes used bytes small unused k d below = rw (get_or_default_zero bytes k d below) (elim (cases_lt k used) [ inl h ↦ small k h | inr h ↦ behind_used h ])
  where
    behind_used : used ≤ k → get_or bytes k 0 < 256
    behind_used h =
        let e : used + (k - used) ≡ k = omega arith in
        let inside : k - used < length (drop used bytes) = omega (arith, length-drop used bytes) in
        let none : get_or bytes (used + (k - used)) 0 ≡ 0 = sym (get_or-drop used bytes (k - used) 0) ∙ unused (k - used) 0 inside in
        let here : get_or bytes k 0 ≡ 0 = subst (λ (j : ℕ). get_or bytes j 0 ≡ 0) e none in
        omega arith

-- the fixed image of a region gives it back
pub loaded_back : (pair : Pair) (used : ℕ) (region : List ℕ) (image : ImageRecord) → image ≡ fixed_record pair used region
    → ((k : ℕ) → k < used → get_or region k 0 < 256) → used % 8 ≡ 0 → used ≤ length region → drop used region ≡ replicate (length region - used) 0
    → loaded image image.pair ≡ region
unfolding fixed_record
loaded_back pair used region image is small aligned within rest =
    let unused : All (λ b. b ≡ 0) (drop used region) = subst (λ (xs : List ℕ). All (λ b. b ≡ 0) xs) (sym rest) (zeros (length region - used)) in
    subst (λ (r : ImageRecord). loaded r r.pair ≡ region) (sym is) (loaded_fixed pair used region (small_bytes used region small unused) aligned within unused)
