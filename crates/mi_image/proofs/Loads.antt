-- The image of a region is loaded as that region.
use Rattle.std.proofs.Common.{◌≡◌, ℕ, ◌-◌, ◌*◌, ◌/◌, ◌%◌, ◌<◌, ◌≤◌, zero, suc, false, List, [], ◌∷◌, ◌++◌, length, get_or, take, drop, replicate, All, refl, sym, ap, ◌∙◌, arith, length-drop}
use Rattle.std.specs.Int.{w64, from_le_bytes}
use Rattle.std.proofs.lemmas.Nat.{le_bytes_8}
use Rattle.std.proofs.lemmas.List.{take-append-drop}
use Rattle.mi_model.specs.declared.Pair.{Pair}
use Rattle.mi_model.specs.Image.{cells_bytes, eight_bytes, region_cells, loaded_cells, loaded, fixed_record}

-- cells that are not marked are loaded as they are
pub loaded_cells-unmarked : (pair : Pair) (cells : List ℕ) (n : ℕ) → loaded_cells pair cells (replicate n false) ≡ cells
loaded_cells-unmarked pair [] n = refl
loaded_cells-unmarked pair (c ∷ cs) zero = ap (λ (xs : List ℕ). c ∷ xs) (loaded_cells-unmarked pair cs zero)
loaded_cells-unmarked pair (c ∷ cs) (suc n) = ap (λ (xs : List ℕ). c ∷ xs) (loaded_cells-unmarked pair cs n)

all_zeros : (xs : List ℕ) → All (λ x. x ≡ 0) xs → xs ≡ replicate (length xs) 0
all_zeros [] h = refl
all_zeros (x ∷ xs) h = let here : x ≡ 0 = h 0 0 (omega arith) in rw here (ap (λ (ys : List ℕ). 0 ∷ ys) (all_zeros xs (λ k d below. h (suc k) d (omega arith))))

-- eight bytes are the bytes of the number that they make
eight_back : (b0 b1 b2 b3 b4 b5 b6 b7 : ℕ) (rest : List ℕ) → All (λ b. b < 256) (b0 ∷ b1 ∷ b2 ∷ b3 ∷ b4 ∷ b5 ∷ b6 ∷ b7 ∷ rest)
    → eight_bytes (from_le_bytes w64 (b0 ∷ b1 ∷ b2 ∷ b3 ∷ b4 ∷ b5 ∷ b6 ∷ b7 ∷ [])) ≡ b0 ∷ b1 ∷ b2 ∷ b3 ∷ b4 ∷ b5 ∷ b6 ∷ b7 ∷ []
eight_back b0 b1 b2 b3 b4 b5 b6 b7 rest h = le_bytes_8 (b0 ∷ b1 ∷ b2 ∷ b3 ∷ b4 ∷ b5 ∷ b6 ∷ b7 ∷ []) _ refl below refl
  where
    below : (i : ℕ) → get_or (b0 ∷ b1 ∷ b2 ∷ b3 ∷ b4 ∷ b5 ∷ b6 ∷ b7 ∷ []) i 0 < 256
    below zero = h 0 0 (omega arith)
    below (suc zero) = h 1 0 (omega arith)
    below (suc (suc zero)) = h 2 0 (omega arith)
    below (suc (suc (suc zero))) = h 3 0 (omega arith)
    below (suc (suc (suc (suc zero)))) = h 4 0 (omega arith)
    below (suc (suc (suc (suc (suc zero))))) = h 5 0 (omega arith)
    below (suc (suc (suc (suc (suc (suc zero)))))) = h 6 0 (omega arith)
    below (suc (suc (suc (suc (suc (suc (suc zero))))))) = h 7 0 (omega arith)
    below (suc (suc (suc (suc (suc (suc (suc (suc i)))))))) = omega arith

-- the bytes of a region's cells are the region's bytes
pub cells_bytes-region_cells : (n : ℕ) (bytes : List ℕ) → All (λ b. b < 256) bytes → 8 * n ≤ length bytes → cells_bytes (region_cells n bytes) ≡ take (8 * n) bytes
cells_bytes-region_cells zero bytes h enough = refl
cells_bytes-region_cells (suc n) (b0 ∷ b1 ∷ b2 ∷ b3 ∷ b4 ∷ b5 ∷ b6 ∷ b7 ∷ rest) h enough =
    let count : 8 * suc n ≡ suc (suc (suc (suc (suc (suc (suc (suc (8 * n)))))))) = omega arith in
    let more : All (λ b. b < 256) rest = λ k d below. h (suc (suc (suc (suc (suc (suc (suc (suc k)))))))) d (omega arith) in
    let here : cells_bytes (region_cells n rest) ≡ take (8 * n) rest = cells_bytes-region_cells n rest more (omega arith) in
    ap (λ (xs : List ℕ). xs ++ cells_bytes (region_cells n rest)) (eight_back b0 b1 b2 b3 b4 b5 b6 b7 rest h)
    ∙ ap (λ (xs : List ℕ). b0 ∷ b1 ∷ b2 ∷ b3 ∷ b4 ∷ b5 ∷ b6 ∷ b7 ∷ xs) here
    ∙ sym (ap (λ (k : ℕ). take k (b0 ∷ b1 ∷ b2 ∷ b3 ∷ b4 ∷ b5 ∷ b6 ∷ b7 ∷ rest)) count)
cells_bytes-region_cells (suc n) short h enough = absurd (omega arith)

-- loading the image of a region at its pair makes that region
pub loaded_fixed : (pair : Pair) (used : ℕ) (region : List ℕ) → All (λ b. b < 256) region → used % 8 ≡ 0 → used ≤ length region
    → All (λ b. b ≡ 0) (drop used region) → loaded (fixed_record pair used region) pair ≡ region
unfolding loaded fixed_record
loaded_fixed pair used region bytes aligned within zeros =
    let count : 8 * (used / 8) ≡ used = omega arith in
    let cells : cells_bytes (region_cells (used / 8) region) ≡ take (8 * (used / 8)) region = cells_bytes-region_cells (used / 8) region bytes (omega arith) in
    let left : drop used region ≡ replicate (length region - used) 0 =
    all_zeros (drop used region) zeros ∙ ap (λ (k : ℕ). replicate k 0) (length-drop used region) in
    ap (λ (xs : List ℕ). cells_bytes xs ++ replicate (length region - used) 0) (loaded_cells-unmarked pair (region_cells (used / 8) region) (used / 8))
    ∙ ap (λ (xs : List ℕ). xs ++ replicate (length region - used) 0) cells
    ∙ ap (λ (k : ℕ). take k region ++ replicate (length region - used) 0) count
    ∙ ap (λ (xs : List ℕ). take used region ++ xs) (sym left)
    ∙ take-append-drop used region
