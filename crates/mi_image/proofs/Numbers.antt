-- Numbers of eight bytes, and the cells that they make.
use Rattle.std.proofs.Common.{◌≡◌, ℕ, zero, suc, ◌+◌, ◌*◌, ◌^◌, ◌<◌, ◌≤◌, List, [], ◌∷◌, ◌++◌, length, get_or, take, drop, refl, ap, ◌∙◌, arith, inl, inr}
use Rattle.std.specs.Int.{w64, from_le_bytes}
use Rattle.std.proofs.lemmas.Bool.{cases_lt}
use Rattle.std.proofs.lemmas.List.{get_or-take, get_or-drop, get_or_past, length-take, length-take-le, length-drop, take-append-le, drop-append-le}
use Rattle.std.proofs.lemmas.Nat.{le_bytes_8, from_le_bytes-to_le_bytes_8}
use Rattle.mi_model.specs.Image.{eight_bytes, cells_bytes, region_cells}
use Rattle.mi_image.specs.Grammar.{number_at}

abbrev pub IsBytes : List ℕ → Type 0
IsBytes bytes = (i : ℕ) → get_or bytes i 0 < 256

pub IsBytes-drop : (n : ℕ) (bytes : List ℕ) → IsBytes bytes → IsBytes (drop n bytes)
IsBytes-drop n bytes h i = rw get_or-drop (h (n + i))

pub IsBytes-take : (n : ℕ) (bytes : List ℕ) → IsBytes bytes → IsBytes (take n bytes)
IsBytes-take n bytes h i =
    elim (cases_lt i n) [
      | inl lt ↦ rw (get_or-take n bytes i 0 lt) (h i)
      | inr le ↦ rw (get_or_past (take n bytes) i 0 (omega (arith, length-take n bytes))) (omega arith)
    ]

-- what stands behind a number doesn't change it
pub number_at-more : (bytes more : List ℕ) (place : ℕ) → place + 8 ≤ length bytes → number_at (bytes ++ more) place ≡ number_at bytes place
unfolding number_at
number_at-more bytes more place enough =
    let long : 8 ≤ length (drop place bytes) = omega (arith, length-drop place bytes) in
    ap (λ (xs : List ℕ). from_le_bytes w64 (take 8 xs)) (drop-append-le place bytes more (omega arith))
    ∙ ap (from_le_bytes w64) (take-append-le 8 (drop place bytes) more long)

-- the bytes of a number that was read
pub eight-number_at : (bytes : List ℕ) (place : ℕ) → IsBytes bytes → place + 8 ≤ length bytes → eight_bytes (number_at bytes place) ≡ take 8 (drop place bytes)
unfolding number_at
eight-number_at bytes place fits enough =
    let long : 8 ≤ length (drop place bytes) = omega (arith, length-drop place bytes) in
    le_bytes_8 (take 8 (drop place bytes)) (from_le_bytes w64 (take 8 (drop place bytes))) (length-take-le 8 (drop place bytes) long)
    (IsBytes-take 8 (drop place bytes) (IsBytes-drop place bytes fits)) refl

pub read_below : (bytes : List ℕ) → IsBytes bytes → from_le_bytes w64 bytes < 2 ^ 64
read_below bytes fits = omega (arith, fits 0, fits 1, fits 2, fits 3, fits 4, fits 5, fits 6, fits 7)

pub number_at-below : (bytes : List ℕ) (place : ℕ) → IsBytes bytes → number_at bytes place < 2 ^ 64
unfolding number_at
number_at-below bytes place fits = read_below (take 8 (drop place bytes)) (IsBytes-take 8 (drop place bytes) (IsBytes-drop place bytes fits))

-- a number that was written is read again
pub number_again : (n : ℕ) → n < 2 ^ 64 → from_le_bytes w64 (eight_bytes n) ≡ n
number_again n below = from_le_bytes-to_le_bytes_8 n below

-- ---- cells

pub length-cells_bytes : (cells : List ℕ) → length (cells_bytes cells) ≡ 8 * length cells
length-cells_bytes [] = refl
length-cells_bytes (c ∷ cs) = omega (arith, length-cells_bytes cs)

pub length-region_cells : (n : ℕ) (bytes : List ℕ) → 8 * n ≤ length bytes → length (region_cells n bytes) ≡ n
length-region_cells zero bytes enough = refl
length-region_cells (suc n) (b0 ∷ b1 ∷ b2 ∷ b3 ∷ b4 ∷ b5 ∷ b6 ∷ b7 ∷ rest) enough = ap suc (length-region_cells n rest (omega arith))
length-region_cells (suc n) short enough = absurd (omega arith)

-- the cells of bytes are those that were written
pub region_cells-cells_bytes : (cells rest : List ℕ) → ((i : ℕ) → i < length cells → get_or cells i 0 < 2 ^ 64) → region_cells (length cells) (cells_bytes cells ++ rest) ≡ cells
region_cells-cells_bytes [] rest below = refl
region_cells-cells_bytes (c ∷ cs) rest below =
    ap (λ (x : ℕ). x ∷ region_cells (length cs) (cells_bytes cs ++ rest)) (number_again c (below 0 (omega arith)))
    ∙ ap (λ (xs : List ℕ). c ∷ xs) (region_cells-cells_bytes cs rest (λ i h. below (suc i) (omega arith)))

-- the first cell, and the others
pub region_cells-next : (n : ℕ) (bytes : List ℕ) → 8 ≤ length bytes → region_cells (suc n) bytes ≡ from_le_bytes w64 (take 8 bytes) ∷ region_cells n (drop 8 bytes)
region_cells-next n (b0 ∷ b1 ∷ b2 ∷ b3 ∷ b4 ∷ b5 ∷ b6 ∷ b7 ∷ rest) enough = refl
region_cells-next n short enough = absurd (omega arith)

-- each cell is a number of eight bytes
pub region_cells-below : (n : ℕ) (bytes : List ℕ) → IsBytes bytes → (i : ℕ) → get_or (region_cells n bytes) i 0 < 2 ^ 64
region_cells-below zero bytes fits i = omega arith
region_cells-below (suc n) (b0 ∷ b1 ∷ b2 ∷ b3 ∷ b4 ∷ b5 ∷ b6 ∷ b7 ∷ rest) fits zero = read_below (b0 ∷ b1 ∷ b2 ∷ b3 ∷ b4 ∷ b5 ∷ b6 ∷ b7 ∷ []) (IsBytes-take 8 (b0 ∷ b1 ∷ b2 ∷ b3 ∷ b4 ∷ b5 ∷ b6 ∷ b7 ∷ rest) fits)
region_cells-below (suc n) (b0 ∷ b1 ∷ b2 ∷ b3 ∷ b4 ∷ b5 ∷ b6 ∷ b7 ∷ rest) fits (suc i) = region_cells-below n rest (λ k. fits (suc (suc (suc (suc (suc (suc (suc (suc k))))))))) i
region_cells-below (suc n) short fits i = omega arith
