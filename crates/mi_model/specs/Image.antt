-- Image records, their bytes, and what loading makes of them.
use Rattle.std.specs.Prelude.{ℕ, ◌≡◌, ◌≤◌, ◌<◌, ◌+◌, ◌-◌, ◌*◌, ◌/◌, ◌%◌, ◌^◌, ◌⊎◌, zero, suc, Bool, true, false, cond, List, [], ◌∷◌, ◌++◌, length, get_or, replicate, codes}
use Rattle.std.specs.Int.{w64, to_le_bytes, from_le_bytes}
use Rattle.mi_model.specs.declared.Pair.{Pair}
use Rattle.mi_model.specs.declared.Kind.{Kind}
use Rattle.mi_model.specs.declared.Kind.TheVariants.{Relocatable, Fixed}
use Rattle.mi_model.specs.Pairs.{IsAllowedPair}
use Rattle.mi_model.specs.Plain.{is_negative}

-- an image: the region's size, the offset behind what is in use, the pair of a fixed image, the cells in use and which
-- of them are marked
pub record ImageRecord : Type 0 where
  pub kind : Kind
  pub size : ℕ
  pub used : ℕ
  pub pair : Pair
  pub cells : List ℕ
  pub marks : List Bool

-- the sizes that a region may have
pub record IsRegionSize (size : ℕ) : Type 0 where
  pub aligned : size % 4096 ≡ 0
  pub least : 2 ^ 16 ≤ size
  pub most : size ≤ 2 ^ 23

-- a marked cell is an offset in the region, or -1 - t for one of the 120 tags t
abbrev pub IsMarkedCell : (size : ℕ) → ℕ → Type 0
IsMarkedCell size cell = (cell ≤ size) ⊎ ((2 ^ 64 - 120 ≤ cell) × (cell < 2 ^ 64))

abbrev pub IsCell : (size : ℕ) → (cell : ℕ) → (marked : Bool) → Type 0
IsCell size cell true = IsMarkedCell size cell
IsCell size cell false = cell < 2 ^ 64

abbrev pub IsPairOf : Kind → Pair → Type 0
IsPairOf Relocatable pair = (pair.d ≡ 0) × (pair.k ≡ 0)
IsPairOf Fixed pair = IsAllowedPair pair

-- a record within the limits of the format
pub record IsImage (r : ImageRecord) : Type 0 where
  pub size : IsRegionSize r.size
  pub used_aligned : r.used % 8 ≡ 0
  pub used_least : 4096 ≤ r.used
  pub used_most : r.used ≤ r.size
  pub pair : IsPairOf r.kind r.pair
  pub cell_count : length r.cells ≡ r.used / 8
  pub mark_count : length r.marks ≡ r.used / 8
  pub cells : (i : ℕ) → i < r.used / 8 → IsCell r.size (get_or r.cells i 0) (get_or r.marks i false)
  pub fixed_marks : r.kind ≡ Fixed → r.marks ≡ replicate (r.used / 8) false

-- a number in 8 bytes, the lowest first
abbrev pub eight_bytes : ℕ → List ℕ
eight_bytes n = to_le_bytes w64 n

abbrev pub cells_bytes : List ℕ → List ℕ
cells_bytes [] = []
cells_bytes (c ∷ cs) = eight_bytes c ++ cells_bytes cs

-- the value of bit i of a byte of the bitmap, which marks a cell
abbrev pub bit_of : List Bool → (cell value : ℕ) → ℕ
bit_of marks cell value = cond (get_or marks cell false) value 0

-- byte j of the bitmap marks the cells from 8j on, the lowest bit first; bits behind the last cell are 0
abbrev pub bitmap_byte : List Bool → (j : ℕ) → ℕ
bitmap_byte marks j =
    bit_of marks (8 * j) 1 + bit_of marks (8 * j + 1) 2 + bit_of marks (8 * j + 2) 4 + bit_of marks (8 * j + 3) 8
    + bit_of marks (8 * j + 4) 16 + bit_of marks (8 * j + 5) 32 + bit_of marks (8 * j + 6) 64 + bit_of marks (8 * j + 7) 128

-- so many bytes of the bitmap, from byte j on
abbrev pub bitmap_from : List Bool → (count j : ℕ) → List ℕ
bitmap_from marks zero j = []
bitmap_from marks (suc count) j = bitmap_byte marks j ∷ bitmap_from marks count (j + 1)

abbrev pub bitmap_bytes : List Bool → List ℕ
bitmap_bytes marks = bitmap_from marks ((length marks + 7) / 8) 0

-- the number of a kind in a file
abbrev pub kind_number : Kind → ℕ
kind_number Relocatable = 1
kind_number Fixed = 2

-- a fixed image has no bitmap
abbrev pub bitmap_of : Kind → List Bool → List ℕ
bitmap_of Relocatable marks = bitmap_bytes marks
bitmap_of Fixed marks = []

-- the header of a file: the text gforthmi image 1, kind, size, used, and the two bases
abbrev pub header_bytes : ImageRecord → List ℕ
header_bytes r = codes "gforthmi image 1" ++ eight_bytes (kind_number r.kind) ++ eight_bytes r.size ++ eight_bytes r.used ++ eight_bytes r.pair.d ++ eight_bytes r.pair.k

-- the bytes of an image's file
unfoldable pub image_bytes : ImageRecord → List ℕ
image_bytes r = header_bytes r ++ cells_bytes r.cells ++ bitmap_of r.kind r.marks

-- what a cell is after loading at a pair: a marked one that is an offset becomes the address of that offset, one that
-- is -1 - t the address of tag t's code
abbrev pub loaded_cell : Pair → (cell : ℕ) → (marked : Bool) → ℕ
loaded_cell pair cell false = cell
loaded_cell pair cell true = cond (is_negative cell) (pair.k + 16 * (2 ^ 64 - 1 - cell)) (pair.d + cell)

abbrev pub loaded_cells : Pair → List ℕ → List Bool → List ℕ
loaded_cells pair [] marks = []
loaded_cells pair (c ∷ cs) [] = c ∷ loaded_cells pair cs []
loaded_cells pair (c ∷ cs) (m ∷ ms) = loaded_cell pair c m ∷ loaded_cells pair cs ms

-- the region that loading at a pair makes: the cells in use, and then zeros
unfoldable pub loaded : ImageRecord → Pair → List ℕ
loaded r pair = cells_bytes (loaded_cells pair r.cells r.marks) ++ replicate (r.size - r.used) 0

-- the cells of a region, so many of them
abbrev pub region_cells : (count : ℕ) → List ℕ → List ℕ
region_cells zero bytes = []
region_cells (suc count) (b0 ∷ b1 ∷ b2 ∷ b3 ∷ b4 ∷ b5 ∷ b6 ∷ b7 ∷ rest) =
    from_le_bytes w64 (b0 ∷ b1 ∷ b2 ∷ b3 ∷ b4 ∷ b5 ∷ b6 ∷ b7 ∷ []) ∷ region_cells count rest
region_cells (suc count) short = []

-- the fixed image of a region at its pair
unfoldable pub fixed_record : Pair → (used : ℕ) → (region : List ℕ) → ImageRecord
fixed_record pair used region = record {
  kind = Fixed;
  size = length region;
  used = used;
  pair = pair;
  cells = region_cells (used / 8) region;
  marks = replicate (used / 8) false;
}
