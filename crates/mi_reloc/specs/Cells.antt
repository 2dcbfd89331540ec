-- The cells of a region, and those of an image.
use Rattle.std.specs.Prelude.{ℕ, ◌≡◌, ◌+◌, List, [], ◌∷◌, get_or, Result, Ok, Err}
use Rattle.std.specs.Int.{w64, from_le_bytes}
use Rattle.mi_model.specs.declared.Found.{Found}
use Rattle.mi_model.specs.Image.{ImageRecord}
use Rattle.mi_model.specs.Explained.{ImageCell}
use Rattle.mi_image.specs.Cells.{with_cell}

-- the cell of the eight bytes from an offset on, the lowest first
abbrev pub cell_from : List ℕ → (o : ℕ) → ℕ
cell_from bytes o = from_le_bytes w64 (get_or bytes o 0 ∷ get_or bytes (o + 1) 0 ∷ get_or bytes (o + 2) 0 ∷ get_or bytes (o + 3) 0
    ∷ get_or bytes (o + 4) 0 ∷ get_or bytes (o + 5) 0 ∷ get_or bytes (o + 6) 0 ∷ get_or bytes (o + 7) 0 ∷ [])

-- an image with a cell set, if there is one to set
abbrev pub with_found : ImageRecord → (i : ℕ) → Result ImageCell Found → Result ImageRecord Found
with_found r i (Ok c) = Ok (with_cell r i c.cell c.marked)
with_found r i (Err found) = Err found

-- a call on an image makes it this one, or answers why there is none
abbrev pub Makes : Result (Unit {0}) Found → (new : ImageRecord) → Result ImageRecord Found → Type 0
Makes (Ok u) new told = told ≡ Ok new
Makes (Err found) new told = told ≡ Err found
