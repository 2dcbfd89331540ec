-- What a cell of a relocatable image means.
use Rattle.std.specs.Prelude.{ℕ, ◌≡◌, ◌≤◌, ◌<◌, ◌+◌, ◌*◌, Bool, true, false}
use Rattle.mi_model.specs.declared.Pair.{Pair}
use Rattle.mi_model.specs.Image.{ImageRecord}
use Rattle.mi_image.specs.Cells.{with_cell, tag_cell}
use Rattle.mi_compare.specs.declared.meaning.Meaning.{Meaning}
use Rattle.mi_compare.specs.declared.meaning.Meaning.TheVariants.{Plain, Offset, Tag}

-- the value at a pair
abbrev pub value_at : Pair → Meaning → ℕ
value_at pair (Plain value) = value
value_at pair (Offset offset) = pair.d + offset
value_at pair (Tag tag) = pair.k + 16 * tag

-- the cell as an image holds it, and its mark
abbrev pub cell_of : Meaning → ℕ
cell_of (Plain value) = value
cell_of (Offset offset) = offset
cell_of (Tag tag) = tag_cell tag

abbrev pub mark_of : Meaning → Bool
mark_of (Plain value) = false
mark_of (Offset offset) = true
mark_of (Tag tag) = true

-- it is within the limits of an image of that size
abbrev pub Fits : (size : ℕ) → Meaning → Type 0
Fits size (Plain value) = Unit {0}
Fits size (Offset offset) = offset ≤ size
Fits size (Tag tag) = tag < 120

-- it gives both values, each at its pair
pub record Explains (size : ℕ) (p q : Pair) (x y : ℕ) (meaning : Meaning) : Type 0 where
  pub fits : Fits size meaning
  pub first : value_at p meaning ≡ x
  pub second : value_at q meaning ≡ y

abbrev pub with_meaning : ImageRecord → (cell : ℕ) → Meaning → ImageRecord
with_meaning r cell meaning = with_cell r cell (cell_of meaning) (mark_of meaning)
