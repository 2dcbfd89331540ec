-- Images without a value in any cell, and with one cell set.
use Rattle.std.specs.Prelude.{ℕ, ◌-◌, ◌/◌, ◌^◌, Bool, false, List, replicate, slice_set}
use Rattle.mi_model.specs.declared.Kind.{Kind}
use Rattle.mi_model.specs.declared.Pair.{Pair}
use Rattle.mi_model.specs.Image.{ImageRecord}

-- an image whose cells are 0, none of them marked
abbrev pub blank_image : Kind → (size used : ℕ) → Pair → ImageRecord
blank_image kind size used pair = record {
  kind = kind;
  size = size;
  used = used;
  pair = pair;
  cells = replicate (used / 8) 0;
  marks = replicate (used / 8) false;
}

-- an image with one cell set, marked or not
abbrev pub with_cell : ImageRecord → (cell value : ℕ) → (marked : Bool) → ImageRecord
with_cell r cell value marked = record r { cells = slice_set r.cells cell value; marks = slice_set r.marks cell marked }

-- the value of a marked cell that stands for a tag
abbrev pub tag_cell : (tag : ℕ) → ℕ
tag_cell tag = 2 ^ 64 - 1 - tag

-- the image with these parts
abbrev pub image_with : Kind → (size used : ℕ) → Pair → (cells : List ℕ) → (marks : List Bool) → ImageRecord
image_with kind size used pair cells marks = record {
  kind = kind;
  size = size;
  used = used;
  pair = pair;
  cells = cells;
  marks = marks;
}
