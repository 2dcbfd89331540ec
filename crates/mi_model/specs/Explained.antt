-- What an image can hold of a region of origin bytes: which forms a cell of an image gives at every pair, the first cell
-- of a region that none gives, the image of a region, and the region of origin bytes that an image gives.
use Rattle.std.specs.Prelude.{ℕ, ◌≤◌, ◌<◌, ◌+◌, ◌-◌, ◌*◌, ◌/◌, ◌^◌, zero, suc, Bool, true, false, List, [], ◌∷◌, ◌++◌, replicate, cond, Option, None, Some, Result, Ok, Err, map}
use Rattle.mi_model.specs.declared.Form.{Form}
use Rattle.mi_model.specs.declared.OriginByte.{OriginByte}
use Rattle.mi_model.specs.declared.OriginByte.TheVariants.{Plain as PlainByte}
use Rattle.mi_model.specs.declared.Refusal.{Refusal}
use Rattle.mi_model.specs.declared.Found.{Found}
use Rattle.mi_model.specs.declared.Found.TheVariants.{Form as AForm, Mixed}
use Rattle.mi_model.specs.declared.Kind.TheVariants.{Relocatable}
use Rattle.mi_model.specs.Ops.{Ops}
use Rattle.mi_model.specs.Forms.{plain_form}
use Rattle.mi_model.specs.Origin.{Sort, sort_of, tag_at}
use Rattle.mi_model.specs.Origin.Sort.{Plain, Data, Code, Mixed as Unsorted}
use Rattle.mi_model.specs.OriginOps.{origin_ops, bytes_of}
use Rattle.mi_model.specs.Plain.{is_negative, listed}
use Rattle.mi_model.specs.Region.{eight_from}
use Rattle.mi_model.specs.Image.{ImageRecord}

-- the forms that an image can hold: a number, the address of an offset of the region, the address of a tag's code
pub data IsExplained (size : ℕ) : Form → Type 0 where
  is_number : (n : ℕ) → IsExplained size (plain_form n)
  is_offset : (o : ℕ) → o ≤ size → IsExplained size (record { a = 1; b = 0; c = o })
  is_tag : (t : ℕ) → t < 120 → IsExplained size (record { a = 0; b = 1; c = 16 * t })

-- a cell of an image, and whether it is marked
pub record ImageCell : Type 0 where
  pub cell : ℕ
  pub marked : Bool

-- a number stands unmarked; an offset is marked, and so is -1 - t for tag t
abbrev pub cell_of_tag : Option ℕ → Option ImageCell
cell_of_tag (Some t) = Some (record { cell = 2 ^ 64 - 1 - t; marked = true })
cell_of_tag None = None

abbrev pub cell_of_sort : Sort → Option ImageCell
cell_of_sort (Plain n) = Some (record { cell = n; marked = false })
cell_of_sort (Data o) = Some (record { cell = o; marked = true })
cell_of_sort (Code c) = cell_of_tag (tag_at c)
cell_of_sort Unsorted = None

-- the cell of an image for a form, if the form is explained
abbrev pub image_cell : (size : ℕ) → Form → Option ImageCell
image_cell size x = cell_of_sort (sort_of size x)

-- the cell for a form, or the form that isn't explained
abbrev pub or_found : Form → Option ImageCell → Result ImageCell Found
or_found x (Some c) = Ok c
or_found x None = Err (AForm x)

-- the cell for what eight bytes make, or why there is none
abbrev pub cell_found : (size : ℕ) → Result Form Refusal → Result ImageCell Found
cell_found size (Ok x) = or_found x (image_cell size x)
cell_found size (Err e) = Err Mixed

abbrev pub cell_found_at : (size : ℕ) → List OriginByte → (offset : ℕ) → Result ImageCell Found
cell_found_at size bytes offset = cell_found size ((origin_ops size).join (eight_from (origin_ops size) bytes offset))

-- a cell that isn't explained: its offset, and what stands there
pub record UnexplainedCell : Type 0 where
  pub offset : ℕ
  pub found : Found

abbrev pub or_else : (offset : ℕ) → Result ImageCell Found → Option UnexplainedCell → Option UnexplainedCell
or_else offset (Ok c) rest = rest
or_else offset (Err found) rest = Some (record { offset = offset; found = found })

-- the first such cell of so many cells from an offset on
abbrev pub unexplained_from : (size : ℕ) → List OriginByte → (count offset : ℕ) → Option UnexplainedCell
unexplained_from size bytes zero offset = None
unexplained_from size bytes (suc count) offset = or_else offset (cell_found_at size bytes offset) (unexplained_from size bytes count (offset + 8))

-- the first cell in use that isn't explained
unfoldable pub first_unexplained : (size : ℕ) → List OriginByte → (used : ℕ) → Option UnexplainedCell
first_unexplained size bytes used = unexplained_from size bytes (used / 8) 0

-- the cells for so many cells from an offset on, where they are explained
abbrev pub or_zero : Result ImageCell Found → ImageCell
or_zero (Ok c) = c
or_zero (Err found) = record { cell = 0; marked = false }

abbrev pub image_cells : (size : ℕ) → List OriginByte → (count offset : ℕ) → List ImageCell
image_cells size bytes zero offset = []
image_cells size bytes (suc count) offset = or_zero (cell_found_at size bytes offset) ∷ image_cells size bytes count (offset + 8)

-- the image of a region whose cells in use are all explained
unfoldable pub image_of : (size : ℕ) → List OriginByte → (used : ℕ) → ImageRecord
image_of size bytes used = record {
  kind = Relocatable;
  size = size;
  used = used;
  pair = record { d = 0; k = 0 };
  cells = map (λ (c : ImageCell). c.cell) (image_cells size bytes (used / 8) 0);
  marks = map (λ (c : ImageCell). c.marked) (image_cells size bytes (used / 8) 0);
}

-- the form of a cell of an image: a marked one that is an offset is the address of that offset, one that is -1 - t the
-- address of tag t's code
abbrev pub cell_form : (cell : ℕ) → (marked : Bool) → Form
cell_form cell false = plain_form cell
cell_form cell true = cond (is_negative cell) (record { a = 0; b = 1; c = 16 * (2 ^ 64 - 1 - cell) }) (record { a = 1; b = 0; c = cell })

abbrev pub cell_forms : List ℕ → List Bool → List Form
cell_forms [] marks = []
cell_forms (c ∷ cs) [] = plain_form c ∷ cell_forms cs []
cell_forms (c ∷ cs) (m ∷ ms) = cell_form c m ∷ cell_forms cs ms

abbrev pub forms_bytes : List Form → List OriginByte
forms_bytes [] = []
forms_bytes (x ∷ xs) = listed (bytes_of x) ++ forms_bytes xs

-- the region of origin bytes that an image gives: the forms of the cells in use, and then zeros
unfoldable pub origin_region : ImageRecord → List OriginByte
origin_region r = forms_bytes (cell_forms r.cells r.marks) ++ replicate (r.size - r.used) (PlainByte 0)
