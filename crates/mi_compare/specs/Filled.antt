-- An image whose first cells have the meaning that two images give them.
use Rattle.std.specs.Prelude.{ℕ, ◌≡◌, ◌<◌, ◌/◌, length, slice_index}
use Rattle.mi_model.specs.declared.Kind.TheVariants.{Relocatable, Fixed}
use Rattle.mi_model.specs.Image.{ImageRecord, IsImage, loaded_cells}

-- two fixed images of one size
pub record IsComparable (x y : ImageRecord) : Type 0 where
  pub first_limits : IsImage x
  pub second_limits : IsImage y
  pub first : x.kind ≡ Fixed
  pub second : y.kind ≡ Fixed
  pub size : x.size ≡ y.size
  pub used : x.used ≡ y.used

-- so many cells of an image are loaded, at the pair of each of the two, as that one's
pub record IsFilled (x y : ImageRecord) (count : ℕ) (r : ImageRecord) : Type 0 where
  pub relocatable : r.kind ≡ Relocatable
  pub size : r.size ≡ x.size
  pub used : r.used ≡ x.used
  pub cell_count : length r.cells ≡ x.used / 8
  pub mark_count : length r.marks ≡ x.used / 8
  pub first : (k : ℕ) → k < count → slice_index (loaded_cells x.pair r.cells r.marks) k ≡ slice_index x.cells k
  pub second : (k : ℕ) → k < count → slice_index (loaded_cells y.pair r.cells r.marks) k ≡ slice_index y.cells k
