-- The common relocatable image of two fixed ones.
use Rattle.std.specs.Prelude.{ℕ, ◌≡◌, ◌+◌, Bool, true, false, cond, nat_le, ◌==◌, List, [], ◌∷◌, Option, None, Some}
use Rattle.mi_model.specs.declared.Pair.{Pair}
use Rattle.mi_model.specs.declared.Kind.TheVariants.{Relocatable}
use Rattle.mi_model.specs.Plain.{less_by, plain_tag}
use Rattle.mi_model.specs.Image.{ImageRecord, IsImage, loaded}

-- the relocatable image whose loading at the pair of each of the two is the loading of that one
pub record IsCommonImage (x y r : ImageRecord) : Type 0 where
  pub within_limits : IsImage r
  pub relocatable : r.kind ≡ Relocatable
  pub size : r.size ≡ x.size
  pub used : r.used ≡ x.used
  pub first : loaded r x.pair ≡ loaded x x.pair
  pub second : loaded r y.pair ≡ loaded y y.pair

-- are they addresses of one offset of the region, each from its own base
abbrev pub is_same_offset : (size : ℕ) → (first second : Pair) → (x y : ℕ) → Bool
is_same_offset size first second x y = cond (nat_le (less_by x first.d) size) (less_by x first.d == less_by y second.d) false

abbrev pub is_same_option : Option ℕ → Option ℕ → Bool
is_same_option (Some s) (Some t) = s == t
is_same_option (Some s) None = false
is_same_option None t = false

-- are they addresses of one tag's code, each from its own base
abbrev pub is_same_tag : (first second : Pair) → (x y : ℕ) → Bool
is_same_tag first second x y = is_same_option (plain_tag first x) (plain_tag second y)

-- is there a plain number, an offset or a tag that gives both values
abbrev pub has_common_cell : (size : ℕ) → (first second : Pair) → (x y : ℕ) → Bool
has_common_cell size first second x y = cond (x == y) true (cond (is_same_offset size first second x y) true (is_same_tag first second x y))

-- a cell of which nothing gives both values: its offset and the two values
pub record DifferingCell : Type 0 where
  pub offset : ℕ
  pub first : ℕ
  pub second : ℕ

-- the first such cell of two lists of cells, from this offset on
abbrev pub differing_from : (size : ℕ) → (first second : Pair) → (offset : ℕ) → List ℕ → List ℕ → Option DifferingCell
differing_from size first second offset [] ys = None
differing_from size first second offset (x ∷ xs) [] = None
differing_from size first second offset (x ∷ xs) (y ∷ ys) =
    cond (has_common_cell size first second x y) (differing_from size first second (offset + 8) xs ys) (Some (record { offset = offset; first = x; second = y }))

-- the first cell of two images of which nothing gives both values
abbrev pub first_differing : ImageRecord → ImageRecord → Option DifferingCell
first_differing x y = differing_from x.size x.pair y.pair 0 x.cells y.cells
