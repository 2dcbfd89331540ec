-- One more cell gets its meaning.
use Rattle.std.proofs.Common.{◌≡◌, ◌≢◌, ℕ, ◌+◌, ◌-◌, ◌*◌, ◌/◌, ◌^◌, ◌<◌, ◌≤◌, zero, suc, Bool, true, false, cond, List, [], ◌∷◌, ◌++◌, length, get_or, drop, replicate, Some, refl, sym, ap, ◌∙◌, arith, slice_set, add-one, drop-cons, below_more, get_or-set_same, get_or-set_other, length-set}
use Rattle.std.proofs.lemmas.Bool.Decides.{nat_tests}
use Rattle.std.proofs.lemmas.List.{ext_get_or}
use Rattle.mi_model.specs.declared.Pair.{Pair}
use Rattle.mi_model.specs.Plain.{is_negative}
use Rattle.mi_model.specs.Image.{ImageRecord, IsImage, loaded_cell, loaded_cells, loaded, cells_bytes}
use Rattle.mi_model.specs.Common.{IsCommonImage, has_common_cell, differing_from}
use Rattle.mi_image.proofs.Loads.{loaded_cells-unmarked}
use Rattle.mi_compare.specs.declared.meaning.Meaning.{Meaning}
use Rattle.mi_compare.specs.declared.meaning.Meaning.TheVariants.{Plain, Offset, Tag}
use Rattle.mi_compare.specs.Meaning.{value_at, cell_of, mark_of, Fits, Explains, with_meaning}
use Rattle.mi_compare.specs.Filled.{IsComparable, IsFilled}

-- loading after one cell is set
pub loaded_cells-set : (pair : Pair) (cells : List ℕ) (marks : List Bool) (i value : ℕ) (mark : Bool) → i < length marks
    → loaded_cells pair (slice_set cells i value) (slice_set marks i mark) ≡ slice_set (loaded_cells pair cells marks) i (loaded_cell pair value mark)
loaded_cells-set pair [] marks i value mark h = refl
loaded_cells-set pair (c ∷ cs) [] i value mark h = absurd (omega arith)
loaded_cells-set pair (c ∷ cs) (m ∷ ms) zero value mark h = refl
loaded_cells-set pair (c ∷ cs) (m ∷ ms) (suc i) value mark h = ap (λ (xs : List ℕ). loaded_cell pair c m ∷ xs) (loaded_cells-set pair cs ms i value mark (omega arith))

pub length-loaded_cells : (pair : Pair) (cells : List ℕ) (marks : List Bool) → length (loaded_cells pair cells marks) ≡ length cells
length-loaded_cells pair [] marks = refl
length-loaded_cells pair (c ∷ cs) [] = ap (λ (n : ℕ). suc n) (length-loaded_cells pair cs [])
length-loaded_cells pair (c ∷ cs) (m ∷ ms) = ap (λ (n : ℕ). suc n) (length-loaded_cells pair cs ms)

-- a cell with a meaning is loaded as its value
pub loaded_cell-meaning : (size : ℕ) (pair : Pair) (meaning : Meaning) → size ≤ 2 ^ 23 → Fits size meaning → loaded_cell pair (cell_of meaning) (mark_of meaning) ≡ value_at pair meaning
loaded_cell-meaning size pair (Plain value) most fits = refl
loaded_cell-meaning size pair (Offset offset) most fits = let e : is_negative offset ≡ false = grind (arith, nat_tests) in rw e refl
loaded_cell-meaning size pair (Tag tag) most fits =
    let e : is_negative (2 ^ 64 - 1 - tag) ≡ true = grind (arith, nat_tests) in
    let back : 2 ^ 64 - 1 - (2 ^ 64 - 1 - tag) ≡ tag = omega arith in
    rw (e, back) refl

-- the first differing cell from one cell on: it is that cell, or comes later
pub differing_here : (size : ℕ) (p q : Pair) (offset i : ℕ) (xs ys : List ℕ) → i < length xs → i < length ys
    → differing_from size p q offset (drop i xs) (drop i ys)
    ≡ cond (has_common_cell size p q (get_or xs i 0) (get_or ys i 0)) (differing_from size p q (offset + 8) (drop (i + 1) xs) (drop (i + 1) ys)) (Some (record { offset = offset; first = get_or xs i 0; second = get_or ys i 0 }))
differing_here size p q offset i xs ys h k =
    rw add-one (
    ap (λ (zs : List ℕ). differing_from size p q offset zs (drop i ys)) (drop-cons xs i 0 h)
    ∙ ap (λ (zs : List ℕ). differing_from size p q offset (get_or xs i 0 ∷ drop (suc i) xs) zs) (drop-cons ys i 0 k))

-- where that cell has a value for both, it comes later
pub differing_later : (size : ℕ) (p q : Pair) (i : ℕ) (xs ys : List ℕ) → i < length xs → i < length ys → has_common_cell size p q (get_or xs i 0) (get_or ys i 0) ≡ true
    → differing_from size p q (8 * (i + 1)) (drop (i + 1) xs) (drop (i + 1) ys) ≡ differing_from size p q (8 * i) (drop i xs) (drop i ys)
differing_later size p q i xs ys h k found =
    let at : 8 * (i + 1) ≡ 8 * i + 8 = omega arith in
    rw at (sym (differing_here size p q (8 * i) i xs ys h k ∙ ap (λ (b : Bool). cond b (differing_from size p q (8 * i + 8) (drop (i + 1) xs) (drop (i + 1) ys)) (Some (record { offset = 8 * i; first = get_or xs i 0; second = get_or ys i 0 }))) found))

pub differing_now : (size : ℕ) (p q : Pair) (i : ℕ) (xs ys : List ℕ) → i < length xs → i < length ys → has_common_cell size p q (get_or xs i 0) (get_or ys i 0) ≡ false
    → differing_from size p q (8 * i) (drop i xs) (drop i ys) ≡ Some (record { offset = 8 * i; first = get_or xs i 0; second = get_or ys i 0 })
differing_now size p q i xs ys h k none =
    differing_here size p q (8 * i) i xs ys h k ∙ ap (λ (b : Bool). cond b (differing_from size p q (8 * i + 8) (drop (i + 1) xs) (drop (i + 1) ys)) (Some (record { offset = 8 * i; first = get_or xs i 0; second = get_or ys i 0 }))) none

-- one more cell is loaded as the list has it
loaded_next : (pair : Pair) (cells : List ℕ) (marks : List Bool) (xs : List ℕ) (i value : ℕ) (mark : Bool) → i < length cells → i < length marks
    → ((k : ℕ) → k < i → get_or (loaded_cells pair cells marks) k 0 ≡ get_or xs k 0) → loaded_cell pair value mark ≡ get_or xs i 0
    → (k : ℕ) → k < i + 1 → get_or (loaded_cells pair (slice_set cells i value) (slice_set marks i mark)) k 0 ≡ get_or xs k 0
loaded_next pair cells marks xs i value mark in_cells in_marks before here =
    let within : i < length (loaded_cells pair cells marks) = omega (arith, length-loaded_cells pair cells marks) in
    rw (loaded_cells-set pair cells marks i value mark in_marks) (
    below_more (λ (k : ℕ). get_or (slice_set (loaded_cells pair cells marks) i (loaded_cell pair value mark)) k 0 ≡ get_or xs k 0) i
    (λ k h. let ne : k ≢ i = omega arith in rw get_or-set_other (before k h))
    (rw get_or-set_same here))

-- an image that is filled up to a cell is filled by the meaning of that cell
pub filled_next : (x y r : ImageRecord) (i : ℕ) (meaning : Meaning) → i < x.used / 8 → x.size ≤ 2 ^ 23 → Explains x.size x.pair y.pair (get_or x.cells i 0) (get_or y.cells i 0) meaning
    → IsFilled x y i r → IsFilled x y (i + 1) (with_meaning r i meaning)
filled_next x y r i meaning h most explains f = record {
  relocatable = f.relocatable;
  size = f.size;
  used = f.used;
  cell_count = length-set r.cells i (cell_of meaning) ∙ f.cell_count;
  mark_count = length-set r.marks i (mark_of meaning) ∙ f.mark_count;
  first = loaded_next x.pair r.cells r.marks x.cells i (cell_of meaning) (mark_of meaning) (omega arith) (omega arith) f.first (loaded_cell-meaning x.size x.pair meaning most explains.fits ∙ explains.first);
  second = loaded_next y.pair r.cells r.marks y.cells i (cell_of meaning) (mark_of meaning) (omega arith) (omega arith) f.second (loaded_cell-meaning x.size y.pair meaning most explains.fits ∙ explains.second);
}

-- images of one size and of the same loaded cells have the same loading
same_loading : (pair : Pair) (r x : ImageRecord) (n : ℕ) → r.size ≡ x.size → r.used ≡ x.used → x.marks ≡ replicate n false → loaded_cells pair r.cells r.marks ≡ x.cells → loaded r pair ≡ loaded x pair
unfolding loaded
same_loading pair r x n size used marks cells =
    let e : loaded_cells pair x.cells x.marks ≡ x.cells = ap (λ (ms : List Bool). loaded_cells pair x.cells ms) marks ∙ loaded_cells-unmarked pair x.cells n in
    ap (λ (xs : List ℕ). cells_bytes xs ++ replicate (r.size - r.used) 0) (cells ∙ sym e)
    ∙ ap (λ (n : ℕ). cells_bytes (loaded_cells pair x.cells x.marks) ++ replicate (n - r.used) 0) size
    ∙ ap (λ (n : ℕ). cells_bytes (loaded_cells pair x.cells x.marks) ++ replicate (x.size - n) 0) used

-- an image that is filled is common to both
pub common_of : (x y r : ImageRecord) → IsComparable x y → IsImage r → IsFilled x y (x.used / 8) r → IsCommonImage x y r
common_of x y r c within f = record {
  within_limits = within;
  relocatable = f.relocatable;
  size = f.size;
  used = f.used;
  first = same_loading x.pair r x (x.used / 8) f.size f.used (c.first_limits.fixed_marks c.first) (
      let n : length (loaded_cells x.pair r.cells r.marks) ≡ x.used / 8 = length-loaded_cells x.pair r.cells r.marks ∙ f.cell_count in
      ext_get_or 0 (loaded_cells x.pair r.cells r.marks) x.cells (n ∙ sym c.first_limits.cell_count) (λ k h. f.first k (omega arith)));
  second = same_loading y.pair r y (y.used / 8) (f.size ∙ c.size) (f.used ∙ c.used) (c.second_limits.fixed_marks c.second) (
      let n : length (loaded_cells y.pair r.cells r.marks) ≡ x.used / 8 = length-loaded_cells y.pair r.cells r.marks ∙ f.cell_count in
      ext_get_or 0 (loaded_cells y.pair r.cells r.marks) y.cells (n ∙ ap (λ (u : ℕ). u / 8) c.used ∙ sym c.second_limits.cell_count) (λ k h. f.second k (omega arith)));
}
