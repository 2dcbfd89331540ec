-- The bytes of an image spell that image, and no part of them is broken.
use Rattle.std.proofs.Common.{◌≡◌, inl, inr, ℕ, ◌+◌, ◌/◌, ◌^◌, ◌<◌, ◌≤◌, Bool, true, false, List, ◌++◌, length, get_or, drop, replicate, refl, sym, ap, ◌∙◌, arith}
use Rattle.std.proofs.lemmas.List.{drop_at, length-append}
use Rattle.mi_model.specs.declared.Kind.{Kind}
use Rattle.mi_model.specs.declared.Kind.TheVariants.{Relocatable, Fixed}
use Rattle.mi_model.specs.declared.Pair.{Pair}
use Rattle.mi_model.specs.Image.{ImageRecord, IsImage, IsCell, IsPairOf, image_bytes, cells_bytes, bitmap_of, kind_number, region_cells}
use Rattle.mi_bitmap.proofs.Bits.{packed-bitmap_bytes, bits-bitmap_bytes}
use Rattle.mi_image.specs.Grammar.{number_at, kind_of, bitmap_length, file_length, marks_in, spelled}
use Rattle.mi_image.proofs.Numbers.{number_again, length-cells_bytes, region_cells-cells_bytes}

-- ---- the header

kind_number-below : (kind : Kind) → kind_number kind < 2 ^ 64
kind_number-below Relocatable = omega arith
kind_number-below Fixed = omega arith

kind_again : (kind : Kind) → kind_of (kind_number kind) ≡ kind
kind_again Relocatable = refl
kind_again Fixed = refl

pub at_kind : (r : ImageRecord) → number_at (image_bytes r) 16 ≡ kind_number r.kind
unfolding number_at image_bytes
at_kind r = number_again (kind_number r.kind) (kind_number-below r.kind)

pub at_size : (r : ImageRecord) → IsImage r → number_at (image_bytes r) 24 ≡ r.size
unfolding number_at image_bytes
at_size r is = let most = is.size.most in number_again r.size (omega arith)

pub at_used : (r : ImageRecord) → IsImage r → number_at (image_bytes r) 32 ≡ r.used
unfolding number_at image_bytes
at_used r is = let most = is.size.most in let within = is.used_most in number_again r.used (omega arith)

bases_below : (kind : Kind) (pair : Pair) → IsPairOf kind pair → (pair.d < 2 ^ 64) × (pair.k < 2 ^ 64)
bases_below Relocatable pair is = (omega (arith, is.0), omega (arith, is.1))
bases_below Fixed pair is = (omega (arith, is.d_most), omega (arith, is.k_most))

pub at_data_base : (r : ImageRecord) → IsImage r → number_at (image_bytes r) 40 ≡ r.pair.d
unfolding number_at image_bytes
at_data_base r is = number_again r.pair.d (bases_below r.kind r.pair is.pair).0

pub at_code_base : (r : ImageRecord) → IsImage r → number_at (image_bytes r) 48 ≡ r.pair.k
unfolding number_at image_bytes
at_code_base r is = number_again r.pair.k (bases_below r.kind r.pair is.pair).1

pub kind_is : (r : ImageRecord) → kind_of (number_at (image_bytes r) 16) ≡ r.kind
kind_is r = ap kind_of (at_kind r) ∙ kind_again r.kind

-- ---- the cells and the bitmap

body_is : (r : ImageRecord) → drop 56 (image_bytes r) ≡ cells_bytes r.cells ++ bitmap_of r.kind r.marks
unfolding image_bytes
body_is r = refl

pub cells_length : (r : ImageRecord) → IsImage r → length (cells_bytes r.cells) ≡ r.used
cells_length r is = let count = is.cell_count in let aligned = is.used_aligned in omega (arith, length-cells_bytes r.cells)

pub bitmap_is : (r : ImageRecord) → IsImage r → drop r.used (drop 56 (image_bytes r)) ≡ bitmap_of r.kind r.marks
bitmap_is r is = ap (drop r.used) (body_is r) ∙ drop_at (cells_bytes r.cells) (bitmap_of r.kind r.marks) r.used (cells_length r is)

marks_again : (kind : Kind) (marks : List Bool) (n : ℕ) → length marks ≡ n → (kind ≡ Fixed → marks ≡ replicate n false) → marks_in kind n (bitmap_of kind marks) ≡ marks
marks_again Relocatable marks n count fixed = bits-bitmap_bytes marks n count
marks_again Fixed marks n count fixed = sym (fixed refl)

pub bitmap_size : (kind : Kind) (marks : List Bool) (used : ℕ) → length marks ≡ used / 8 → length (bitmap_of kind marks) ≡ bitmap_length kind used
bitmap_size Relocatable marks used count = (packed-bitmap_bytes marks (used / 8) count).size
bitmap_size Fixed marks used count = refl

cell_below : (size cell : ℕ) (marked : Bool) → size ≤ 2 ^ 23 → IsCell size cell marked → cell < 2 ^ 64
cell_below size cell true most (inl h) = omega arith
cell_below size cell true most (inr h) = h.1
cell_below size cell false most h = h

cells_again : (r : ImageRecord) → IsImage r → region_cells (r.used / 8) (drop 56 (image_bytes r)) ≡ r.cells
cells_again r is =
    let count = is.cell_count in
    let most = is.size.most in
    ap (λ (n : ℕ). region_cells n (drop 56 (image_bytes r))) (sym count)
    ∙ ap (region_cells (length r.cells)) (body_is r)
    ∙ region_cells-cells_bytes r.cells (bitmap_of r.kind r.marks) (λ i h. cell_below r.size (get_or r.cells i 0) (get_or r.marks i false) most (is.cells i (omega arith)))

-- ---- the record

pub same_record : (r : ImageRecord) (kind : Kind) (size used d k : ℕ) (cells : List ℕ) (marks : List Bool)
    → kind ≡ r.kind → size ≡ r.size → used ≡ r.used → d ≡ r.pair.d → k ≡ r.pair.k → cells ≡ r.cells → marks ≡ r.marks
    → ◌≡◌ {A = ImageRecord} (record { kind = kind; size = size; used = used; pair = record { d = d; k = k }; cells = cells; marks = marks }) r
same_record r kind size used d k cells marks e0 e1 e2 e3 e4 e5 e6 = rw (e0, e1, e2, e3, e4, e5, e6) refl

-- the bytes of an image spell that image
pub spelled_again : (r : ImageRecord) → IsImage r → spelled (image_bytes r) ≡ r
unfolding spelled
spelled_again r is =
    let bytes = image_bytes r in
    same_record r (kind_of (number_at bytes 16)) (number_at bytes 24) (number_at bytes 32) (number_at bytes 40) (number_at bytes 48)
    (region_cells (number_at bytes 32 / 8) (drop 56 bytes))
    (marks_in (kind_of (number_at bytes 16)) (number_at bytes 32 / 8) (drop (number_at bytes 32) (drop 56 bytes)))
    (kind_is r) (at_size r is) (at_used r is) (at_data_base r is) (at_code_base r is)
    (ap (λ (used : ℕ). region_cells (used / 8) (drop 56 bytes)) (at_used r is) ∙ cells_again r is)
    (ap (λ (kind : Kind). marks_in kind (number_at bytes 32 / 8) (drop (number_at bytes 32) (drop 56 bytes))) (kind_is r)
    ∙ ap (λ (used : ℕ). marks_in r.kind (used / 8) (drop used (drop 56 bytes))) (at_used r is)
    ∙ ap (marks_in r.kind (r.used / 8)) (bitmap_is r is)
    ∙ marks_again r.kind r.marks (r.used / 8) is.mark_count is.fixed_marks)

pub file_length_is : (r : ImageRecord) → IsImage r → file_length (image_bytes r) ≡ 56 + r.used + bitmap_length r.kind r.used
unfolding file_length
file_length_is r is =
    ap (λ (kind : Kind). 56 + number_at (image_bytes r) 32 + bitmap_length kind (number_at (image_bytes r) 32)) (kind_is r)
    ∙ ap (λ (used : ℕ). 56 + used + bitmap_length r.kind used) (at_used r is)

header_and_body : (r : ImageRecord) → length (image_bytes r) ≡ 56 + length (drop 56 (image_bytes r))
unfolding image_bytes
header_and_body r = omega arith

-- an image's bytes are as many as its header says
pub length_is : (r : ImageRecord) → IsImage r → length (image_bytes r) ≡ file_length (image_bytes r)
length_is r is =
    let body : length (drop 56 (image_bytes r)) ≡ length (cells_bytes r.cells) + length (bitmap_of r.kind r.marks) =
    ap length (body_is r) ∙ length-append (cells_bytes r.cells) (bitmap_of r.kind r.marks) in
    let file = file_length_is r is in
    let cells = cells_length r is in
    let bitmap = bitmap_size r.kind r.marks r.used is.mark_count in
    omega (arith, header_and_body r)
