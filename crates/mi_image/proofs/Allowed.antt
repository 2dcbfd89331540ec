-- No part of an image's bytes is broken.
use Rattle.std.proofs.Common.{◌≡◌, ◌≢◌, ◌⊎◌, inl, inr, ℕ, suc, ◌+◌, ◌-◌, ◌*◌, ◌/◌, ◌%◌, ◌^◌, ◌<◌, ◌≤◌, Bool, true, false, cond, ◌==◌, ◌||◌, Option, None, List, [], ◌∷◌, length, get_or, drop, refl, sym, ap, ◌∙◌, arith}
use Rattle.std.specs.Prelude.{codes}
use Rattle.std.specs.List.{starts_with}
use Rattle.std.proofs.lemmas.Bool.{cases_eq, lt-ltb, le-ltb, le-leb, eq-eqb, and_from, or_left, or_right, cond-true}
use Rattle.std.proofs.lemmas.List.{get_or-drop}
use Rattle.std.proofs.lemmas.Nat.{div-add-mod', mod_below, pow_pos}
use Rattle.mi_model.specs.declared.Kind.{Kind}
use Rattle.mi_model.specs.declared.Kind.TheVariants.{Relocatable, Fixed}
use Rattle.mi_model.specs.declared.Pair.{Pair}
use Rattle.mi_model.specs.Image.{ImageRecord, IsImage, IsRegionSize, IsCell, IsPairOf, image_bytes, bitmap_bytes, bitmap_of, kind_number}
use Rattle.mi_bitmap.specs.Bits.{IsPacked}
use Rattle.mi_bitmap.proofs.Bits.{packed-bitmap_bytes, low_spare}
use Rattle.mi_image.specs.declared.fault.ImageFault.{ImageFault}
use Rattle.mi_image.specs.Grammar.{number_at, bitmap_length, file_length, spelled, is_data_base, is_code_base, is_cell, are_spare_bits_clear, unless, or_else, size_fault, used_fault, bitmap_fault, cells_fault, first_broken, ends_early}
use Rattle.mi_image.proofs.Whole.{at_kind, at_size, at_used, at_data_base, at_code_base, kind_is, bitmap_is, bitmap_size, file_length_is, length_is, spelled_again}

unless_allowed : (allowed : Bool) (fault : ImageFault) → allowed ≡ true → unless allowed fault ≡ None
unless_allowed true fault h = refl
unless_allowed false fault h = absurd cc

-- a part without a fault, and the parts behind it
passed : (early : Bool) (fault next : Option ImageFault) → fault ≡ None → next ≡ None → cond early None (or_else fault next) ≡ None
passed true fault next f n = refl
passed false fault next f n = rw f n

magic_is : (r : ImageRecord) → starts_with ◌==◌ (image_bytes r) (codes "gforthmi image 1") ≡ true
unfolding image_bytes
magic_is r = refl

kind_allowed : (kind : Kind) → (kind_number kind == 1 || kind_number kind == 2) ≡ true
kind_allowed Relocatable = refl
kind_allowed Fixed = refl

size_allowed : (size : ℕ) → IsRegionSize size → size_fault size ≡ None
size_allowed size is =
    let most = is.most in
    rw (le-ltb (2 ^ 23) size most) (unless_allowed _ _ (and_from _ _ (eq-eqb (size % 4096) 0 is.aligned) (le-leb (2 ^ 16) size is.least)))

used_allowed : (size used : ℕ) → used % 8 ≡ 0 → 4096 ≤ used → used ≤ size → used_fault size used ≡ None
used_allowed size used aligned least most =
    rw (le-ltb size used most) (unless_allowed _ _ (and_from _ _ (eq-eqb (used % 8) 0 aligned) (le-leb 4096 used least)))

data_base_allowed : (kind : Kind) (pair : Pair) → IsPairOf kind pair → is_data_base kind pair.d ≡ true
data_base_allowed Relocatable pair is = eq-eqb pair.d 0 is.0
data_base_allowed Fixed pair is = and_from _ _ (and_from _ _ (eq-eqb (pair.d % 4096) 0 is.d_aligned) (le-leb (2 ^ 32) pair.d is.d_least)) (le-leb pair.d (2 ^ 46 - 2 ^ 32) is.d_most)

code_base_allowed : (kind : Kind) (pair : Pair) → IsPairOf kind pair → is_code_base kind pair.k ≡ true
code_base_allowed Relocatable pair is = eq-eqb pair.k 0 is.1
code_base_allowed Fixed pair is = and_from _ _ (and_from _ _ (eq-eqb (pair.k % 4096) 0 is.k_aligned) (le-leb (2 ^ 46) pair.k is.k_least)) (le-leb pair.k (2 ^ 47 - 2 ^ 32) is.k_most)

-- ---- the bitmap

-- a number whose part from a power on is 0 is below that power
below_power : (n k : ℕ) → n / 2 ^ k ≡ 0 → n < 2 ^ k
below_power n k e =
    let p = pow_pos k in
    let d = div-add-mod' n (2 ^ k) in
    let m = mod_below n (2 ^ k) p in
    let f : 0 * 2 ^ k + n % 2 ^ k ≡ n = rw e at d in
    omega arith

spare_clear : (marks : List Bool) (cells : ℕ) → length marks ≡ cells → are_spare_bits_clear cells (get_or (bitmap_bytes marks) (length (bitmap_bytes marks) - 1) 0) ≡ true
spare_clear marks cells count = at (cases_eq (cells % 8) 0)
  where
    packed : IsPacked (bitmap_bytes marks) cells
    packed = packed-bitmap_bytes marks cells count

    at : (cells % 8 ≡ 0) ⊎ (cells % 8 ≢ 0) → are_spare_bits_clear cells (get_or (bitmap_bytes marks) (length (bitmap_bytes marks) - 1) 0) ≡ true
    at (inl whole) = or_left _ _ (eq-eqb (cells % 8) 0 whole)
    at (inr some) =
        let last : ℕ = get_or (bitmap_bytes marks) (length (bitmap_bytes marks) - 1) 0 in
        let low = low_spare (bitmap_bytes marks) cells last packed.size refl (packed.fits (length (bitmap_bytes marks) - 1)) some packed.spare in
        or_right _ _ (lt-ltb last (2 ^ (cells % 8)) (below_power last (cells % 8) low))

bitmap_allowed : (kind : Kind) (marks : List Bool) (cells last place : ℕ) → length marks ≡ cells
    → last ≡ get_or (bitmap_of kind marks) (length (bitmap_of kind marks) - 1) 0 → bitmap_fault kind cells last place ≡ None
bitmap_allowed Relocatable marks cells last place count is = unless_allowed _ _ (ap (are_spare_bits_clear cells) is ∙ spare_clear marks cells count)
bitmap_allowed Fixed marks cells last place count is = refl

-- the last byte of the file is that of the bitmap
last_is : (r : ImageRecord) → IsImage r → r.kind ≡ Relocatable
    → get_or (image_bytes r) (file_length (image_bytes r) - 1) 0 ≡ get_or (bitmap_of r.kind r.marks) (length (bitmap_of r.kind r.marks) - 1) 0
last_is r is kind =
    let file = file_length_is r is in
    let size = bitmap_size r.kind r.marks r.used is.mark_count in
    let some : bitmap_length r.kind r.used ≡ (r.used / 8 + 7) / 8 = ap (λ (k : Kind). bitmap_length k r.used) kind in
    let least = is.used_least in
    let place : file_length (image_bytes r) - 1 ≡ 56 + (r.used + (length (bitmap_of r.kind r.marks) - 1)) = omega arith in
    ap (λ (i : ℕ). get_or (image_bytes r) i 0) place
    ∙ sym (get_or-drop 56 (image_bytes r) (r.used + (length (bitmap_of r.kind r.marks) - 1)) 0)
    ∙ sym (get_or-drop r.used (drop 56 (image_bytes r)) (length (bitmap_of r.kind r.marks) - 1) 0)
    ∙ ap (λ (bytes : List ℕ). get_or bytes (length (bitmap_of r.kind r.marks) - 1) 0) (bitmap_is r is)

bitmap_of_image : (r : ImageRecord) → IsImage r → (kind : Kind) → r.kind ≡ kind → (place : ℕ)
    → bitmap_fault r.kind (r.used / 8) (get_or (image_bytes r) (file_length (image_bytes r) - 1) 0) place ≡ None
bitmap_of_image r is Relocatable e place = bitmap_allowed r.kind r.marks (r.used / 8) (get_or (image_bytes r) (file_length (image_bytes r) - 1) 0) place is.mark_count (last_is r is e)
bitmap_of_image r is Fixed e place = ap (λ (kind : Kind). bitmap_fault kind (r.used / 8) (get_or (image_bytes r) (file_length (image_bytes r) - 1) 0) place) e

-- ---- the cells

cell_allowed : (size cell : ℕ) (marked : Bool) → IsCell size cell marked → is_cell size cell marked ≡ true
cell_allowed size cell false h = refl
cell_allowed size cell true (inl h) = or_left _ _ (le-leb cell size h)
cell_allowed size cell true (inr h) = or_right _ _ (le-leb (2 ^ 64 - 120) cell h.0)

cells_allowed : (size : ℕ) (cells : List ℕ) (marks : List Bool) (place : ℕ) → length marks ≡ length cells
    → ((i : ℕ) → i < length cells → IsCell size (get_or cells i 0) (get_or marks i false)) → cells_fault size cells marks place ≡ None
cells_allowed size [] marks place count each = refl
cells_allowed size (c ∷ cs) [] place count each = refl
cells_allowed size (c ∷ cs) (m ∷ ms) place count each =
    rw (cell_allowed size c m (each 0 (omega arith))) (cells_allowed size cs ms (place + 8) (omega arith) (λ i h. each (suc i) (omega arith)))

-- ---- the whole

-- no part of an image's bytes is broken
pub none_broken : (r : ImageRecord) → IsImage r → first_broken (image_bytes r) ≡ None
unfolding first_broken
none_broken r is =
    let bytes = image_bytes r in
    let same : spelled bytes ≡ r = spelled_again r is in
    passed _ _ _ (unless_allowed _ _ (magic_is r))
    (passed _ _ _ (unless_allowed _ _ (ap (λ (n : ℕ). n == 1 || n == 2) (at_kind r) ∙ kind_allowed r.kind))
    (passed _ _ _ (ap size_fault (at_size r is) ∙ size_allowed r.size is.size)
    (passed _ _ _ (ap (λ (n : ℕ). used_fault n (number_at bytes 32)) (at_size r is) ∙ ap (used_fault r.size) (at_used r is) ∙ used_allowed r.size r.used is.used_aligned is.used_least is.used_most)
    (passed _ _ _ (unless_allowed _ _ (ap (λ (kind : Kind). is_data_base kind (number_at bytes 40)) (kind_is r) ∙ ap (is_data_base r.kind) (at_data_base r is) ∙ data_base_allowed r.kind r.pair is.pair))
    (passed _ _ _ (unless_allowed _ _ (ap (λ (kind : Kind). is_code_base kind (number_at bytes 48)) (kind_is r) ∙ ap (is_code_base r.kind) (at_code_base r is) ∙ code_base_allowed r.kind r.pair is.pair))
    (passed _ _ _ (ap (λ (kind : Kind). bitmap_fault kind (number_at bytes 32 / 8) (get_or bytes (file_length bytes - 1) 0) (file_length bytes - 1)) (kind_is r)
    ∙ ap (λ (used : ℕ). bitmap_fault r.kind (used / 8) (get_or bytes (file_length bytes - 1) 0) (file_length bytes - 1)) (at_used r is)
    ∙ bitmap_of_image r is r.kind refl (file_length bytes - 1))
    (passed _ _ _ (ap (λ (s : ImageRecord). cells_fault s.size s.cells s.marks 56) same
    ∙ cells_allowed r.size r.cells r.marks 56 (is.mark_count ∙ sym is.cell_count) (λ i h. is.cells i (let count = is.cell_count in omega arith)))
    (cond-true _ _ _ (lt-ltb (length bytes) (file_length bytes + 1) (let e = length_is r is in omega arith))))))))))

-- an image's bytes don't end early
pub whole_file : (r : ImageRecord) → IsImage r → ends_early (image_bytes r) ≡ false
whole_file r is =
    let e = length_is r is in
    let file = file_length_is r is in
    rw (le-ltb (length (image_bytes r)) 56 (omega arith)) (le-ltb (length (image_bytes r)) (file_length (image_bytes r)) (omega arith))
