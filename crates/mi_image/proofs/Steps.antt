-- The cells of a file, one after the other.
use Rattle.std.proofs.Common.{◌≡◌, ℕ, zero, suc, ◌+◌, ◌-◌, ◌*◌, ◌/◌, ◌<◌, ◌≤◌, Bool, true, false, cond, Option, None, Some, List, [], ◌∷◌, ◌++◌, append_assoc, length, take, drop, get_or, replicate, Result, refl, sym, ap, ◌∙◌, arith}
use Rattle.std.specs.Int.{w64, from_le_bytes}
use Rattle.std.proofs.lemmas.Bool.{le-ltb, lt-ltb}
use Rattle.std.proofs.lemmas.List.{drop-drop, length-drop}
use Rattle.mi_model.specs.declared.Kind.{Kind}
use Rattle.mi_model.specs.declared.Kind.TheVariants.{Relocatable, Fixed}
use Rattle.mi_model.specs.Image.{region_cells}
use Rattle.mi_bitmap.specs.Bits.{bit, bits, bits_from}
use Rattle.mi_image.specs.declared.fault.ImageFault.{ImageFault}
use Rattle.mi_image.specs.declared.fault.ImageFault.TheVariants.{NotImage}
use Rattle.mi_image.specs.declared.fault.Part.TheVariants as parts
use Rattle.mi_image.specs.Grammar.{number_at, kind_of, bitmap_length, file_length, marks_in, is_cell, bitmap_fault, cells_fault, or_else, spelled, body_rows, first_fault}
use Rattle.mi_image.specs.Decoding.{Judges}
use Rattle.mi_image.proofs.Numbers.{region_cells-next}
use Rattle.mi_image.proofs.Sound.{next_none}

-- the cells from one on begin with that one
pub cells_from : (body : List ℕ) (cells i : ℕ) → i < cells → 8 * cells ≤ length body
    → region_cells (cells - i) (drop (8 * i) body) ≡ number_at body (8 * i) ∷ region_cells (cells - (i + 1)) (drop (8 * (i + 1)) body)
unfolding number_at
cells_from body cells i below enough =
    let count : cells - i ≡ suc (cells - (i + 1)) = omega arith in
    let next : 8 * i + 8 ≡ 8 * (i + 1) = omega arith in
    ap (λ (n : ℕ). region_cells n (drop (8 * i) body)) count
    ∙ region_cells-next (cells - (i + 1)) (drop (8 * i) body) (omega (arith, length-drop (8 * i) body))
    ∙ ap (λ (xs : List ℕ). from_le_bytes w64 (take 8 (drop (8 * i) body)) ∷ region_cells (cells - (i + 1)) xs) (drop-drop 8 (8 * i) body ∙ ap (λ (n : ℕ). drop n body) next)

pub bits_next : (bitmap : List ℕ) (cells i : ℕ) → i < cells → bits_from bitmap (cells - i) i ≡ bit bitmap i ∷ bits_from bitmap (cells - (i + 1)) (i + 1)
bits_next bitmap cells i below = let count : cells - i ≡ suc (cells - (i + 1)) = omega arith in ap (λ (n : ℕ). bits_from bitmap n i) count

-- the faults of the cells from one on
pub faults_from : (size : ℕ) (body bitmap : List ℕ) (cells i : ℕ) → i < cells → 8 * cells ≤ length body
    → cells_fault size (region_cells (cells - i) (drop (8 * i) body)) (bits_from bitmap (cells - i) i) (56 + 8 * i)
    ≡ cond (is_cell size (number_at body (8 * i)) (bit bitmap i))
    (cells_fault size (region_cells (cells - (i + 1)) (drop (8 * (i + 1)) body)) (bits_from bitmap (cells - (i + 1)) (i + 1)) (56 + 8 * (i + 1)))
    (Some (NotImage (56 + 8 * i) parts.Cells))
faults_from size body bitmap cells i below enough =
    let place : 56 + 8 * i + 8 ≡ 56 + 8 * (i + 1) = omega arith in
    ap (λ (cs : List ℕ). cells_fault size cs (bits_from bitmap (cells - i) i) (56 + 8 * i)) (cells_from body cells i below enough)
    ∙ ap (λ (ms : List Bool). cells_fault size (number_at body (8 * i) ∷ region_cells (cells - (i + 1)) (drop (8 * (i + 1)) body)) ms (56 + 8 * i)) (bits_next bitmap cells i below)
    ∙ ap (λ (p : ℕ). cond (is_cell size (number_at body (8 * i)) (bit bitmap i))
    (cells_fault size (region_cells (cells - (i + 1)) (drop (8 * (i + 1)) body)) (bits_from bitmap (cells - (i + 1)) (i + 1)) p)
    (Some (NotImage (56 + 8 * i) parts.Cells))) place

-- a cell that is broken is the first one
pub faults_here : (size : ℕ) (body bitmap : List ℕ) (cells i : ℕ) → i < cells → 8 * cells ≤ length body → bit bitmap i ≡ true → is_cell size (number_at body (8 * i)) true ≡ false
    → cells_fault size (region_cells (cells - i) (drop (8 * i) body)) (bits_from bitmap (cells - i) i) (56 + 8 * i) ≡ Some (NotImage (56 + 8 * i) parts.Cells)
faults_here size body bitmap cells i below enough marked broken =
    let e : is_cell size (number_at body (8 * i)) (bit bitmap i) ≡ false = ap (is_cell size (number_at body (8 * i))) marked ∙ broken in
    faults_from size body bitmap cells i below enough ∙ rw e refl

-- one that isn't leaves those behind it
pub faults_behind : (size : ℕ) (body bitmap : List ℕ) (cells i : ℕ) → i < cells → 8 * cells ≤ length body → is_cell size (number_at body (8 * i)) (bit bitmap i) ≡ true
    → cells_fault size (region_cells (cells - (i + 1)) (drop (8 * (i + 1)) body)) (bits_from bitmap (cells - (i + 1)) (i + 1)) (56 + 8 * (i + 1))
    ≡ cells_fault size (region_cells (cells - i) (drop (8 * i) body)) (bits_from bitmap (cells - i) i) (56 + 8 * i)
faults_behind size body bitmap cells i below enough allowed = sym (faults_from size body bitmap cells i below enough ∙ rw allowed refl)

-- a cell that is allowed with a mark is allowed
pub allowed_either_way : (size cell : ℕ) (marked : Bool) → is_cell size cell true ≡ true → is_cell size cell marked ≡ true
allowed_either_way size cell true h = h
allowed_either_way size cell false h = refl

-- the cells and marks of a relocatable image are those that its bytes spell
pub spelled_faults : (bytes : List ℕ) → kind_of (number_at bytes 16) ≡ Relocatable
    → cells_fault (number_at bytes 24) (region_cells (number_at bytes 32 / 8) (drop 56 bytes)) (bits (drop (number_at bytes 32) (drop 56 bytes)) (number_at bytes 32 / 8)) 56
    ≡ cells_fault (spelled bytes).size (spelled bytes).cells (spelled bytes).marks 56
unfolding spelled
spelled_faults bytes e =
    ap (λ (kind : Kind). cells_fault (number_at bytes 24) (region_cells (number_at bytes 32 / 8) (drop 56 bytes)) (marks_in kind (number_at bytes 32 / 8) (drop (number_at bytes 32) (drop 56 bytes))) 56) (sym e)

-- where a part isn't broken, the parts behind it are judged
pub judged_behind : {A : Type 0} (answer : Result A ImageFault) (part next found : Option ImageFault) → part ≡ None → found ≡ next → Judges answer found → Judges answer (or_else part next)
judged_behind answer part next found none same h = rw (none, sym same) h

-- the length of a file with a bitmap
pub length_with_bitmap : (bytes : List ℕ) → kind_of (number_at bytes 16) ≡ Relocatable → file_length bytes ≡ 56 + number_at bytes 32 + (number_at bytes 32 / 8 + 7) / 8
unfolding file_length
length_with_bitmap bytes e = ap (λ (kind : Kind). 56 + number_at bytes 32 + bitmap_length kind (number_at bytes 32)) e

-- without marks no cell is broken
no_marks : (size : ℕ) (cells : List ℕ) (n place : ℕ) → cells_fault size cells (replicate n false) place ≡ None
no_marks size [] n place = refl
no_marks size (c ∷ cs) zero place = refl
no_marks size (c ∷ cs) (suc n) place = no_marks size cs n (place + 8)

-- neither the bitmap nor a cell is broken
pub record BodyAllowed (bytes : List ℕ) : Type 0 where
  pub bitmap : bitmap_fault (kind_of (number_at bytes 16)) (number_at bytes 32 / 8) (get_or bytes (file_length bytes - 1) 0) (file_length bytes - 1) ≡ None
  pub cells : cells_fault (spelled bytes).size (spelled bytes).cells (spelled bytes).marks 56 ≡ None

pub fixed_allowed : (bytes : List ℕ) → kind_of (number_at bytes 16) ≡ Fixed → BodyAllowed bytes
unfolding spelled
fixed_allowed bytes e =
    let cells : List ℕ = region_cells (number_at bytes 32 / 8) (drop 56 bytes) in
    record {
      bitmap = ap (λ (kind : Kind). bitmap_fault kind (number_at bytes 32 / 8) (get_or bytes (file_length bytes - 1) 0) (file_length bytes - 1)) e;
      cells = ap (λ (kind : Kind). cells_fault (number_at bytes 24) cells (marks_in kind (number_at bytes 32 / 8) (drop (number_at bytes 32) (drop 56 bytes))) 56) e
          ∙ no_marks (number_at bytes 24) cells (number_at bytes 32 / 8) 56;
    }

pub relocatable_allowed : (bytes : List ℕ) (end : ℕ) → kind_of (number_at bytes 16) ≡ Relocatable → end ≡ file_length bytes
    → or_else (bitmap_fault Relocatable (number_at bytes 32 / 8) (get_or bytes (end - 1) 0) (end - 1)) (cells_fault (spelled bytes).size (spelled bytes).cells (spelled bytes).marks 56) ≡ None
    → BodyAllowed bytes
relocatable_allowed bytes end e same h =
    let both = next_none (bitmap_fault Relocatable (number_at bytes 32 / 8) (get_or bytes (end - 1) 0) (end - 1)) _ h in
    record {
      bitmap = ap (λ (kind : Kind). bitmap_fault kind (number_at bytes 32 / 8) (get_or bytes (file_length bytes - 1) 0) (file_length bytes - 1)) e
          ∙ ap (λ (n : ℕ). bitmap_fault Relocatable (number_at bytes 32 / 8) (get_or bytes (n - 1) 0) (n - 1)) (sym same) ∙ both.0;
      cells = both.1;
    }

-- what is behind the end
pub byte_behind : (bytes : List ℕ) → BodyAllowed bytes → file_length bytes < length bytes → first_fault (length bytes) (body_rows bytes) ≡ Some (NotImage (file_length bytes) parts.End)
byte_behind bytes allowed long =
    let e = le-ltb (length bytes) (file_length bytes) (omega arith) in
    let f = le-ltb (length bytes) (file_length bytes + 1) (omega arith) in
    rw (e, allowed.bitmap, allowed.cells, f) refl

pub nothing_behind : (bytes : List ℕ) → BodyAllowed bytes → length bytes ≡ file_length bytes → first_fault (length bytes) (body_rows bytes) ≡ None
nothing_behind bytes allowed same =
    let e = le-ltb (length bytes) (file_length bytes) (omega arith) in
    let f = lt-ltb (length bytes) (file_length bytes + 1) (omega arith) in
    rw (e, allowed.bitmap, allowed.cells, f) refl

-- a bitmap of a whole file has a bit for each cell
pub bitmap_within : (bytes : List ℕ) → file_length bytes ≤ length bytes → kind_of (number_at bytes 16) ≡ Relocatable → number_at bytes 32 / 8 ≤ 8 * length (drop (number_at bytes 32) (drop 56 bytes))
bitmap_within bytes whole e = let l = length_with_bitmap bytes e in omega (arith, length-drop (number_at bytes 32) (drop 56 bytes), length-drop 56 bytes)

-- a cell that was read, and those that are left
pub cell_read : (done body : List ℕ) (cells i cell : ℕ) → i < cells → 8 * cells ≤ length body → cell ≡ number_at body (8 * i)
    → (done ++ cell ∷ []) ++ region_cells (cells - (i + 1)) (drop (8 * (i + 1)) body) ≡ done ++ region_cells (cells - i) (drop (8 * i) body)
cell_read done body cells i cell below enough is =
    append_assoc done (cell ∷ []) _
    ∙ ap (λ (n : ℕ). done ++ n ∷ region_cells (cells - (i + 1)) (drop (8 * (i + 1)) body)) is
    ∙ ap (λ (xs : List ℕ). done ++ xs) (sym (cells_from body cells i below enough))

pub bit_read : (done : List Bool) (bitmap : List ℕ) (cells i : ℕ) (marked : Bool) → i < cells → marked ≡ bit bitmap i
    → (done ++ marked ∷ []) ++ bits_from bitmap (cells - (i + 1)) (i + 1) ≡ done ++ bits_from bitmap (cells - i) i
bit_read done bitmap cells i marked below is =
    append_assoc done (marked ∷ []) _
    ∙ ap (λ (b : Bool). done ++ b ∷ bits_from bitmap (cells - (i + 1)) (i + 1)) is
    ∙ ap (λ (xs : List Bool). done ++ xs) (sym (bits_next bitmap cells i below))
