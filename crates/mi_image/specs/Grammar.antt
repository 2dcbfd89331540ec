-- The grammar of image files: their parts in the order of the file, what is allowed in each, and the first that is broken.
use Rattle.std.specs.Prelude.{ℕ, ◌+◌, ◌-◌, ◌/◌, ◌%◌, ◌^◌, ◌==◌, ◌&&◌, ◌||◌, Bool, false, not, cond, nat_le, nat_lt, Option, None, Some, List, [], ◌∷◌, length, take, drop, get_or, replicate, codes}
use Rattle.std.specs.Int.{w64, from_le_bytes}
use Rattle.std.specs.List.{starts_with}
use Rattle.mi_model.specs.declared.Kind.{Kind}
use Rattle.mi_model.specs.declared.Kind.TheVariants.{Relocatable, Fixed}
use Rattle.mi_model.specs.Image.{ImageRecord, region_cells}
use Rattle.mi_bitmap.specs.Bits.{bits}
use Rattle.mi_image.specs.declared.fault.Part.TheVariants as parts
use Rattle.mi_image.specs.declared.fault.ImageFault.{ImageFault}
use Rattle.mi_image.specs.declared.fault.ImageFault.TheVariants.{NotImage, TooLarge}

-- the number in the eight bytes from a place on
unfoldable pub number_at : List ℕ → (place : ℕ) → ℕ
number_at bytes place = from_le_bytes w64 (take 8 (drop place bytes))

-- the kind with a number, which is 1 or 2
abbrev pub kind_of : ℕ → Kind
kind_of number = cond (number == 2) Fixed Relocatable

-- how many bytes the bitmap has
abbrev pub bitmap_length : Kind → (used : ℕ) → ℕ
bitmap_length Relocatable used = (used / 8 + 7) / 8
bitmap_length Fixed used = 0

-- how many bytes the file has, by its header
unfoldable pub file_length : List ℕ → ℕ
file_length bytes = 56 + number_at bytes 32 + bitmap_length (kind_of (number_at bytes 16)) (number_at bytes 32)

-- the marks that a bitmap has; no cell of a fixed image is marked
abbrev pub marks_in : Kind → (cells : ℕ) → (bitmap : List ℕ) → List Bool
marks_in Relocatable cells bitmap = bits bitmap cells
marks_in Fixed cells bitmap = replicate cells false

-- the record that the bytes of a whole file spell
unfoldable pub spelled : List ℕ → ImageRecord
spelled bytes = record {
  kind = kind_of (number_at bytes 16);
  size = number_at bytes 24;
  used = number_at bytes 32;
  pair = record { d = number_at bytes 40; k = number_at bytes 48 };
  cells = region_cells (number_at bytes 32 / 8) (drop 56 bytes);
  marks = marks_in (kind_of (number_at bytes 16)) (number_at bytes 32 / 8) (drop (number_at bytes 32) (drop 56 bytes));
}

-- what is allowed as a data base: 0, or that of an allowed pair
abbrev pub is_data_base : Kind → ℕ → Bool
is_data_base Relocatable d = d == 0
is_data_base Fixed d = d % 4096 == 0 && nat_le (2 ^ 32) d && nat_le d (2 ^ 46 - 2 ^ 32)

-- what is allowed as a code base: 0, or that of an allowed pair
abbrev pub is_code_base : Kind → ℕ → Bool
is_code_base Relocatable k = k == 0
is_code_base Fixed k = k % 4096 == 0 && nat_le (2 ^ 46) k && nat_le k (2 ^ 47 - 2 ^ 32)

-- is a cell allowed: any without a mark, and with one an offset from 0 to the size or -1 - t for one of the 120 tags t
abbrev pub is_cell : (size cell : ℕ) → (marked : Bool) → Bool
is_cell size cell marked = not marked || nat_le cell size || nat_le (2 ^ 64 - 120) cell

-- are the bits behind the last cell 0: the last byte of the bitmap has bits for the last cells alone
abbrev pub are_spare_bits_clear : (cells last : ℕ) → Bool
are_spare_bits_clear cells last = cells % 8 == 0 || nat_lt last (2 ^ (cells % 8))

-- a fault, where a part isn't allowed
abbrev pub unless : (allowed : Bool) → ImageFault → Option ImageFault
unless allowed fault = cond allowed None (Some fault)

-- a fault, or the next one where there is none
abbrev pub or_else : Option ImageFault → Option ImageFault → Option ImageFault
or_else (Some fault) next = Some fault
or_else None next = next

abbrev pub size_fault : (size : ℕ) → Option ImageFault
size_fault size = cond (nat_lt (2 ^ 23) size) (Some (TooLarge parts.Size size)) (unless (size % 4096 == 0 && nat_le (2 ^ 16) size) (NotImage 24 parts.Size))

abbrev pub used_fault : (size used : ℕ) → Option ImageFault
used_fault size used = cond (nat_lt size used) (Some (TooLarge parts.Used used)) (unless (used % 8 == 0 && nat_le 4096 used) (NotImage 32 parts.Used))

-- only a relocatable image has a bitmap, and what is said of it has the place of its last byte
abbrev pub bitmap_fault : Kind → (cells last place : ℕ) → Option ImageFault
bitmap_fault Relocatable cells last place = unless (are_spare_bits_clear cells last) (NotImage place parts.Bitmap)
bitmap_fault Fixed cells last place = None

-- the first cell that isn't allowed, by its place in the file
abbrev pub cells_fault : (size : ℕ) → (cells : List ℕ) → (marks : List Bool) → (place : ℕ) → Option ImageFault
cells_fault size [] marks place = None
cells_fault size (c ∷ cs) [] place = None
cells_fault size (c ∷ cs) (m ∷ ms) place = cond (is_cell size c m) (cells_fault size cs ms (place + 8)) (Some (NotImage place parts.Cells))

-- a part of a file: how many bytes a file has once all of the part are there, and what is wrong with it
pub record Row : Type 0 where
  pub there : ℕ
  pub fault : Option ImageFault

-- the parts behind the header; the last is what no file has, a byte behind its end
abbrev pub body_rows : List ℕ → List Row
body_rows bytes =
    let end : ℕ = file_length bytes in
    let r : ImageRecord = spelled bytes in
    record { there = end; fault = bitmap_fault (kind_of (number_at bytes 16)) (number_at bytes 32 / 8) (get_or bytes (end - 1) 0) (end - 1) }
    ∷ record { there = end; fault = cells_fault r.size r.cells r.marks 56 }
    ∷ record { there = end + 1; fault = Some (NotImage end parts.End) }
    ∷ []

-- the parts in the order in which they are judged
abbrev pub table : List ℕ → List Row
table bytes =
    let number : ℕ = number_at bytes 16 in
    let kind : Kind = kind_of number in
    record { there = 16; fault = unless (starts_with ◌==◌ bytes (codes "gforthmi image 1")) (NotImage 0 parts.Magic) }
    ∷ record { there = 24; fault = unless (number == 1 || number == 2) (NotImage 16 parts.Kind) }
    ∷ record { there = 32; fault = size_fault (number_at bytes 24) }
    ∷ record { there = 40; fault = used_fault (number_at bytes 24) (number_at bytes 32) }
    ∷ record { there = 48; fault = unless (is_data_base kind (number_at bytes 40)) (NotImage 40 parts.BaseD) }
    ∷ record { there = 56; fault = unless (is_code_base kind (number_at bytes 48)) (NotImage 48 parts.BaseK) }
    ∷ body_rows bytes

-- the first fault of the parts that are there, in so many bytes
abbrev pub first_fault : (count : ℕ) → List Row → Option ImageFault
first_fault count [] = None
first_fault count (row ∷ rows) = cond (nat_lt count row.there) None (or_else row.fault (first_fault count rows))

-- the first broken part of a file that begins with these bytes, of the parts whose bytes are all there
unfoldable pub first_broken : List ℕ → Option ImageFault
first_broken bytes = first_fault (length bytes) (table bytes)

-- the bytes are fewer than a file with this header has
abbrev pub ends_early : List ℕ → Bool
ends_early bytes = nat_lt (length bytes) 56 || nat_lt (length bytes) (file_length bytes)
