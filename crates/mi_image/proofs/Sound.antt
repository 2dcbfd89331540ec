-- Whole bytes of which no part is broken are those of the image that they spell.
use Rattle.std.proofs.Common.{◌≡◌, ◌≢◌, ◌⊎◌, inl, inr, ℕ, zero, suc, ◌+◌, ◌-◌, ◌*◌, ◌/◌, ◌%◌, ◌^◌, ◌<◌, ◌≤◌, Bool, true, false, cond, ◌==◌, ◌&&◌, ◌||◌, nat_lt, nat_le, Option, None, Some, List, [], ◌∷◌, ◌++◌, length, get_or, take, drop, replicate, All, refl, sym, ap, ◌∙◌, arith, append_assoc}
use Rattle.std.specs.Prelude.{codes}
use Rattle.std.specs.List.{starts_with}
use Rattle.std.proofs.lemmas.Bool.{cases_lt, ltb-true, ltb-false, leb-true, eqb-true, le-ltb, and_parts, or_cases, or_parts, or_from}
use Rattle.std.proofs.lemmas.Bool.Decides.{Decides-eqb}
use Rattle.std.proofs.lemmas.List.{take-append-drop, drop-drop, get_or-drop, length-drop, length-replicate}
use Rattle.std.proofs.lemmas.Slice.Eq.{starts_is}
use Rattle.std.proofs.lemmas.Grind.{get_or_default_zero}
use Rattle.std.proofs.Math.Nat.{div-eq_of_lt}
use Rattle.mi_model.specs.declared.Kind.{Kind}
use Rattle.mi_model.specs.declared.Kind.TheVariants.{Relocatable, Fixed}
use Rattle.mi_model.specs.Image.{IsImage, IsRegionSize, IsCell, IsMarkedCell, IsPairOf, image_bytes, eight_bytes, cells_bytes, bitmap_of, kind_number, region_cells}
use Rattle.mi_bitmap.specs.Bits.{bit, SpareAreClear}
use Rattle.mi_bitmap.proofs.Bits.{length-bits_from, packed_bytes, spare_low, past_end}
use Rattle.mi_image.specs.declared.fault.ImageFault.{ImageFault}
use Rattle.mi_image.specs.Grammar.{number_at, kind_of, bitmap_length, file_length, marks_in, spelled, is_data_base, is_code_base, is_cell, are_spare_bits_clear, unless, or_else, size_fault, used_fault, bitmap_fault, cells_fault, first_broken, ends_early}
use Rattle.mi_image.proofs.Numbers.{IsBytes, IsBytes-drop, eight-number_at, length-region_cells, region_cells-below}
use Rattle.mi_image.specs.Cells.{image_with}
use Rattle.mi_image.proofs.Whole.{same_record}
use Rattle.mi_image.proofs.Loads.{cells_bytes-region_cells}

unless_none : (allowed : Bool) (fault : ImageFault) → unless allowed fault ≡ None → allowed ≡ true
unless_none true fault h = refl
unless_none false fault h = absurd cc

no_fault : (broken : Bool) (fault : ImageFault) (next : Option ImageFault) → cond broken (Some fault) next ≡ None → (broken ≡ false) × (next ≡ None)
no_fault true fault next h = absurd cc
no_fault false fault next h = (refl, h)

pub next_none : (part next : Option ImageFault) → or_else part next ≡ None → (part ≡ None) × (next ≡ None)
next_none None next h = (refl, h)
next_none (Some f) next h = absurd cc

-- a part that is there, and those behind it, where none is broken
pub passes : (n there : ℕ) (part next : Option ImageFault) → there ≤ n → cond (nat_lt n there) None (or_else part next) ≡ None → (part ≡ None) × (next ≡ None)
passes n there part next le h = next_none part next (let e : or_else part next ≡ None = rw (le-ltb n there le) at h in e)

-- what is behind the last part isn't there
not_behind : (n there : ℕ) (fault : ImageFault) → cond (nat_lt n there) None (or_else (Some fault) None) ≡ None → n < there
not_behind n there fault h = at (cases_lt n there)
  where
    at : (n < there) ⊎ (there ≤ n) → n < there
    at (inl lt) = lt
    at (inr le) = let e = rw (le-ltb n there le) at h in absurd cc

-- ---- the header

kind_back : (n : ℕ) → (n == 1 || n == 2) ≡ true → kind_number (kind_of n) ≡ n
kind_back n h = at (or_cases (n == 1) (n == 2) h)
  where
    at : ((n == 1) ≡ true) ⊎ ((n == 2) ≡ true) → kind_number (kind_of n) ≡ n
    at (inl one) = let e = eqb-true n 1 one in rw e refl
    at (inr two) = let e = eqb-true n 2 two in rw e refl

pub size_is : (size : ℕ) → size_fault size ≡ None → IsRegionSize size
size_is size h =
    let p = no_fault (nat_lt (2 ^ 23) size) _ _ h in
    let q = and_parts (size % 4096 == 0) (nat_le (2 ^ 16) size) (unless_none _ _ p.1) in
    record { aligned = eqb-true (size % 4096) 0 q.0; least = leb-true (2 ^ 16) size q.1; most = ltb-false (2 ^ 23) size p.0 }

pub used_is : (size used : ℕ) → used_fault size used ≡ None → (used % 8 ≡ 0) × (4096 ≤ used) × (used ≤ size)
used_is size used h =
    let p = no_fault (nat_lt size used) _ _ h in
    let q = and_parts (used % 8 == 0) (nat_le 4096 used) (unless_none _ _ p.1) in
    (eqb-true (used % 8) 0 q.0, leb-true 4096 used q.1, ltb-false size used p.0)

pair_is : (kind : Kind) (d k : ℕ) → is_data_base kind d ≡ true → is_code_base kind k ≡ true → IsPairOf kind (record { d = d; k = k })
pair_is Relocatable d k hd hk = (eqb-true d 0 hd, eqb-true k 0 hk)
pair_is Fixed d k hd hk =
    let p = and_parts (d % 4096 == 0 && nat_le (2 ^ 32) d) (nat_le d (2 ^ 46 - 2 ^ 32)) hd in
    let q = and_parts (k % 4096 == 0 && nat_le (2 ^ 46) k) (nat_le k (2 ^ 47 - 2 ^ 32)) hk in
    let dp = and_parts (d % 4096 == 0) (nat_le (2 ^ 32) d) p.0 in
    let kp = and_parts (k % 4096 == 0) (nat_le (2 ^ 46) k) q.0 in
    record {
      d_aligned = eqb-true (d % 4096) 0 dp.0;
      k_aligned = eqb-true (k % 4096) 0 kp.0;
      d_least = leb-true (2 ^ 32) d dp.1;
      d_most = leb-true d (2 ^ 46 - 2 ^ 32) p.1;
      k_least = leb-true (2 ^ 46) k kp.1;
      k_most = leb-true k (2 ^ 47 - 2 ^ 32) q.1;
    }

-- ---- the bitmap

clear_from_last : (bitmap : List ℕ) (cells : ℕ) → length bitmap ≡ (cells + 7) / 8 → are_spare_bits_clear cells (get_or bitmap (length bitmap - 1) 0) ≡ true → SpareAreClear bitmap cells
clear_from_last bitmap cells size h = at (or_cases (cells % 8 == 0) (nat_lt (get_or bitmap (length bitmap - 1) 0) (2 ^ (cells % 8))) h)
  where
    low : get_or bitmap (length bitmap - 1) 0 / 2 ^ (cells % 8) ≡ 0 → cells % 8 ≢ 0 → SpareAreClear bitmap cells
    low e some = spare_low bitmap cells (get_or bitmap (length bitmap - 1) 0) size refl e some

    at : ((cells % 8 == 0) ≡ true) ⊎ (nat_lt (get_or bitmap (length bitmap - 1) 0) (2 ^ (cells % 8)) ≡ true) → SpareAreClear bitmap cells
    at (inl whole) = let e = eqb-true (cells % 8) 0 whole in λ i le. past_end bitmap i (omega arith)
    at (inr below) = λ i le. at_byte i le (cases_lt (i / 8) (length bitmap))
      where
        at_byte : (i : ℕ) → cells ≤ i → (i / 8 < length bitmap) ⊎ (length bitmap ≤ i / 8) → bit bitmap i ≡ false
        at_byte i le (inl within) = low (div-eq_of_lt (ltb-true (get_or bitmap (length bitmap - 1) 0) (2 ^ (cells % 8)) below)) (λ e. omega arith) i le
        at_byte i le (inr past) = past_end bitmap i past

bitmap_back : (kind : Kind) (used place : ℕ) (bitmap : List ℕ) → IsBytes bitmap → length bitmap ≡ bitmap_length kind used
    → bitmap_fault kind (used / 8) (get_or bitmap (length bitmap - 1) 0) place ≡ None → bitmap_of kind (marks_in kind (used / 8) bitmap) ≡ bitmap
bitmap_back Relocatable used place bitmap fits size h =
    packed_bytes bitmap (used / 8) (record { size = size; fits = fits; spare = clear_from_last bitmap (used / 8) size (unless_none _ _ h) })
bitmap_back Fixed used place [] fits size h = refl
bitmap_back Fixed used place (b ∷ bs) fits size h = absurd (omega arith)

length-marks_in : (kind : Kind) (n : ℕ) (bitmap : List ℕ) → length (marks_in kind n bitmap) ≡ n
length-marks_in Relocatable n bitmap = length-bits_from bitmap n 0
length-marks_in Fixed n bitmap = length-replicate n false

fixed_marks_in : (kind : Kind) (n : ℕ) (bitmap : List ℕ) → kind ≡ Fixed → marks_in kind n bitmap ≡ replicate n false
fixed_marks_in Relocatable n bitmap e = absurd cc
fixed_marks_in Fixed n bitmap e = refl

-- ---- the cells

cell_is : (size cell : ℕ) (marked : Bool) → cell < 2 ^ 64 → is_cell size cell marked ≡ true → IsCell size cell marked
cell_is size cell false below h = below
cell_is size cell true below h = at (or_cases (nat_le cell size) (nat_le (2 ^ 64 - 120) cell) h)
  where
    at : (nat_le cell size ≡ true) ⊎ (nat_le (2 ^ 64 - 120) cell ≡ true) → IsMarkedCell size cell
    at (inl offset) = inl (leb-true cell size offset)
    at (inr tag) = inr (leb-true (2 ^ 64 - 120) cell tag, below)

allowed_or : (allowed : Bool) (fault : ImageFault) (next : Option ImageFault) → cond allowed next (Some fault) ≡ None → (allowed ≡ true) × (next ≡ None)
allowed_or true fault next h = (refl, h)
allowed_or false fault next h = absurd cc

cells_are : (size : ℕ) (cells : List ℕ) (marks : List Bool) (place : ℕ) → length marks ≡ length cells → ((i : ℕ) → get_or cells i 0 < 2 ^ 64)
    → cells_fault size cells marks place ≡ None → (i : ℕ) → i < length cells → IsCell size (get_or cells i 0) (get_or marks i false)
cells_are size [] marks place count below h i lt = absurd (omega arith)
cells_are size (c ∷ cs) [] place count below h i lt = absurd (omega arith)
cells_are size (c ∷ cs) (m ∷ ms) place count below h zero lt = cell_is size c m (below 0) (allowed_or _ _ _ h).0
cells_are size (c ∷ cs) (m ∷ ms) place count below h (suc i) lt =
    cells_are size cs ms (place + 8) (omega arith) (λ k. below (suc k)) (allowed_or (is_cell size c m) _ _ h).1 i (omega arith)

-- ---- the whole

all_bytes : (bytes : List ℕ) → IsBytes bytes → All (λ b. b < 256) bytes
all_bytes bytes fits i d below = rw (get_or_default_zero bytes i d below) (fits i)

-- eight bytes, and those behind them
eight_and_rest : (place : ℕ) (bytes : List ℕ) → take 8 (drop place bytes) ++ drop (place + 8) bytes ≡ drop place bytes
eight_and_rest place bytes = ap (λ (xs : List ℕ). take 8 (drop place bytes) ++ xs) (sym (drop-drop 8 place bytes)) ∙ take-append-drop 8 (drop place bytes)

-- a part in front of what is behind it
in_front : (place : ℕ) (bytes part rest : List ℕ) → part ≡ take 8 (drop place bytes) → rest ≡ drop (place + 8) bytes → part ++ rest ≡ drop place bytes
in_front place bytes part rest e f = rw (e, f) (eight_and_rest place bytes)

regrouped : (m a b c d e body : List ℕ) → (m ++ a ++ b ++ c ++ d ++ e) ++ body ≡ m ++ (a ++ (b ++ (c ++ (d ++ (e ++ body)))))
regrouped m a b c d e body = simp append_assoc

in_order : (bytes m a b c d e body : List ℕ) → bytes ≡ m ++ drop 16 bytes → a ≡ take 8 (drop 16 bytes) → b ≡ take 8 (drop 24 bytes) → c ≡ take 8 (drop 32 bytes)
    → d ≡ take 8 (drop 40 bytes) → e ≡ take 8 (drop 48 bytes) → body ≡ drop 56 bytes → (m ++ a ++ b ++ c ++ d ++ e) ++ body ≡ bytes
in_order bytes m a b c d e body hm ha hb hc hd he h =
    regrouped m a b c d e body
    ∙ ap (λ (xs : List ℕ). m ++ xs)
    (in_front 16 bytes a (b ++ (c ++ (d ++ (e ++ body)))) ha
    (in_front 24 bytes b (c ++ (d ++ (e ++ body))) hb
    (in_front 32 bytes c (d ++ (e ++ body)) hc
    (in_front 40 bytes d (e ++ body) hd
    (in_front 48 bytes e body he h)))))
    ∙ sym hm

-- what is said of a file's bytes where no part is broken
pub record Judged (bytes : List ℕ) : Type 0 where
  pub magic : starts_with ◌==◌ bytes (codes "gforthmi image 1") ≡ true
  pub kind : (number_at bytes 16 == 1 || number_at bytes 16 == 2) ≡ true
  pub size : IsRegionSize (number_at bytes 24)
  pub used : (number_at bytes 32 % 8 ≡ 0) × (4096 ≤ number_at bytes 32) × (number_at bytes 32 ≤ number_at bytes 24)
  pub pair : IsPairOf (kind_of (number_at bytes 16)) (record { d = number_at bytes 40; k = number_at bytes 48 })
  pub bitmap : bitmap_fault (kind_of (number_at bytes 16)) (number_at bytes 32 / 8) (get_or bytes (file_length bytes - 1) 0) (file_length bytes - 1) ≡ None
  pub cells : cells_fault (spelled bytes).size (spelled bytes).cells (spelled bytes).marks 56 ≡ None
  pub length : length bytes ≡ file_length bytes

pub judged : (bytes : List ℕ) → 56 ≤ length bytes → file_length bytes ≤ length bytes → first_broken bytes ≡ None → Judged bytes
unfolding first_broken
judged bytes header whole h =
    let at_16 : 16 ≤ length bytes = omega arith in
    let at_24 : 24 ≤ length bytes = omega arith in
    let at_32 : 32 ≤ length bytes = omega arith in
    let at_40 : 40 ≤ length bytes = omega arith in
    let at_48 : 48 ≤ length bytes = omega arith in
    let magic = passes (length bytes) 16 _ _ at_16 h in
    let kind = passes (length bytes) 24 _ _ at_24 magic.1 in
    let size = passes (length bytes) 32 _ _ at_32 kind.1 in
    let used = passes (length bytes) 40 _ _ at_40 size.1 in
    let data_base = passes (length bytes) 48 _ _ at_48 used.1 in
    let code_base = passes (length bytes) 56 _ _ header data_base.1 in
    let bitmap = passes (length bytes) (file_length bytes) _ _ whole code_base.1 in
    let cells = passes (length bytes) (file_length bytes) _ _ whole bitmap.1 in
    let behind : length bytes < file_length bytes + 1 = not_behind (length bytes) (file_length bytes + 1) _ cells.1 in
    record {
      magic = unless_none _ _ magic.0;
      kind = unless_none _ _ kind.0;
      size = size_is (number_at bytes 24) size.0;
      used = used_is (number_at bytes 24) (number_at bytes 32) used.0;
      pair = pair_is (kind_of (number_at bytes 16)) (number_at bytes 40) (number_at bytes 48) (unless_none _ _ data_base.0) (unless_none _ _ code_base.0);
      bitmap = bitmap.0;
      cells = cells.0;
      length = omega arith;
    }

body_length : (bytes : List ℕ) → Judged bytes → length (drop 56 bytes) ≡ number_at bytes 32 + bitmap_length (kind_of (number_at bytes 16)) (number_at bytes 32)
unfolding file_length
body_length bytes j = let e = j.length in omega (arith, length-drop 56 bytes)

bitmap_length_is : (bytes : List ℕ) → Judged bytes → length (drop (number_at bytes 32) (drop 56 bytes)) ≡ bitmap_length (kind_of (number_at bytes 16)) (number_at bytes 32)
bitmap_length_is bytes j = let e = body_length bytes j in omega (arith, length-drop (number_at bytes 32) (drop 56 bytes))

spelled_is_image : (bytes : List ℕ) → IsBytes bytes → Judged bytes → IsImage (spelled bytes)
unfolding spelled
spelled_is_image bytes fits j =
    let kind : Kind = kind_of (number_at bytes 16) in
    let n : ℕ = number_at bytes 32 / 8 in
    let bitmap : List ℕ = drop (number_at bytes 32) (drop 56 bytes) in
    let body = body_length bytes j in
    let used = j.used in
    let count : length (region_cells n (drop 56 bytes)) ≡ n = length-region_cells n (drop 56 bytes) (omega (arith, used.0)) in
    let marks : length (marks_in kind n bitmap) ≡ n = length-marks_in kind n bitmap in
    record {
      size = j.size;
      used_aligned = used.0;
      used_least = used.1;
      used_most = used.2;
      pair = j.pair;
      cell_count = count;
      mark_count = marks;
      cells = λ i lt. cells_are (number_at bytes 24) (region_cells n (drop 56 bytes)) (marks_in kind n bitmap) 56 (marks ∙ sym count)
          (region_cells-below n (drop 56 bytes) (IsBytes-drop 56 bytes fits)) j.cells i (omega arith);
      fixed_marks = fixed_marks_in kind n bitmap;
    }

-- the last byte of the file is that of the bitmap
last_byte : (bytes : List ℕ) → Judged bytes → (kind : Kind) → kind_of (number_at bytes 16) ≡ kind → (place : ℕ)
    → bitmap_fault kind (number_at bytes 32 / 8) (get_or bytes (file_length bytes - 1) 0) place ≡ None
    → bitmap_fault kind (number_at bytes 32 / 8) (get_or (drop (number_at bytes 32) (drop 56 bytes)) (length (drop (number_at bytes 32) (drop 56 bytes)) - 1) 0) place ≡ None
last_byte bytes j Fixed e place h = refl
last_byte bytes j Relocatable e place h =
    let bitmap : List ℕ = drop (number_at bytes 32) (drop 56 bytes) in
    let some : length bitmap ≡ (number_at bytes 32 / 8 + 7) / 8 = bitmap_length_is bytes j ∙ ap (λ (k : Kind). bitmap_length k (number_at bytes 32)) e in
    let used = j.used in
    let whole = j.length in
    let place_is : 56 + (number_at bytes 32 + (length bitmap - 1)) ≡ file_length bytes - 1 = omega (arith, used.1, length-drop (number_at bytes 32) (drop 56 bytes), length-drop 56 bytes) in
    ap (λ (last : ℕ). bitmap_fault Relocatable (number_at bytes 32 / 8) last place)
    (get_or-drop (number_at bytes 32) (drop 56 bytes) (length bitmap - 1) 0
    ∙ get_or-drop 56 bytes (number_at bytes 32 + (length bitmap - 1)) 0
    ∙ ap (λ (i : ℕ). get_or bytes i 0) place_is)
    ∙ h

body_back : (bytes : List ℕ) → IsBytes bytes → Judged bytes
    → cells_bytes (region_cells (number_at bytes 32 / 8) (drop 56 bytes))
    ++ bitmap_of (kind_of (number_at bytes 16)) (marks_in (kind_of (number_at bytes 16)) (number_at bytes 32 / 8) (drop (number_at bytes 32) (drop 56 bytes))) ≡ drop 56 bytes
body_back bytes fits j =
    let kind : Kind = kind_of (number_at bytes 16) in
    let used : ℕ = number_at bytes 32 in
    let body : List ℕ = drop 56 bytes in
    let aligned : 8 * (used / 8) ≡ used = let u = j.used.0 in omega arith in
    let long = body_length bytes j in
    let cells : cells_bytes (region_cells (used / 8) body) ≡ take used body =
    cells_bytes-region_cells (used / 8) body (all_bytes body (IsBytes-drop 56 bytes fits)) (omega arith) ∙ ap (λ (n : ℕ). take n body) aligned in
    let marks : bitmap_of kind (marks_in kind (used / 8) (drop used body)) ≡ drop used body =
    bitmap_back kind used (file_length bytes - 1) (drop used body) (IsBytes-drop used body (IsBytes-drop 56 bytes fits)) (bitmap_length_is bytes j)
    (last_byte bytes j kind refl (file_length bytes - 1) j.bitmap) in
    ap (λ (xs : List ℕ). xs ++ bitmap_of kind (marks_in kind (used / 8) (drop used body))) cells
    ∙ ap (λ (xs : List ℕ). take used body ++ xs) marks
    ∙ take-append-drop used body

bytes_back : (bytes : List ℕ) → IsBytes bytes → 56 ≤ length bytes → Judged bytes → image_bytes (spelled bytes) ≡ bytes
unfolding image_bytes spelled
bytes_back bytes fits header j =
    in_order bytes (codes "gforthmi image 1")
    (eight_bytes (kind_number (kind_of (number_at bytes 16)))) (eight_bytes (number_at bytes 24)) (eight_bytes (number_at bytes 32)) (eight_bytes (number_at bytes 40)) (eight_bytes (number_at bytes 48))
    (cells_bytes (region_cells (number_at bytes 32 / 8) (drop 56 bytes))
    ++ bitmap_of (kind_of (number_at bytes 16)) (marks_in (kind_of (number_at bytes 16)) (number_at bytes 32 / 8) (drop (number_at bytes 32) (drop 56 bytes))))
    ((starts_is Decides-eqb bytes (codes "gforthmi image 1") (starts_with ◌==◌ bytes (codes "gforthmi image 1")) refl).0 j.magic)
    (ap eight_bytes (kind_back (number_at bytes 16) j.kind) ∙ eight-number_at bytes 16 fits (omega arith))
    (eight-number_at bytes 24 fits (omega arith)) (eight-number_at bytes 32 fits (omega arith)) (eight-number_at bytes 40 fits (omega arith)) (eight-number_at bytes 48 fits (omega arith))
    (body_back bytes fits j)

-- whole bytes of which no part is broken spell an image, and are its bytes
pub whole_is_image : (bytes : List ℕ) → IsBytes bytes → first_broken bytes ≡ None → ends_early bytes ≡ false → IsImage (spelled bytes) × (image_bytes (spelled bytes) ≡ bytes)
whole_is_image bytes fits none whole =
    let p = or_parts (nat_lt (length bytes) 56) (nat_lt (length bytes) (file_length bytes)) whole in
    let header : 56 ≤ length bytes = ltb-false (length bytes) 56 p.0 in
    let j = judged bytes header (ltb-false (length bytes) (file_length bytes) p.1) none in
    (spelled_is_image bytes fits j, bytes_back bytes fits header j)

-- ---- before the end

-- what is said of used where it has been judged and isn't broken
pub record UsedAllowed (bytes : List ℕ) : Type 0 where
  pub size : IsRegionSize (number_at bytes 24)
  pub used : (number_at bytes 32 % 8 ≡ 0) × (4096 ≤ number_at bytes 32) × (number_at bytes 32 ≤ number_at bytes 24)

pub used_allowed : (bytes : List ℕ) → 40 ≤ length bytes → first_broken bytes ≡ None → UsedAllowed bytes
unfolding first_broken
used_allowed bytes at_40 h =
    let at_16 : 16 ≤ length bytes = omega arith in
    let at_24 : 24 ≤ length bytes = omega arith in
    let at_32 : 32 ≤ length bytes = omega arith in
    let magic = passes (length bytes) 16 _ _ at_16 h in
    let kind = passes (length bytes) 24 _ _ at_24 magic.1 in
    let size = passes (length bytes) 32 _ _ at_32 kind.1 in
    let used = passes (length bytes) 40 _ _ at_40 size.1 in
    record { size = size_is (number_at bytes 24) size.0; used = used_is (number_at bytes 24) (number_at bytes 32) used.0 }

pub header_within : (bytes : List ℕ) → 56 ≤ file_length bytes
unfolding file_length
header_within bytes = omega arith

-- where no part is broken, nothing stands behind the end
pub within_file : (bytes : List ℕ) → first_broken bytes ≡ None → length bytes ≤ file_length bytes
within_file bytes none = at (cases_lt (file_length bytes) (length bytes))
  where
    at : (file_length bytes < length bytes) ⊎ (length bytes ≤ file_length bytes) → length bytes ≤ file_length bytes
    at (inl long) = let j = judged bytes (omega (arith, header_within bytes)) (omega arith) none in omega (arith, j.length)
    at (inr le) = le

-- ---- the parts of the image

pub parts_spelled : (bytes : List ℕ) (kind : Kind) (size used d k : ℕ) (cells : List ℕ) (marks : List Bool)
    → kind ≡ kind_of (number_at bytes 16) → size ≡ number_at bytes 24 → used ≡ number_at bytes 32 → d ≡ number_at bytes 40 → k ≡ number_at bytes 48
    → cells ≡ region_cells (number_at bytes 32 / 8) (drop 56 bytes)
    → marks ≡ marks_in (kind_of (number_at bytes 16)) (number_at bytes 32 / 8) (drop (number_at bytes 32) (drop 56 bytes))
    → image_with kind size used (record { d = d; k = k }) cells marks ≡ spelled bytes
unfolding spelled
parts_spelled bytes kind size used d k cells marks e0 e1 e2 e3 e4 e5 e6 = same_record (spelled bytes) kind size used d k cells marks e0 e1 e2 e3 e4 e5 e6

-- the whole of a file is there
pub not_early : (bytes : List ℕ) → file_length bytes ≤ length bytes → ends_early bytes ≡ false
not_early bytes whole =
    or_from _ _ (le-ltb (length bytes) 56 (omega (arith, header_within bytes))) (le-ltb (length bytes) (file_length bytes) whole)

pub body_within : (bytes : List ℕ) → file_length bytes ≤ length bytes → number_at bytes 32 ≤ length (drop 56 bytes)
unfolding file_length
body_within bytes whole = omega (arith, length-drop 56 bytes)
