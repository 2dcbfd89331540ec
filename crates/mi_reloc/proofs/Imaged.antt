-- The image of a region of origin bytes: how it is made cell by cell, and what it is loaded as.
use Rattle.std.proofs.Common.{◌≡◌, ℕ, zero, suc, ◌+◌, ◌-◌, ◌*◌, ◌/◌, ◌%◌, ◌^◌, ◌<◌, ◌≤◌, Bool, true, false, List, [], ◌∷◌, ◌++◌, length, get_or, take, drop, replicate, Option, None, Some, Result, Ok, Err, refl, ap, sym, subst, ◌∙◌, arith, append_assoc, length-drop}
use Rattle.std.specs.Prelude.{map}
use Rattle.std.proofs.Math.ListN.{set}
use Rattle.std.proofs.Math.Seq.{set-append_seam, drop-cons}
use Rattle.std.proofs.lemmas.List.{append-nil, map-set, take-append-drop}
use Rattle.mi_model.specs.declared.Pair.{Pair}
use Rattle.mi_model.specs.declared.Form.{Form}
use Rattle.mi_model.specs.declared.Found.{Found}
use Rattle.mi_model.specs.declared.Found.TheVariants.{Form as AForm, Mixed}
use Rattle.mi_model.specs.declared.Fault.{Fault}
use Rattle.mi_model.specs.declared.Refusal.{Refusal}
use Rattle.mi_model.specs.declared.OriginByte.{OriginByte}
use Rattle.mi_model.specs.declared.Kind.TheVariants.{Relocatable}
use Rattle.mi_model.specs.Machine.{asked}
use Rattle.mi_model.specs.Pairs.{IsAllowedPair}
use Rattle.mi_model.specs.Plain.{plain_ops, listed}
use Rattle.mi_model.specs.Region.{eight_from, fetch_at}
use Rattle.mi_model.specs.Image.{ImageRecord, eight_bytes, cells_bytes, loaded_cell, loaded_cells, loaded}
use Rattle.mi_model.specs.Stands.{Each}
use Rattle.mi_model.specs.Forms.{value_at, IsNormal, IsSize}
use Rattle.mi_model.specs.OriginOps.{origin_ops, FormStands, ByteStands}
use Rattle.mi_model.specs.Explained.{ImageCell, image_cell, or_found, cell_found, cell_found_at, UnexplainedCell, or_else, or_zero, unexplained_from, first_unexplained, image_cells, image_of}
use Rattle.mi_model.proofs.Each.{each_length}
use Rattle.mi_image.specs.Cells.{blank_image, with_cell}
use Rattle.mi_reloc.specs.Cells.{Makes, with_found}
use Rattle.mi_reloc.proofs.Explained.{cell_value}
use Rattle.mi_reloc.proofs.Joined.{joined_value, joined_bytes, eight_stand}

-- a cell that no mark has
abbrev blank : ImageCell
blank = record { cell = 0; marked = false }

abbrev pub number_of : ImageCell → ℕ
number_of c = c.cell

abbrev pub mark_of : ImageCell → Bool
mark_of c = c.marked

-- a relocatable image with these cells
abbrev pub with_cells : (size used : ℕ) → List ImageCell → ImageRecord
with_cells size used cs = record {
  kind = Relocatable;
  size = size;
  used = used;
  pair = record { d = 0; k = 0 };
  cells = map number_of cs;
  marks = map mark_of cs;
}

-- the image of which i cells are those of the region, and the others 0
abbrev pub begun_image : (size : ℕ) → List OriginByte → (used i : ℕ) → ImageRecord
begun_image size bytes used i = with_cells size used (image_cells size bytes i 0 ++ replicate (used / 8 - i) blank)

count_of : (size : ℕ) (bytes : List OriginByte) (n o : ℕ) → length (image_cells size bytes n o) ≡ n
count_of size bytes zero o = refl
count_of size bytes (suc n) o = ap suc (count_of size bytes n (o + 8))

-- one cell more
cell_more : (size : ℕ) (bytes : List OriginByte) (n o p : ℕ) → p ≡ o + 8 * n → image_cells size bytes (n + 1) o ≡ image_cells size bytes n o ++ or_zero (cell_found_at size bytes p) ∷ []
cell_more size bytes zero o p e = let same : o ≡ p = omega arith in ap (λ (k : ℕ). or_zero (cell_found_at size bytes k) ∷ []) same
cell_more size bytes (suc n) o p e =
    let next : suc n + 1 ≡ suc (n + 1) = omega arith in
    ap (λ (k : ℕ). image_cells size bytes k o) next
    ∙ ap (λ (cs : List ImageCell). or_zero (cell_found_at size bytes o) ∷ cs) (cell_more size bytes n (o + 8) p (omega arith))

cells_next : (size : ℕ) (bytes : List OriginByte) (n i : ℕ) (c : ImageCell) → i < n → cell_found_at size bytes (8 * i) ≡ Ok c
    → set (image_cells size bytes i 0 ++ replicate (n - i) blank) i c ≡ image_cells size bytes (i + 1) 0 ++ replicate (n - (i + 1)) blank
cells_next size bytes n i c below is =
    let e : n - i ≡ suc (n - (i + 1)) = omega arith in
    let left : List ImageCell = replicate (n - (i + 1)) blank in
    let front : List ImageCell = image_cells size bytes i 0 in
    let count : length front ≡ i = count_of size bytes i 0 in
    let more : image_cells size bytes (i + 1) 0 ≡ front ++ c ∷ [] =
    cell_more size bytes i 0 (8 * i) (omega arith) ∙ ap (λ (r : Result ImageCell Found). front ++ or_zero r ∷ []) is in
    let written : set (front ++ blank ∷ left) i c ≡ front ++ c ∷ left =
    subst (λ (k : ℕ). set (front ++ blank ∷ left) k c ≡ front ++ c ∷ left) count (set-append_seam front blank left c) in
    ap (λ (k : ℕ). set (front ++ replicate k blank) i c) e ∙ written
    ∙ sym (append_assoc front (c ∷ []) left)
    ∙ ap (λ (cs : List ImageCell). cs ++ left) (sym more)

same_with_cells : (size used : ℕ) (cells : List ℕ) (marks : List Bool) (cs : List ImageCell) → cells ≡ map number_of cs → marks ≡ map mark_of cs
    → record { kind = Relocatable; size = size; used = used; pair = record { d = 0; k = 0 }; cells = cells; marks = marks } ≡ with_cells size used cs
same_with_cells size used cells marks cs e f = rw (e, f) refl

-- a cell that is found is set
begun_next : (size : ℕ) (bytes : List OriginByte) (used i : ℕ) (c : ImageCell) → i < used / 8 → cell_found_at size bytes (8 * i) ≡ Ok c
    → with_cell (begun_image size bytes used i) i c.cell c.marked ≡ begun_image size bytes used (i + 1)
begun_next size bytes used i c below is =
    let before : List ImageCell = image_cells size bytes i 0 ++ replicate (used / 8 - i) blank in
    same_with_cells size used (set (map number_of before) i c.cell) (set (map mark_of before) i c.marked) (set before i c)
    (sym (map-set number_of before i c)) (sym (map-set mark_of before i c))
    ∙ ap (λ (cs : List ImageCell). with_cells size used cs) (cells_next size bytes (used / 8) i c below is)

made : (r : ImageRecord) (i : ℕ) (found : Result ImageCell Found) (new : ImageRecord) → with_found r i found ≡ Ok new
    → (c : ImageCell) × (found ≡ Ok c) × (with_cell r i c.cell c.marked ≡ new)
made r i (Ok c) new e = (c, refl, cc)
made r i (Err found) new e = absurd (cc)

pub made_next : (size : ℕ) (bytes : List OriginByte) (used i : ℕ) (old new : ImageRecord) → i < used / 8 → old ≡ begun_image size bytes used i
    → with_found old i (cell_found_at size bytes (8 * i)) ≡ Ok new → new ≡ begun_image size bytes used (i + 1)
made_next size bytes used i old new below was is =
    let m = made old i (cell_found_at size bytes (8 * i)) new is in
    sym m.2 ∙ ap (λ (r : ImageRecord). with_cell r i m.0.cell m.0.marked) was ∙ begun_next size bytes used i m.0 below m.1

-- all cells are set
pub begun_all : (size : ℕ) (bytes : List OriginByte) (used i : ℕ) → i ≡ used / 8 → begun_image size bytes used i ≡ image_of size bytes used
unfolding image_of
begun_all size bytes used i e =
    let none : used / 8 - i ≡ 0 = omega arith in
    ap (λ (k : ℕ). with_cells size used (image_cells size bytes i 0 ++ replicate k blank)) none
    ∙ ap (λ (cs : List ImageCell). with_cells size used cs) (append-nil (image_cells size bytes i 0))
    ∙ ap (λ (k : ℕ). with_cells size used (image_cells size bytes k 0)) e

-- ---- the first cell that isn't explained

-- where a cell is found the first one is behind it
pub found_next : (size : ℕ) (bytes : List OriginByte) (used i : ℕ) (old new : ImageRecord) → i < used / 8
    → first_unexplained size bytes used ≡ unexplained_from size bytes (used / 8 - i) (8 * i)
    → with_found old i (cell_found_at size bytes (8 * i)) ≡ Ok new
    → first_unexplained size bytes used ≡ unexplained_from size bytes (used / 8 - (i + 1)) (8 * (i + 1))
found_next size bytes used i old new below so_far is =
    let m = made old i (cell_found_at size bytes (8 * i)) new is in
    let count : used / 8 - i ≡ suc (used / 8 - (i + 1)) = omega arith in
    let next : 8 * i + 8 ≡ 8 * (i + 1) = omega arith in
    so_far
    ∙ ap (λ (k : ℕ). unexplained_from size bytes k (8 * i)) count
    ∙ ap (λ (r : Result ImageCell Found). or_else (8 * i) r (unexplained_from size bytes (used / 8 - (i + 1)) (8 * i + 8))) m.1
    ∙ ap (λ (o : ℕ). unexplained_from size bytes (used / 8 - (i + 1)) o) next

pub refused : (r : ImageRecord) (i : ℕ) (told : Result ImageCell Found) (found : Found) → with_found r i told ≡ Err found → told ≡ Err found
refused r i (Ok c) found e = absurd (cc)
refused r i (Err other) found e = cc

-- and where it isn't, it is the first one
pub found_here : (size : ℕ) (bytes : List OriginByte) (used i : ℕ) (old : ImageRecord) (found : Found) → i < used / 8
    → first_unexplained size bytes used ≡ unexplained_from size bytes (used / 8 - i) (8 * i)
    → with_found old i (cell_found_at size bytes (8 * i)) ≡ Err found
    → first_unexplained size bytes used ≡ Some (record { offset = 8 * i; found = found })
found_here size bytes used i old found below so_far is =
    let count : used / 8 - i ≡ suc (used / 8 - (i + 1)) = omega arith in
    so_far
    ∙ ap (λ (k : ℕ). unexplained_from size bytes k (8 * i)) count
    ∙ ap (λ (r : Result ImageCell Found). or_else (8 * i) r (unexplained_from size bytes (used / 8 - (i + 1)) (8 * i + 8))) (refused old i _ found is)

pub none_yet : (size : ℕ) (bytes : List OriginByte) (used : ℕ) → first_unexplained size bytes used ≡ unexplained_from size bytes (used / 8 - 0) (8 * 0)
unfolding first_unexplained
none_yet size bytes used = let e : used / 8 ≡ used / 8 - 0 = omega arith in ap (λ (k : ℕ). unexplained_from size bytes k 0) e

pub none_left : (size : ℕ) (bytes : List OriginByte) (used i : ℕ) → i ≡ used / 8
    → first_unexplained size bytes used ≡ unexplained_from size bytes (used / 8 - i) (8 * i) → first_unexplained size bytes used ≡ None
none_left size bytes used i e h = let none : used / 8 - i ≡ 0 = omega arith in h ∙ ap (λ (k : ℕ). unexplained_from size bytes k (8 * i)) none

-- ---- what a fetch says of a cell

pub fetched : (size : ℕ) (bytes : List OriginByte) (o : ℕ) (x : Form) → fetch_at (origin_ops size) bytes o ≡ Ok x → cell_found_at size bytes o ≡ or_found x (image_cell size x)
unfolding fetch_at
fetched size bytes o x is = by_join ((origin_ops size).join (eight_from (origin_ops size) bytes o)) is
  where
    by_join : (r : Result Form Refusal) → asked r ≡ Ok x → cell_found size r ≡ or_found x (image_cell size x)
    by_join (Ok y) e = let same : y ≡ x = cc in ap (λ (z : Form). or_found z (image_cell size z)) same
    by_join (Err f) e = absurd (cc)

pub not_fetched : (size : ℕ) (bytes : List OriginByte) (o : ℕ) (f : Fault) → fetch_at (origin_ops size) bytes o ≡ Err f → cell_found_at size bytes o ≡ Err Mixed
unfolding fetch_at
not_fetched size bytes o f is = by_join ((origin_ops size).join (eight_from (origin_ops size) bytes o)) is
  where
    by_join : (r : Result Form Refusal) → asked r ≡ Err f → cell_found size r ≡ Err Mixed
    by_join (Ok y) e = absurd (cc)
    by_join (Err g) e = refl

-- ---- what the image is loaded as

-- the form of a cell that is found
record IsFoundAs (size : ℕ) (r : Result Form Refusal) (c : ImageCell) : Type 0 where
  form : Form
  made_of : r ≡ Ok form
  explained : image_cell size form ≡ Some c

found_as : (size : ℕ) (r : Result Form Refusal) (c : ImageCell) → cell_found size r ≡ Ok c → IsFoundAs size r c
found_as size (Ok x) c e = record { form = x; made_of = refl; explained = by_cell (image_cell size x) e }
  where
    by_cell : (o : Option ImageCell) → or_found x o ≡ Ok c → o ≡ Some c
    by_cell (Some d) e = cc
    by_cell None e = absurd (cc)
found_as size (Err f) c e = absurd (cc)

-- a cell that is found is loaded as the bytes there
cell_loaded : (size : ℕ) (pair : Pair) (bytes : List OriginByte) (plain : List ℕ) (o : ℕ) (c : ImageCell) → IsSize size → IsAllowedPair pair
    → Each (ByteStands pair) bytes plain → cell_found_at size bytes o ≡ Ok c
    → eight_bytes (loaded_cell pair c.cell c.marked) ≡ listed (eight_from (plain_ops pair size) plain o)
cell_loaded size pair bytes plain o c fits allowed h is =
    let b = eight_from (origin_ops size) bytes o in
    let found = found_as size ((origin_ops size).join b) c is in
    let stand = eight_stand size pair bytes plain o h in
    let normal_form = (joined_value size b _ found.form pair stand found.made_of).normal_form in
    ap (λ (n : ℕ). eight_bytes n) (cell_value size found.form pair c normal_form.c fits allowed found.explained)
    ∙ joined_bytes size b _ found.form pair stand found.made_of

next_byte : (xs : List ℕ) (n o p : ℕ) → o < length xs → p ≡ o + 1 → take (suc n) (drop o xs) ≡ get_or xs o 0 ∷ take n (drop p xs)
next_byte xs n o p below e =
    let same : suc o ≡ p = omega arith in
    ap (λ (ys : List ℕ). take (suc n) ys) (drop-cons xs o 0 below) ∙ ap (λ (k : ℕ). get_or xs o 0 ∷ take n (drop k xs)) same

eight_bytes_next : (xs : List ℕ) (n o : ℕ) → o + 8 ≤ length xs
    → take (suc (suc (suc (suc (suc (suc (suc (suc n)))))))) (drop o xs)
    ≡ get_or xs o 0 ∷ get_or xs (o + 1) 0 ∷ get_or xs (o + 2) 0 ∷ get_or xs (o + 3) 0 ∷ get_or xs (o + 4) 0 ∷ get_or xs (o + 5) 0 ∷ get_or xs (o + 6) 0 ∷ get_or xs (o + 7) 0 ∷ take n (drop (o + 8) xs)
eight_bytes_next xs n o below =
    let e0 = next_byte xs (suc (suc (suc (suc (suc (suc (suc n))))))) o (o + 1) (omega arith) (omega arith) in
    let e1 = next_byte xs (suc (suc (suc (suc (suc (suc n)))))) (o + 1) (o + 2) (omega arith) (omega arith) in
    let e2 = next_byte xs (suc (suc (suc (suc (suc n))))) (o + 2) (o + 3) (omega arith) (omega arith) in
    let e3 = next_byte xs (suc (suc (suc (suc n)))) (o + 3) (o + 4) (omega arith) (omega arith) in
    let e4 = next_byte xs (suc (suc (suc n))) (o + 4) (o + 5) (omega arith) (omega arith) in
    let e5 = next_byte xs (suc (suc n)) (o + 5) (o + 6) (omega arith) (omega arith) in
    let e6 = next_byte xs (suc n) (o + 6) (o + 7) (omega arith) (omega arith) in
    let e7 = next_byte xs n (o + 7) (o + 8) (omega arith) (omega arith) in
    cc

eight_next : (pair : Pair) (size : ℕ) (xs : List ℕ) (n o : ℕ) → o + 8 ≤ length xs
    → take (suc (suc (suc (suc (suc (suc (suc (suc n)))))))) (drop o xs) ≡ listed (eight_from (plain_ops pair size) xs o) ++ take n (drop (o + 8) xs)
unfolding plain_ops
eight_next pair size xs n o below = eight_bytes_next xs n o below

-- the first of these cells is found, and the others are explained
record IsNext (size : ℕ) (bytes : List OriginByte) (n o : ℕ) : Type 0 where
  here : ImageCell
  found : cell_found_at size bytes o ≡ Ok here
  others : unexplained_from size bytes n (o + 8) ≡ None

is_next : (size : ℕ) (bytes : List OriginByte) (n o : ℕ) → unexplained_from size bytes (suc n) o ≡ None → IsNext size bytes n o
is_next size bytes n o e = by_cell (cell_found_at size bytes o) refl e
  where
    by_cell : (r : Result ImageCell Found) → cell_found_at size bytes o ≡ r → or_else o r (unexplained_from size bytes n (o + 8)) ≡ None → IsNext size bytes n o
    by_cell (Ok c) is f = record { here = c; found = is; others = f }
    by_cell (Err found) is f = absurd (cc)

cells_loaded : (size : ℕ) (pair : Pair) (bytes : List OriginByte) (plain : List ℕ) (n o : ℕ) → IsSize size → IsAllowedPair pair
    → Each (ByteStands pair) bytes plain → o + 8 * n ≤ length plain → unexplained_from size bytes n o ≡ None
    → cells_bytes (loaded_cells pair (map number_of (image_cells size bytes n o)) (map mark_of (image_cells size bytes n o))) ≡ take (8 * n) (drop o plain)
cells_loaded size pair bytes plain zero o fits allowed h enough none = refl
cells_loaded size pair bytes plain (suc n) o fits allowed h enough none =
    let next = is_next size bytes n o none in
    let rest : List ImageCell = image_cells size bytes n (o + 8) in
    let more = cells_loaded size pair bytes plain n (o + 8) fits allowed h (omega arith) next.others in
    let count : 8 * suc n ≡ suc (suc (suc (suc (suc (suc (suc (suc (8 * n)))))))) = omega arith in
    ap (λ (r : Result ImageCell Found). eight_bytes (loaded_cell pair (or_zero r).cell (or_zero r).marked) ++ cells_bytes (loaded_cells pair (map number_of rest) (map mark_of rest))) next.found
    ∙ ap (λ (xs : List ℕ). xs ++ cells_bytes (loaded_cells pair (map number_of rest) (map mark_of rest))) (cell_loaded size pair bytes plain o next.here fits allowed h next.found)
    ∙ ap (λ (xs : List ℕ). listed (eight_from (plain_ops pair size) plain o) ++ xs) more
    ∙ sym (eight_next pair size plain (8 * n) o (omega arith))
    ∙ ap (λ (k : ℕ). take k (drop o plain)) (sym count)

-- the image of a region is loaded as the plain region that it stands for
pub image_loaded : (size : ℕ) (bytes : List OriginByte) (used : ℕ) (image : ImageRecord) (pair : Pair) (plain : List ℕ) → IsSize size → IsAllowedPair pair
    → length bytes ≡ size → used ≤ size → used % 8 ≡ 0 → image ≡ image_of size bytes used → first_unexplained size bytes used ≡ None
    → Each (ByteStands pair) bytes plain → drop used plain ≡ replicate (length plain - used) 0 → loaded image pair ≡ plain
unfolding image_of loaded first_unexplained
image_loaded size bytes used image pair plain fits allowed whole within aligned is none h zeros =
    let count : 8 * (used / 8) ≡ used = omega arith in
    let same : length plain ≡ size = sym (each_length h) ∙ whole in
    let cells : List ImageCell = image_cells size bytes (used / 8) 0 in
    ap (λ (r : ImageRecord). loaded r pair) is
    ∙ ap (λ (xs : List ℕ). xs ++ replicate (size - used) 0) (cells_loaded size pair bytes plain (used / 8) 0 fits allowed h (omega arith) none)
    ∙ ap (λ (k : ℕ). take k plain ++ replicate (size - used) 0) count
    ∙ ap (λ (k : ℕ). take used plain ++ replicate (k - used) 0) (sym same)
    ∙ ap (λ (xs : List ℕ). take used plain ++ xs) (sym zeros)
    ∙ take-append-drop used plain

-- ---- before the first cell

blanks : {A : Type 0} (f : ImageCell → A) (n : ℕ) → replicate n (f blank) ≡ map f (replicate n blank)
blanks f zero = refl
blanks f (suc n) = ap (λ xs. f blank ∷ xs) (blanks f n)

pub begun_none : (size : ℕ) (bytes : List OriginByte) (used : ℕ) → blank_image Relocatable size used (record { d = 0; k = 0 }) ≡ begun_image size bytes used 0
begun_none size bytes used =
    let e : used / 8 ≡ used / 8 - 0 = omega arith in
    same_with_cells size used (replicate (used / 8) 0) (replicate (used / 8) false) (replicate (used / 8) blank) (blanks number_of (used / 8)) (blanks mark_of (used / 8))
    ∙ ap (λ (k : ℕ). with_cells size used (replicate k blank)) e
