-- Where a form stands that no cell gives, no image is loaded as that region at each pair.
use Rattle.std.proofs.Common.{◌≡◌, ℕ, zero, suc, ◌+◌, ◌-◌, ◌*◌, ◌/◌, ◌%◌, ◌^◌, ◌<◌, ◌≤◌, Bool, false, List, [], ◌∷◌, ◌++◌, length, get_or, replicate, Option, None, Some, Result, Ok, Err, refl, ap, sym, subst, ◌∙◌, arith, rules, inl, inr}
use Rattle.std.specs.Int.{w64, from_le_bytes}
use Rattle.std.proofs.lemmas.Bool.{cases_lt}
use Rattle.std.proofs.lemmas.List.{get_or_past}
use Rattle.mi_model.specs.declared.Pair.{Pair}
use Rattle.mi_model.specs.declared.Form.{Form}
use Rattle.mi_model.specs.declared.Found.{Found}
use Rattle.mi_model.specs.declared.Found.TheVariants.{Form as AForm, Mixed}
use Rattle.mi_model.specs.declared.Refusal.{Refusal}
use Rattle.mi_model.specs.declared.OriginByte.{OriginByte}
use Rattle.mi_model.specs.Pairs.{IsAllowedPair, first_pair}
use Rattle.mi_model.specs.Plain.{plain_ops, listed}
use Rattle.mi_model.specs.Region.{eight_from}
use Rattle.mi_model.specs.Image.{ImageRecord, IsImage, eight_bytes, cells_bytes, loaded_cell, loaded_cells, loaded}
use Rattle.mi_model.specs.Stands.{Each}
use Rattle.mi_model.specs.Forms.{value_at, plain_form, IsNormal, IsSize}
use Rattle.mi_model.specs.OriginOps.{origin_ops, FormStands, ByteStands}
use Rattle.mi_model.specs.Explained.{ImageCell, image_cell, or_found, cell_found, cell_found_at, cell_form}
use Rattle.mi_model.proofs.Each.{each_length}
use Rattle.mi_form.proofs.Told.{told_by_values}
use Rattle.mi_form.proofs.Low.{plain_value, plain_is_normal}
use Rattle.mi_form.proofs.Combined.{value_below}
use Rattle.mi_image.proofs.Numbers.{number_again}
use Rattle.mi_reloc.specs.Cells.{cell_from}
use Rattle.mi_reloc.proofs.Begun.{cell_behind}
use Rattle.mi_reloc.proofs.Explained.{form_cell, form_normal, form_value}
use Rattle.mi_reloc.proofs.Joined.{joined_value, eight_stand}
use Rattle.mi_reloc.proofs.Loaded.{length-loaded_cells, get_or-loaded_cells, in_part, in_part-all, length-in_part}

-- a form that no cell gives
record IsNoCell (size : ℕ) (r : Result Form Refusal) (x : Form) : Type 0 where
  made_of : r ≡ Ok x
  none : image_cell size x ≡ None

no_cell_found : (size : ℕ) (r : Result Form Refusal) (x : Form) → cell_found size r ≡ Err (AForm x) → IsNoCell size r x
no_cell_found size (Ok y) x e = by_cell (image_cell size y) refl e
  where
    by_cell : (o : Option ImageCell) → image_cell size y ≡ o → or_found y o ≡ Err (AForm x) → IsNoCell size (Ok y) x
    by_cell (Some c) is e = absurd (cc)
    by_cell None is e = let same : y ≡ x = cc in subst (λ (z : Form). IsNoCell size (Ok y) z) same (record { made_of = refl; none = is })
no_cell_found size (Err f) x e = absurd (cc)

zero_at : (n k : ℕ) → get_or {A = ℕ} (replicate n 0) k 0 ≡ 0
zero_at zero k = refl
zero_at (suc n) zero = refl
zero_at (suc n) (suc k) = zero_at n k

zeros_read : (n o : ℕ) → cell_from (replicate n 0) o ≡ 0
zeros_read n o = rw (zero_at n o, zero_at n (o + 1), zero_at n (o + 2), zero_at n (o + 3), zero_at n (o + 4), zero_at n (o + 5), zero_at n (o + 6), zero_at n (o + 7)) refl

-- eight bytes more in front
behind_number : (c : ℕ) (rest : List ℕ) (o p : ℕ) → p ≡ 8 + o → cell_from rest o ≡ cell_from (eight_bytes c ++ rest) p
behind_number c rest o p e = cell_behind _ _ _ _ _ _ _ _ rest o p e

-- the cells that the bytes of cells make
cell_read : (cs : List ℕ) (n i : ℕ) → get_or cs i 0 < 2 ^ 64 → cell_from (cells_bytes cs ++ replicate n 0) (8 * i) ≡ get_or cs i 0
cell_read [] n i h = zeros_read n (8 * i)
cell_read (c ∷ cs) n zero h = number_again c h
cell_read (c ∷ cs) n (suc i) h = sym (behind_number c (cells_bytes cs ++ replicate n 0) (8 * i) (8 * suc i) (omega arith)) ∙ cell_read cs n i h

-- the form that a cell of a loaded image has at each pair
record IsGivenBy (r : ImageRecord) (i : ℕ) : Type 0 where
  form : Form
  cell : ImageCell
  normal_form : IsNormal form
  explained : image_cell r.size form ≡ Some cell
  value : (pair : Pair) → IsAllowedPair pair → cell_from (loaded r pair) (8 * i) ≡ value_at form pair

loaded_read : (r : ImageRecord) (pair : Pair) (i : ℕ) → get_or (loaded_cells pair r.cells r.marks) i 0 < 2 ^ 64
    → cell_from (loaded r pair) (8 * i) ≡ get_or (loaded_cells pair r.cells r.marks) i 0
unfolding loaded
loaded_read r pair i below = cell_read (loaded_cells pair r.cells r.marks) (r.size - r.used) i below

given_by : (r : ImageRecord) (i : ℕ) → IsImage r → IsGivenBy r i
given_by r i is = elim (cases_lt i (r.used / 8)) [ inl below ↦ in_use below | inr behind ↦ not_in_use behind ]
  where
    fits : IsSize r.size
    fits = record { least = is.size.least; most = is.size.most }

    in_use : i < r.used / 8 → IsGivenBy r i
    in_use below =
        let c = get_or r.cells i 0 in
        let m = get_or r.marks i false in
        let limits = is.cells i below in
        let count = is.cell_count in
        record {
          form = cell_form c m;
          cell = record { cell = c; marked = m };
          normal_form = form_normal r.size c m fits.most limits;
          explained = form_cell r.size c m fits.most limits;
          value = λ pair allowed.
              let here = get_or-loaded_cells pair r.cells r.marks i (omega arith) ∙ sym (form_value r.size c m pair fits allowed limits) in
              let small = subst (λ (n : ℕ). n < 2 ^ 64) (sym here) (value_below (cell_form c m) pair) in
              loaded_read r pair i small ∙ here;
        }

    not_in_use : r.used / 8 ≤ i → IsGivenBy r i
    not_in_use behind =
        let count = is.cell_count in
        record {
          form = plain_form 0;
          cell = record { cell = 0; marked = false };
          normal_form = plain_is_normal 0 (omega arith);
          explained = refl;
          value = λ pair allowed.
              let here : get_or (loaded_cells pair r.cells r.marks) i 0 ≡ 0 = get_or_past (loaded_cells pair r.cells r.marks) i 0 (omega (arith, length-loaded_cells pair r.cells r.marks)) in
              loaded_read r pair i (omega arith) ∙ here ∙ sym (plain_value 0 pair (omega arith));
        }

length-loaded : (r : ImageRecord) (pair : Pair) → IsImage r → length (loaded r pair) ≡ r.size
length-loaded r pair is =
    let count = is.cell_count in
    let aligned = is.used_aligned in
    let most = is.used_most in
    ap length (sym (in_part-all r pair (r.used / 8) count (omega arith))) ∙ length-in_part r pair (r.used / 8) (omega arith) (omega arith)

-- the value of a form that stands in a region, by the plain region
form_read : (size : ℕ) (bytes : List OriginByte) (o : ℕ) (x : Form) (pair : Pair) (plain : List ℕ) → (origin_ops size).join (eight_from (origin_ops size) bytes o) ≡ Ok x
    → Each (ByteStands pair) bytes plain → FormStands pair x (cell_from plain o)
unfolding plain_ops
form_read size bytes o x pair plain made_of h = joined_value size (eight_from (origin_ops size) bytes o) (eight_from (plain_ops pair size) plain o) x pair (eight_stand size pair bytes plain o h) made_of

-- the form that is found where no cell is, and its value there by the plain region
pub form_found : (size : ℕ) (bytes : List OriginByte) (o : ℕ) (x : Form) → cell_found_at size bytes o ≡ Err (AForm x)
    → (origin_ops size).join (eight_from (origin_ops size) bytes o) ≡ Ok x
form_found size bytes o x e = (no_cell_found size _ x e).made_of

pub found_there : (size : ℕ) (bytes : List OriginByte) (o : ℕ) (x : Form) (pair : Pair) (plain : List ℕ) → cell_found_at size bytes o ≡ Err (AForm x)
    → Each (ByteStands pair) bytes plain → cell_from plain o ≡ value_at x pair
found_there size bytes o x pair plain e h = sym (form_read size bytes o x pair plain (form_found size bytes o x e) h).value

allowed_first : IsAllowedPair first_pair
allowed_first = search rules

pub no_image_there : (size : ℕ) (bytes : List OriginByte) (i : ℕ) (x : Form) (plain : Pair → List ℕ) (r : ImageRecord)
    → length bytes ≡ size → cell_found_at size bytes (8 * i) ≡ Err (AForm x)
    → ((pair : Pair) → IsAllowedPair pair → Each (ByteStands pair) bytes (plain pair)) → IsImage r
    → ((pair : Pair) → IsAllowedPair pair → loaded r pair ≡ plain pair) → ⊥
no_image_there size bytes i x plain r whole found stands is loads =
    let there = no_cell_found size ((origin_ops size).join (eight_from (origin_ops size) bytes (8 * i))) x found in
    let given = given_by r i is in
    let normal_form = (form_read size bytes (8 * i) x first_pair (plain first_pair) there.made_of (stands first_pair allowed_first)).normal_form in
    let same_size : r.size ≡ size = sym (length-loaded r first_pair is) ∙ ap length (loads first_pair allowed_first) ∙ sym (each_length (stands first_pair allowed_first)) ∙ whole in
    let same : x ≡ given.form = (told_by_values x given.form normal_form given.normal_form).0 (λ pair allowed.
    (form_read size bytes (8 * i) x pair (plain pair) there.made_of (stands pair allowed)).value
    ∙ ap (λ (xs : List ℕ). cell_from xs (8 * i)) (sym (loads pair allowed)) ∙ given.value pair allowed) in
    let some : image_cell size x ≡ Some given.cell = ap (λ (z : Form). image_cell size z) same ∙ ap (λ (s : ℕ). image_cell s given.form) (sym same_size) ∙ given.explained in
    absurd (cc (some, there.none))
