-- Which forms a cell of an image gives, and what that cell is loaded as.
use Rattle.std.proofs.Common.{◌≡◌, ◌↔◌, ℕ, ◌+◌, ◌-◌, ◌*◌, ◌/◌, ◌%◌, ◌^◌, ◌<◌, ◌≤◌, Bool, true, false, cond, ◌==◌, ◌&&◌, nat_lt, nat_le, Option, None, Some, refl, ap, sym, subst, ◌∙◌, arith, inl, inr, ◌⊎◌}
use Rattle.std.proofs.lemmas.Bool.{and_from, and_parts, lt-ltb, le-leb, lt-leb, eq-eqb, ltb-true, eqb-true}
use Rattle.std.proofs.lemmas.Bool.Decides.{nat_tests}
use Rattle.mi_model.specs.declared.Pair.{Pair}
use Rattle.mi_model.specs.declared.Form.{Form}
use Rattle.mi_model.specs.Pairs.{IsAllowedPair}
use Rattle.mi_model.specs.Plain.{is_negative}
use Rattle.mi_model.specs.Forms.{value_at, plain_form, is_plain, IsNormal, IsSize}
use Rattle.mi_model.specs.Origin.{Sort, sort_of, tag_at, code_bound}
use Rattle.mi_model.specs.Origin.Sort.{Plain, Data, Code, Mixed}
use Rattle.mi_model.specs.Image.{IsCell, loaded_cell}
use Rattle.mi_model.specs.Explained.{IsExplained, ImageCell, cell_of_tag, cell_of_sort, image_cell, cell_form}
use Rattle.mi_model.specs.Explained.IsExplained.{is_number, is_offset, is_tag}
use Rattle.mi_form.proofs.Told.{same_form}
use Rattle.mi_form.proofs.Low.{plain_is_normal}
use Rattle.mi_form.proofs.Sorts.{IsAddress, IsValue, sort_value}

-- what marked cells are loaded as
offset_loaded : (pair : Pair) (o : ℕ) → o ≤ 2 ^ 23 → loaded_cell pair o true ≡ pair.d + o
offset_loaded pair o near =
    let small : is_negative o ≡ false = lt-leb (2 ^ 63) o (omega arith) in
    ap (λ (t : Bool). cond t (pair.k + 16 * (2 ^ 64 - 1 - o)) (pair.d + o)) small

tag_loaded : (pair : Pair) (t c : ℕ) → t < 120 → c ≡ 16 * t → loaded_cell pair (2 ^ 64 - 1 - t) true ≡ pair.k + c
tag_loaded pair t c lt e =
    let great : is_negative (2 ^ 64 - 1 - t) ≡ true = le-leb (2 ^ 63) (2 ^ 64 - 1 - t) (omega arith) in
    let back : pair.k + 16 * (2 ^ 64 - 1 - (2 ^ 64 - 1 - t)) ≡ pair.k + c = omega arith in
    ap (λ (b : Bool). cond b (pair.k + 16 * (2 ^ 64 - 1 - (2 ^ 64 - 1 - t))) (pair.d + (2 ^ 64 - 1 - t))) great ∙ back

-- the cell of the tag at an offset of the code table
tag_value : (t : Bool) (pair : Pair) (c v : ℕ) (cell : ImageCell) → (nat_lt c 1920 && (c % 16 == 0)) ≡ t → v ≡ pair.k + c
    → cell_of_tag (cond t (Some (c / 16)) None) ≡ Some cell → loaded_cell pair cell.cell cell.marked ≡ v
tag_value true pair c v cell e h is =
    let p = and_parts (nat_lt c 1920) (c % 16 == 0) e in
    let near : c < 1920 = ltb-true c 1920 p.0 in
    let even : c % 16 ≡ 0 = eqb-true (c % 16) 0 p.1 in
    let whole : c ≡ 16 * (c / 16) = omega arith in
    let few : c / 16 < 120 = omega arith in
    let here : ImageCell = record { cell = 2 ^ 64 - 1 - c / 16; marked = true } in
    let same : here ≡ cell = cc in
    subst (λ (k : ImageCell). loaded_cell pair k.cell k.marked ≡ v) same (tag_loaded pair (c / 16) c few whole ∙ sym h)
tag_value false pair c v cell e h is = absurd (cc)

-- the cell of a sort is loaded as the value of each form of that sort
sort_cell_value : (s : Sort) (pair : Pair) (v : ℕ) (cell : ImageCell) → IsValue s pair v → cell_of_sort s ≡ Some cell → loaded_cell pair cell.cell cell.marked ≡ v
sort_cell_value (Plain n) pair v cell h e =
    let here : ImageCell = record { cell = n; marked = false } in
    let same : here ≡ cell = cc in
    subst (λ (k : ImageCell). loaded_cell pair k.cell k.marked ≡ v) same (sym h.0)
sort_cell_value (Data o) pair v cell h e =
    let here : ImageCell = record { cell = o; marked = true } in
    let same : here ≡ cell = cc in
    subst (λ (k : ImageCell). loaded_cell pair k.cell k.marked ≡ v) same (offset_loaded pair o h.near ∙ sym h.value)
sort_cell_value (Code c) pair v cell h e = tag_value (nat_lt c 1920 && (c % 16 == 0)) pair c v cell refl h.value e
sort_cell_value Mixed pair v cell h e = absurd (cc)

-- the cell for a form is loaded as the form's value
pub cell_value : (size : ℕ) (x : Form) (pair : Pair) (cell : ImageCell) → x.c < 2 ^ 64 → IsSize size → IsAllowedPair pair → image_cell size x ≡ Some cell
    → loaded_cell pair cell.cell cell.marked ≡ value_at x pair
cell_value size x pair cell below fits allowed is =
    sort_cell_value (sort_of size x) pair (value_at x pair) cell (sort_value size x pair below fits allowed) is

-- the cells of the forms that are explained
pub offset_cell : (size o : ℕ) → o ≤ size → image_cell size (record { a = 1; b = 0; c = o }) ≡ Some (record { cell = o; marked = true })
offset_cell size o le = ap (λ (t : Bool). cell_of_sort (cond t (Data o) Mixed)) (le-leb o size le)

tag_at_tag : (t c : ℕ) → t < 120 → c ≡ 16 * t → cell_of_tag (tag_at c) ≡ Some (record { cell = 2 ^ 64 - 1 - t; marked = true })
tag_at_tag t c lt e =
    let near : nat_lt c 1920 ≡ true = lt-ltb c 1920 (omega arith) in
    let even : (c % 16 == 0) ≡ true = eq-eqb (c % 16) 0 (omega arith) in
    let whole : c / 16 ≡ t = omega arith in
    ap (λ (b : Bool). cell_of_tag (cond b (Some (c / 16)) None)) (and_from (nat_lt c 1920) (c % 16 == 0) near even)
    ∙ ap (λ (n : ℕ). Some (record { cell = 2 ^ 64 - 1 - n; marked = true })) whole

pub tag_cell : (size t : ℕ) → t < 120 → image_cell size (record { a = 0; b = 1; c = 16 * t }) ≡ Some (record { cell = 2 ^ 64 - 1 - t; marked = true })
tag_cell size t lt =
    let near : nat_lt (16 * t) code_bound ≡ true = lt-ltb (16 * t) code_bound (omega arith) in
    ap (λ (b : Bool). cell_of_sort (cond b (Code (16 * t)) Mixed)) near ∙ tag_at_tag t (16 * t) lt refl

pub explained_cell : (size : ℕ) (x : Form) → IsExplained size x → (cell : ImageCell) × (image_cell size x ≡ Some cell)
explained_cell size _ (is_number n) = (record { cell = n; marked = false }, refl)
explained_cell size _ (is_offset o le) = (record { cell = o; marked = true }, offset_cell size o le)
explained_cell size _ (is_tag t lt) = (record { cell = 2 ^ 64 - 1 - t; marked = true }, tag_cell size t lt)

-- a form that has a cell is explained
tag_explained : (t : Bool) (size c : ℕ) (cell : ImageCell) → (nat_lt c 1920 && (c % 16 == 0)) ≡ t → cell_of_tag (cond t (Some (c / 16)) None) ≡ Some cell
    → IsExplained size (record { a = 0; b = 1; c = c })
tag_explained true size c cell e is =
    let p = and_parts (nat_lt c 1920) (c % 16 == 0) e in
    let near : c < 1920 = ltb-true c 1920 p.0 in
    let even : c % 16 ≡ 0 = eqb-true (c % 16) 0 p.1 in
    let whole : 16 * (c / 16) ≡ c = omega arith in
    let few : c / 16 < 120 = omega arith in
    subst (λ (n : ℕ). IsExplained size (record { a = 0; b = 1; c = n })) whole (is_tag (c / 16) few)
tag_explained false size c cell e is = absurd (cc)

explained_cases : (t u v : Bool) (size : ℕ) (x : Form) (cell : ImageCell)
    → is_plain x ≡ t → ((x.a == 1) && (x.b == 0) && nat_le x.c size) ≡ u → ((x.a == 0) && (x.b == 1) && nat_lt x.c code_bound) ≡ v
    → cell_of_sort (cond t (Plain x.c) (cond u (Data x.c) (cond v (Code x.c) Mixed))) ≡ Some cell → IsExplained size x
explained_cases true u v size x cell et eu ev is =
    let ea : 0 ≡ x.a = grind (arith, nat_tests) in
    let eb : 0 ≡ x.b = grind (arith, nat_tests) in
    subst (IsExplained size) (same_form (plain_form x.c) x ea eb refl) (is_number x.c)
explained_cases false true v size x cell et eu ev is =
    let ea : 1 ≡ x.a = grind (arith, nat_tests) in
    let eb : 0 ≡ x.b = grind (arith, nat_tests) in
    let le : x.c ≤ size = grind (arith, nat_tests) in
    subst (IsExplained size) (same_form (record { a = 1; b = 0; c = x.c }) x ea eb refl) (is_offset x.c le)
explained_cases false false true size x cell et eu ev is =
    let ea : 0 ≡ x.a = grind (arith, nat_tests) in
    let eb : 1 ≡ x.b = grind (arith, nat_tests) in
    subst (IsExplained size) (same_form (record { a = 0; b = 1; c = x.c }) x ea eb refl) (tag_explained (nat_lt x.c 1920 && (x.c % 16 == 0)) size x.c cell refl is)
explained_cases false false false size x cell et eu ev is = absurd (cc)

pub cell_explained : (size : ℕ) (x : Form) (cell : ImageCell) → image_cell size x ≡ Some cell → IsExplained size x
cell_explained size x cell is =
    explained_cases (is_plain x) ((x.a == 1) && (x.b == 0) && nat_le x.c size) ((x.a == 0) && (x.b == 1) && nat_lt x.c code_bound) size x cell refl refl refl is

none_or : (o : Option ImageCell) → ((cell : ImageCell) → o ≡ Some cell → ⊥) → o ≡ None
none_or None h = refl
none_or (Some cell) h = absurd (h cell refl)

-- no cell gives a form exactly where it isn't explained
pub no_cell : (size : ℕ) (x : Form) → (image_cell size x ≡ None) ↔ (IsExplained size x → ⊥)
no_cell size x = (
  λ none explained. let given = explained_cell size x explained in absurd (cc (none, given.1)),
  λ other. none_or (image_cell size x) (λ cell is. other (cell_explained size x cell is)),
)

-- the form of a cell within the limits of the format has that cell
pub form_cell : (size c : ℕ) (m : Bool) → size ≤ 2 ^ 23 → IsCell size c m → image_cell size (cell_form c m) ≡ Some (record { cell = c; marked = m })
form_cell size c false small h = refl
form_cell size c true small (inl le) =
    let positive : is_negative c ≡ false = lt-leb (2 ^ 63) c (omega arith) in
    ap (λ (t : Bool). image_cell size (cond t (record { a = 0; b = 1; c = 16 * (2 ^ 64 - 1 - c) }) (record { a = 1; b = 0; c = c }))) positive ∙ offset_cell size c le
form_cell size c true small (inr tag) =
    let least = tag.0 in
    let most = tag.1 in
    let negative : is_negative c ≡ true = le-leb (2 ^ 63) c (omega arith) in
    let few : 2 ^ 64 - 1 - c < 120 = omega arith in
    let back : 2 ^ 64 - 1 - (2 ^ 64 - 1 - c) ≡ c = omega arith in
    ap (λ (t : Bool). image_cell size (cond t (record { a = 0; b = 1; c = 16 * (2 ^ 64 - 1 - c) }) (record { a = 1; b = 0; c = c }))) negative
    ∙ tag_cell size (2 ^ 64 - 1 - c) few
    ∙ ap (λ (n : ℕ). Some (record { cell = n; marked = true })) back

-- that form is normal
pub form_normal : (size c : ℕ) (m : Bool) → size ≤ 2 ^ 23 → IsCell size c m → IsNormal (cell_form c m)
form_normal size c false small h = plain_is_normal c h
form_normal size c true small (inl le) =
    let positive : is_negative c ≡ false = lt-leb (2 ^ 63) c (omega arith) in
    subst (λ (t : Bool). IsNormal (cond t (record { a = 0; b = 1; c = 16 * (2 ^ 64 - 1 - c) }) (record { a = 1; b = 0; c = c }))) (sym positive)
    (record { a = omega arith; b = omega arith; c = omega arith })
form_normal size c true small (inr tag) =
    let least = tag.0 in
    let most = tag.1 in
    let negative : is_negative c ≡ true = le-leb (2 ^ 63) c (omega arith) in
    subst (λ (t : Bool). IsNormal (cond t (record { a = 0; b = 1; c = 16 * (2 ^ 64 - 1 - c) }) (record { a = 1; b = 0; c = c }))) (sym negative)
    (record { a = omega arith; b = omega arith; c = omega arith })

-- and the cell is loaded as its value
pub form_value : (size c : ℕ) (m : Bool) (pair : Pair) → IsSize size → IsAllowedPair pair → IsCell size c m → value_at (cell_form c m) pair ≡ loaded_cell pair c m
form_value size c m pair fits allowed h =
    let normal_form = form_normal size c m fits.most h in
    sym (cell_value size (cell_form c m) pair (record { cell = c; marked = m }) normal_form.c fits allowed (form_cell size c m fits.most h))
