-- The region of origin bytes that an image gives: its image is that image again, and it stands for what that is loaded as.
use Rattle.std.proofs.Common.{◌≡◌, ℕ, zero, suc, ◌+◌, ◌-◌, ◌*◌, ◌/◌, ◌%◌, ◌^◌, ◌<◌, ◌≤◌, Bool, true, false, List, [], ◌∷◌, ◌++◌, length, get_or, replicate, Option, None, Some, Result, Ok, Err, refl, ap, sym, subst, ◌∙◌, arith, append_assoc}
use Rattle.std.specs.Prelude.{map}
use Rattle.std.proofs.lemmas.List.{length-append}
use Rattle.mi_model.specs.declared.Pair.{Pair}
use Rattle.mi_model.specs.declared.Kind.{Kind}
use Rattle.mi_model.specs.declared.Kind.TheVariants.{Relocatable}
use Rattle.mi_model.specs.declared.Form.{Form}
use Rattle.mi_model.specs.declared.Found.{Found}
use Rattle.mi_model.specs.declared.Eight.{Eight}
use Rattle.mi_model.specs.declared.Refusal.{Refusal}
use Rattle.mi_model.specs.declared.OriginByte.{OriginByte}
use Rattle.mi_model.specs.declared.OriginByte.TheVariants.{Plain}
use Rattle.mi_model.specs.Pairs.{IsAllowedPair}
use Rattle.mi_model.specs.Plain.{listed}
use Rattle.mi_model.specs.Region.{eight_from}
use Rattle.mi_model.specs.Image.{ImageRecord, IsImage, IsCell, IsPairOf, eight_bytes, cells_bytes, loaded_cell, loaded_cells, loaded}
use Rattle.mi_model.specs.Stands.{Each}
use Rattle.mi_model.specs.Stands.Each.{none, more}
use Rattle.mi_model.specs.Forms.{value_at, plain_form, IsSize}
use Rattle.mi_model.specs.OriginOps.{origin_ops, bytes_of, FormStands, ByteStands}
use Rattle.mi_model.specs.Explained.{ImageCell, UnexplainedCell, image_cell, or_found, cell_found, cell_found_at, or_else, or_zero, unexplained_from, first_unexplained, image_cells, image_of, cell_form, cell_forms, forms_bytes, origin_region}
use Rattle.mi_model.proofs.Each.{each_append, each_replicate}
use Rattle.mi_form.proofs.Bytes.{cut_stands}
use Rattle.mi_form.proofs.Back.{form_back}
use Rattle.mi_reloc.proofs.Explained.{form_cell, form_normal, form_value}
use Rattle.mi_reloc.proofs.Imaged.{number_of, mark_of, with_cells}

-- each cell is within the limits of the format
abbrev AreCells : (size : ℕ) → List ℕ → List Bool → Type 0
AreCells size cells marks = (i : ℕ) → i < length cells → IsCell size (get_or cells i 0) (get_or marks i false)

-- cells with their marks
abbrev paired : List ℕ → List Bool → List ImageCell
paired [] marks = []
paired (c ∷ cs) [] = record { cell = c; marked = false } ∷ paired cs []
paired (c ∷ cs) (m ∷ ms) = record { cell = c; marked = m } ∷ paired cs ms

numbers_back : (cells : List ℕ) (marks : List Bool) → map number_of (paired cells marks) ≡ cells
numbers_back [] marks = refl
numbers_back (c ∷ cs) [] = ap (λ (xs : List ℕ). c ∷ xs) (numbers_back cs [])
numbers_back (c ∷ cs) (m ∷ ms) = ap (λ (xs : List ℕ). c ∷ xs) (numbers_back cs ms)

marks_back : (cells : List ℕ) (marks : List Bool) → length marks ≡ length cells → map mark_of (paired cells marks) ≡ marks
marks_back [] [] e = refl
marks_back [] (m ∷ ms) e = absurd (omega arith)
marks_back (c ∷ cs) [] e = absurd (omega arith)
marks_back (c ∷ cs) (m ∷ ms) e = ap (λ (xs : List Bool). m ∷ xs) (marks_back cs ms (omega arith))

-- ---- the forms of cells are found again

get_behind : {B : Type 0} (front ys : List B) (o j k : ℕ) (d : B) → length front ≡ o → k ≡ o + j → get_or (front ++ ys) k d ≡ get_or ys j d
get_behind [] ys o j k d len e = let same : k ≡ j = omega arith in ap (λ (i : ℕ). get_or ys i d) same
get_behind (x ∷ xs) ys o j zero d len e = absurd (omega arith)
get_behind (x ∷ xs) ys o j (suc k) d len e = get_behind xs ys (o - 1) j k d (omega arith) (omega arith)

same_eight : {B : Type 0} (a b : Eight B) → a.b0 ≡ b.b0 → a.b1 ≡ b.b1 → a.b2 ≡ b.b2 → a.b3 ≡ b.b3 → a.b4 ≡ b.b4 → a.b5 ≡ b.b5 → a.b6 ≡ b.b6 → a.b7 ≡ b.b7 → a ≡ b
same_eight {B} a b e0 e1 e2 e3 e4 e5 e6 e7 =
    let whole : record { b0 = a.b0; b1 = a.b1; b2 = a.b2; b3 = a.b3; b4 = a.b4; b5 = a.b5; b6 = a.b6; b7 = a.b7 } ≡ b = rw (e0, e1, e2, e3, e4, e5, e6, e7) refl in
    whole

eight_back : (size : ℕ) (front rest : List OriginByte) (y : Form) (o : ℕ) → length front ≡ o → eight_from (origin_ops size) (front ++ (listed (bytes_of y) ++ rest)) o ≡ bytes_of y
eight_back size front rest y o len =
    let ys : List OriginByte = listed (bytes_of y) ++ rest in
    let d : OriginByte = (origin_ops size).byte 0 in
    same_eight (eight_from (origin_ops size) (front ++ ys) o) (bytes_of y)
    (get_behind front ys o 0 o d len (omega arith)) (get_behind front ys o 1 (o + 1) d len refl) (get_behind front ys o 2 (o + 2) d len refl) (get_behind front ys o 3 (o + 3) d len refl)
    (get_behind front ys o 4 (o + 4) d len refl) (get_behind front ys o 5 (o + 5) d len refl) (get_behind front ys o 6 (o + 6) d len refl) (get_behind front ys o 7 (o + 7) d len refl)

found_again : (size c : ℕ) (m : Bool) (front rest : List OriginByte) (o : ℕ) → size ≤ 2 ^ 23 → IsCell size c m → length front ≡ o
    → cell_found_at size (front ++ (listed (bytes_of (cell_form c m)) ++ rest)) o ≡ Ok (record { cell = c; marked = m })
found_again size c m front rest o small limits len =
    let y : Form = cell_form c m in
    ap (λ (b : Eight OriginByte). cell_found size ((origin_ops size).join b)) (eight_back size front rest y o len)
    ∙ ap (λ (r : Result Form Refusal). cell_found size r) (form_back size y (form_normal size c m small limits))
    ∙ ap (λ (cell : Option ImageCell). or_found y cell) (form_cell size c m small limits)

-- all cells are found again
record AreFound (size : ℕ) (bytes : List OriginByte) (n o : ℕ) (cs : List ImageCell) : Type 0 where
  cells : image_cells size bytes n o ≡ cs
  explained : unexplained_from size bytes n o ≡ None

next_found : (size c : ℕ) (m : Bool) (front fs rest : List OriginByte) (n o : ℕ) (cs : List ImageCell) → size ≤ 2 ^ 23 → IsCell size c m → length front ≡ o
    → AreFound size ((front ++ listed (bytes_of (cell_form c m))) ++ (fs ++ rest)) n (o + 8) cs
    → AreFound size (front ++ ((listed (bytes_of (cell_form c m)) ++ fs) ++ rest)) (suc n) o (record { cell = c; marked = m } ∷ cs)
next_found size c m front fs rest n o cs small limits len others =
    let y : Form = cell_form c m in
    let bytes : List OriginByte = front ++ (listed (bytes_of y) ++ (fs ++ rest)) in
    let here = found_again size c m front (fs ++ rest) o small limits len in
    let later : AreFound size bytes n (o + 8) cs = subst (λ (bs : List OriginByte). AreFound size bs n (o + 8) cs) (append_assoc front (listed (bytes_of y)) (fs ++ rest)) others in
    record {
      cells =
          ap (λ (r : Result ImageCell Found). or_zero r ∷ image_cells size bytes n (o + 8)) here
          ∙ ap (λ (xs : List ImageCell). record { cell = c; marked = m } ∷ xs) later.cells;
      explained =
          ap (λ (r : Result ImageCell Found). or_else o r (unexplained_from size bytes n (o + 8))) here
          ∙ later.explained;
    }

are_found : (size : ℕ) (cells : List ℕ) (marks : List Bool) (front rest : List OriginByte) (o : ℕ) → size ≤ 2 ^ 23 → AreCells size cells marks → length front ≡ o
    → AreFound size (front ++ (forms_bytes (cell_forms cells marks) ++ rest)) (length cells) o (paired cells marks)
are_found size [] marks front rest o small limits len = record { cells = refl; explained = refl }
are_found size (c ∷ cs) [] front rest o small limits len =
    let y : Form = plain_form c in
    next_found size c false front (forms_bytes (cell_forms cs [])) rest (length cs) o (paired cs []) small (limits 0 (omega arith)) len
    (are_found size cs [] (front ++ listed (bytes_of y)) rest (o + 8) small (λ i below. limits (suc i) (omega arith)) (omega (arith, length-append front (listed (bytes_of y)))))
are_found size (c ∷ cs) (m ∷ ms) front rest o small limits len =
    let y : Form = cell_form c m in
    next_found size c m front (forms_bytes (cell_forms cs ms)) rest (length cs) o (paired cs ms) small (limits 0 (omega arith)) len
    (are_found size cs ms (front ++ listed (bytes_of y)) rest (o + 8) small (λ i below. limits (suc i) (omega arith)) (omega (arith, length-append front (listed (bytes_of y)))))

-- a record is its parts
whole_record : (r : ImageRecord) (cells : List ℕ) (marks : List Bool) → r.kind ≡ Relocatable → IsPairOf r.kind r.pair → cells ≡ r.cells → marks ≡ r.marks
    → record { kind = Relocatable; size = r.size; used = r.used; pair = record { d = 0; k = 0 }; cells = cells; marks = marks } ≡ r
whole_record r cells marks kind pair e f =
    let none = subst (λ (k : Kind). IsPairOf k r.pair) kind pair in
    let from : Kind → Pair → List ℕ → List Bool → ImageRecord = λ k p cs ms. record { kind = k; size = r.size; used = r.used; pair = p; cells = cs; marks = ms } in
    ap (λ (k : Kind). from k (record { d = 0; k = 0 }) cells marks) (sym kind)
    ∙ ap (λ (n : ℕ). from r.kind (record { d = n; k = 0 }) cells marks) (sym none.0)
    ∙ ap (λ (n : ℕ). from r.kind (record { d = r.pair.d; k = n }) cells marks) (sym none.1)
    ∙ ap (λ (cs : List ℕ). from r.kind r.pair cs marks) e
    ∙ ap (λ (ms : List Bool). from r.kind r.pair r.cells ms) f

region_found : (r : ImageRecord) → IsImage r → AreFound r.size (origin_region r) (r.used / 8) 0 (paired r.cells r.marks)
unfolding origin_region
region_found r is =
    let count = is.cell_count in
    let most = is.size.most in
    subst (λ (n : ℕ). AreFound r.size (forms_bytes (cell_forms r.cells r.marks) ++ replicate (r.size - r.used) (Plain 0)) n 0 (paired r.cells r.marks)) count
    (are_found r.size r.cells r.marks [] (replicate (r.size - r.used) (Plain 0)) 0 most (λ i below. is.cells i (omega arith)) refl)

-- the image of the region that an image gives is that image
pub image_again : (r : ImageRecord) → IsImage r → r.kind ≡ Relocatable → image_of r.size (origin_region r) r.used ≡ r
unfolding image_of
image_again r is kind =
    let found = region_found r is in
    let same : length r.marks ≡ length r.cells = is.mark_count ∙ sym is.cell_count in
    ap (λ (cs : List ImageCell). with_cells r.size r.used cs) found.cells
    ∙ whole_record r (map number_of (paired r.cells r.marks)) (map mark_of (paired r.cells r.marks)) kind is.pair (numbers_back r.cells r.marks) (marks_back r.cells r.marks same)

pub all_explained : (r : ImageRecord) → IsImage r → first_unexplained r.size (origin_region r) r.used ≡ None
unfolding first_unexplained
all_explained r is = (region_found r is).explained

-- ---- what they stand for

eight_more : (pair : Pair) (y : Form) (n : ℕ) {xs : List OriginByte} {ys : List ℕ} → FormStands pair y n → Each (ByteStands pair) xs ys
    → Each (ByteStands pair) (listed (bytes_of y) ++ xs) (eight_bytes n ++ ys)
eight_more pair y n h others =
    more (cut_stands y n 0 pair h) (more (cut_stands y n 1 pair h) (more (cut_stands y n 2 pair h) (more (cut_stands y n 3 pair h)
    (more (cut_stands y n 4 pair h) (more (cut_stands y n 5 pair h) (more (cut_stands y n 6 pair h) (more (cut_stands y n 7 pair h) others)))))))

cell_stands : (size : ℕ) (pair : Pair) (c : ℕ) (m : Bool) → IsSize size → IsAllowedPair pair → IsCell size c m → FormStands pair (cell_form c m) (loaded_cell pair c m)
cell_stands size pair c m fits allowed limits = record { normal_form = form_normal size c m fits.most limits; value = form_value size c m pair fits allowed limits }

cells_stand : (size : ℕ) (pair : Pair) (cells : List ℕ) (marks : List Bool) → IsSize size → IsAllowedPair pair → AreCells size cells marks
    → Each (ByteStands pair) (forms_bytes (cell_forms cells marks)) (cells_bytes (loaded_cells pair cells marks))
cells_stand size pair [] marks fits allowed limits = none
cells_stand size pair (c ∷ cs) [] fits allowed limits =
    eight_more pair (plain_form c) c (cell_stands size pair c false fits allowed (limits 0 (omega arith))) (cells_stand size pair cs [] fits allowed (λ i below. limits (suc i) (omega arith)))
cells_stand size pair (c ∷ cs) (m ∷ ms) fits allowed limits =
    eight_more pair (cell_form c m) (loaded_cell pair c m) (cell_stands size pair c m fits allowed (limits 0 (omega arith))) (cells_stand size pair cs ms fits allowed (λ i below. limits (suc i) (omega arith)))

-- the region that an image gives stands for the one that it is loaded as
pub region_stands : (r : ImageRecord) (pair : Pair) → IsImage r → IsAllowedPair pair → Each (ByteStands pair) (origin_region r) (loaded r pair)
unfolding origin_region loaded
region_stands r pair is allowed =
    let count = is.cell_count in
    let fits : IsSize r.size = record { least = is.size.least; most = is.size.most } in
    each_append (cells_stand r.size pair r.cells r.marks fits allowed (λ i below. is.cells i (omega arith))) (each_replicate (Plain 0) 0 (r.size - r.used) refl)
