-- A region of origin bytes into which the forms of an image's cells are stored.
use Rattle.std.proofs.Common.{◌≡◌, ℕ, zero, suc, ◌+◌, ◌-◌, ◌*◌, ◌/◌, ◌<◌, ◌≤◌, Bool, false, List, [], ◌∷◌, ◌++◌, length, get_or, take, replicate, refl, ap, sym, ◌∙◌, arith, append_assoc}
use Rattle.std.proofs.lemmas.List.{take_all, take_more, length-append, length-replicate, length-take-le}
use Rattle.mi_model.specs.declared.Form.{Form}
use Rattle.mi_model.specs.declared.OriginByte.{OriginByte}
use Rattle.mi_model.specs.declared.OriginByte.TheVariants.{Plain}
use Rattle.mi_model.specs.Image.{ImageRecord}
use Rattle.mi_model.specs.Machine.{Machine}
use Rattle.mi_model.specs.Plain.{listed}
use Rattle.mi_model.specs.Forms.{plain_form}
use Rattle.mi_model.specs.OriginOps.{origin_ops, bytes_of}
use Rattle.mi_model.specs.Region.{with_cell}
use Rattle.mi_model.specs.Run.{machine_on}
use Rattle.mi_model.specs.Seed.{blank_machine}
use Rattle.mi_model.specs.Explained.{cell_form, cell_forms, forms_bytes, origin_region}
use Rattle.mi_reloc.proofs.Loaded.{eight_written}

-- the bytes of a region into which the forms of i cells are stored, and zeros
abbrev pub stored_in_part : ImageRecord → (i : ℕ) → List OriginByte
stored_in_part r i = forms_bytes (take i (cell_forms r.cells r.marks)) ++ replicate (r.size - 8 * i) (Plain 0)

length-cell_forms : (cells : List ℕ) (marks : List Bool) → length (cell_forms cells marks) ≡ length cells
length-cell_forms [] marks = refl
length-cell_forms (c ∷ cs) [] = ap suc (length-cell_forms cs [])
length-cell_forms (c ∷ cs) (m ∷ ms) = ap suc (length-cell_forms cs ms)

get_or-cell_forms : (cells : List ℕ) (marks : List Bool) (i : ℕ) → i < length cells → get_or (cell_forms cells marks) i (plain_form 0) ≡ cell_form (get_or cells i 0) (get_or marks i false)
get_or-cell_forms [] marks i h = absurd (omega arith)
get_or-cell_forms (c ∷ cs) [] zero h = refl
get_or-cell_forms (c ∷ cs) [] (suc i) h = get_or-cell_forms cs [] i (omega arith)
get_or-cell_forms (c ∷ cs) (m ∷ ms) zero h = refl
get_or-cell_forms (c ∷ cs) (m ∷ ms) (suc i) h = get_or-cell_forms cs ms i (omega arith)

length-forms_bytes : (xs : List Form) → length (forms_bytes xs) ≡ 8 * length xs
length-forms_bytes [] = refl
length-forms_bytes (x ∷ xs) = omega (arith, length-forms_bytes xs)

forms_bytes-append_one : (xs : List Form) (x : Form) → forms_bytes (xs ++ x ∷ []) ≡ forms_bytes xs ++ listed (bytes_of x)
forms_bytes-append_one [] x = refl
forms_bytes-append_one (y ∷ ys) x = ap (λ (bs : List OriginByte). listed (bytes_of y) ++ bs) (forms_bytes-append_one ys x)

-- a form that is stored behind the first bytes
form_written : (size o : ℕ) (x : Form) (front rest : List OriginByte) → length front ≡ o
    → with_cell (origin_ops size) (front ++ Plain 0 ∷ Plain 0 ∷ Plain 0 ∷ Plain 0 ∷ Plain 0 ∷ Plain 0 ∷ Plain 0 ∷ Plain 0 ∷ rest) o x ≡ (front ++ listed (bytes_of x)) ++ rest
unfolding origin_ops
form_written size o x front rest len =
    eight_written (Plain 0) front rest o _ _ _ _ _ _ _ _ len ∙ sym (append_assoc front (listed (bytes_of x)) rest)

-- one form more is stored
stored_next : (r : ImageRecord) (size i : ℕ) (x : Form) → i < length r.cells → 8 * i + 8 ≤ r.size
    → x ≡ cell_form (get_or r.cells i 0) (get_or r.marks i false)
    → with_cell (origin_ops size) (stored_in_part r i) (8 * i) x ≡ stored_in_part r (i + 1)
stored_next r size i x below within is =
    let forms : List Form = cell_forms r.cells r.marks in
    let front : List OriginByte = forms_bytes (take i forms) in
    let left : ℕ = r.size - 8 * (i + 1) in
    let count : length forms ≡ length r.cells = length-cell_forms r.cells r.marks in
    let taken : length (take i forms) ≡ i = length-take-le i forms (omega arith) in
    let len : length front ≡ 8 * i = omega (arith, length-forms_bytes (take i forms)) in
    let zeros : r.size - 8 * i ≡ suc (suc (suc (suc (suc (suc (suc (suc left))))))) = omega arith in
    let here : get_or forms i (plain_form 0) ≡ x = get_or-cell_forms r.cells r.marks i below ∙ sym is in
    let more : forms_bytes (take (i + 1) forms) ≡ front ++ listed (bytes_of x) =
    ap (λ (xs : List Form). forms_bytes xs) (take_more forms i (plain_form 0) (omega arith))
    ∙ forms_bytes-append_one (take i forms) (get_or forms i (plain_form 0))
    ∙ ap (λ (y : Form). front ++ listed (bytes_of y)) here in
    ap (λ (n : ℕ). with_cell (origin_ops size) (front ++ replicate n (Plain 0)) (8 * i) x) zeros
    ∙ form_written size (8 * i) x front (replicate left (Plain 0)) len
    ∙ ap (λ (xs : List OriginByte). xs ++ replicate left (Plain 0)) (sym more)

-- before the first cell all is 0
pub blank_stored : (r : ImageRecord) → blank_machine (origin_ops r.size) r.size ≡ machine_on (origin_ops r.size) (stored_in_part r 0)
unfolding origin_ops
blank_stored r =
    let e : r.size ≡ r.size - 8 * 0 = omega arith in
    ap (λ (n : ℕ). machine_on (origin_ops r.size) (replicate n (Plain 0))) e

pub length-stored : (r : ImageRecord) (i : ℕ) → i ≤ length r.cells → 8 * i ≤ r.size → length (stored_in_part r i) ≡ r.size
length-stored r i below within =
    let forms : List Form = cell_forms r.cells r.marks in
    let taken : length (take i forms) ≡ i = length-take-le i forms (omega (arith, length-cell_forms r.cells r.marks)) in
    omega (arith, length-append (forms_bytes (take i forms)) (replicate (r.size - 8 * i) (Plain 0)), length-forms_bytes (take i forms), length-replicate {A = OriginByte} (r.size - 8 * i) (Plain 0))

-- one form more is stored in a machine
pub origin_machine_next : (r : ImageRecord) (size i : ℕ) (x : Form) (m : Machine Form OriginByte) → size ≡ r.size
    → m ≡ machine_on (origin_ops r.size) (stored_in_part r i) → i < length r.cells → 8 * i + 8 ≤ r.size
    → x ≡ cell_form (get_or r.cells i 0) (get_or r.marks i false)
    → record m { bytes = with_cell (origin_ops size) m.bytes (8 * i) x } ≡ machine_on (origin_ops r.size) (stored_in_part r (i + 1))
origin_machine_next r size i x m same_size before below within is =
    rw (same_size, before) (ap (λ (bytes : List OriginByte). machine_on (origin_ops r.size) bytes) (stored_next r r.size i x below within is))

-- all forms are stored
pub stored_all : (r : ImageRecord) (i : ℕ) → length r.cells ≡ i → 8 * i ≡ r.used → stored_in_part r i ≡ origin_region r
unfolding origin_region
stored_all r i count whole =
    let all : length (cell_forms r.cells r.marks) ≤ i = omega (arith, length-cell_forms r.cells r.marks) in
    ap (λ (xs : List Form). forms_bytes xs ++ replicate (r.size - 8 * i) (Plain 0)) (take_all i (cell_forms r.cells r.marks) all)
    ∙ ap (λ (n : ℕ). forms_bytes (cell_forms r.cells r.marks) ++ replicate (r.size - n) (Plain 0)) whole
