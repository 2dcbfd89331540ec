-- A region into which the first cells of an image are loaded.
use Rattle.std.proofs.Common.{◌≡◌, ℕ, zero, suc, ◌+◌, ◌-◌, ◌*◌, ◌<◌, ◌≤◌, Bool, false, List, [], ◌∷◌, ◌++◌, length, get_or, take, replicate, refl, ap, sym, ◌∙◌, arith, append_assoc}
use Rattle.std.proofs.Math.ListN.{set}
use Rattle.std.proofs.lemmas.List.{set-append_right, take_all, take_more, length-append, length-replicate, length-take-le}
use Rattle.mi_model.specs.declared.Pair.{Pair}
use Rattle.mi_model.specs.Image.{ImageRecord, eight_bytes, cells_bytes, loaded_cell, loaded_cells, loaded}
use Rattle.mi_model.specs.Machine.{Machine}
use Rattle.mi_model.specs.Plain.{plain_ops}
use Rattle.mi_model.specs.Region.{with_cell}
use Rattle.mi_model.specs.Run.{machine_on}
use Rattle.mi_model.specs.Seed.{blank_machine}
use Rattle.mi_image.proofs.Numbers.{length-cells_bytes}

-- the bytes of a region into which i cells of an image are loaded, and zeros
abbrev pub in_part : ImageRecord → Pair → (i : ℕ) → List ℕ
in_part r pair i = cells_bytes (take i (loaded_cells pair r.cells r.marks)) ++ replicate (r.size - 8 * i) 0

pub length-loaded_cells : (pair : Pair) (cells : List ℕ) (marks : List Bool) → length (loaded_cells pair cells marks) ≡ length cells
length-loaded_cells pair [] marks = refl
length-loaded_cells pair (c ∷ cs) [] = ap (λ (n : ℕ). suc n) (length-loaded_cells pair cs [])
length-loaded_cells pair (c ∷ cs) (m ∷ ms) = ap (λ (n : ℕ). suc n) (length-loaded_cells pair cs ms)

-- each cell is loaded by its mark
pub get_or-loaded_cells : (pair : Pair) (cells : List ℕ) (marks : List Bool) (i : ℕ) → i < length cells
    → get_or (loaded_cells pair cells marks) i 0 ≡ loaded_cell pair (get_or cells i 0) (get_or marks i false)
get_or-loaded_cells pair [] marks i h = absurd (omega arith)
get_or-loaded_cells pair (c ∷ cs) [] zero h = refl
get_or-loaded_cells pair (c ∷ cs) [] (suc i) h = get_or-loaded_cells pair cs [] i (omega arith)
get_or-loaded_cells pair (c ∷ cs) (m ∷ ms) zero h = refl
get_or-loaded_cells pair (c ∷ cs) (m ∷ ms) (suc i) h = get_or-loaded_cells pair cs ms i (omega arith)

cells_bytes-append_one : (cells : List ℕ) (c : ℕ) → cells_bytes (cells ++ c ∷ []) ≡ cells_bytes cells ++ eight_bytes c
cells_bytes-append_one [] c = refl
cells_bytes-append_one (x ∷ xs) c = ap (λ (ys : List ℕ). eight_bytes x ++ ys) (cells_bytes-append_one xs c)

-- an edit behind the first bytes
behind : {B : Type 0} (front ys : List B) (o k i : ℕ) (v : B) → length front ≡ o → i ≡ o + k → set (front ++ ys) i v ≡ front ++ set ys k v
behind front ys o k i v len at =
    let rest : i - o ≡ k = omega arith in
    set-append_right front ys o i v len (omega arith) ∙ ap (λ (j : ℕ). front ++ set ys j v) rest

-- eight bytes behind the first ones are written
pub eight_written : {B : Type 0} (z : B) (front rest : List B) (o : ℕ) (c0 c1 c2 c3 c4 c5 c6 c7 : B) → length front ≡ o
    → set (set (set (set (set (set (set (set (front ++ z ∷ z ∷ z ∷ z ∷ z ∷ z ∷ z ∷ z ∷ rest)
    o c0) (o + 1) c1) (o + 2) c2) (o + 3) c3) (o + 4) c4) (o + 5) c5) (o + 6) c6) (o + 7) c7
    ≡ front ++ c0 ∷ c1 ∷ c2 ∷ c3 ∷ c4 ∷ c5 ∷ c6 ∷ c7 ∷ rest
eight_written {B} z front rest o c0 c1 c2 c3 c4 c5 c6 c7 len =
    ap (λ (y : List B). set (set (set (set (set (set (set y (o + 1) c1) (o + 2) c2) (o + 3) c3) (o + 4) c4) (o + 5) c5) (o + 6) c6) (o + 7) c7)
    (behind front (z ∷ z ∷ z ∷ z ∷ z ∷ z ∷ z ∷ z ∷ rest) o 0 o c0 len (omega arith))
    ∙ ap (λ (y : List B). set (set (set (set (set (set y (o + 2) c2) (o + 3) c3) (o + 4) c4) (o + 5) c5) (o + 6) c6) (o + 7) c7)
    (behind front (c0 ∷ z ∷ z ∷ z ∷ z ∷ z ∷ z ∷ z ∷ rest) o 1 (o + 1) c1 len refl)
    ∙ ap (λ (y : List B). set (set (set (set (set y (o + 3) c3) (o + 4) c4) (o + 5) c5) (o + 6) c6) (o + 7) c7)
    (behind front (c0 ∷ c1 ∷ z ∷ z ∷ z ∷ z ∷ z ∷ z ∷ rest) o 2 (o + 2) c2 len refl)
    ∙ ap (λ (y : List B). set (set (set (set y (o + 4) c4) (o + 5) c5) (o + 6) c6) (o + 7) c7)
    (behind front (c0 ∷ c1 ∷ c2 ∷ z ∷ z ∷ z ∷ z ∷ z ∷ rest) o 3 (o + 3) c3 len refl)
    ∙ ap (λ (y : List B). set (set (set y (o + 5) c5) (o + 6) c6) (o + 7) c7)
    (behind front (c0 ∷ c1 ∷ c2 ∷ c3 ∷ z ∷ z ∷ z ∷ z ∷ rest) o 4 (o + 4) c4 len refl)
    ∙ ap (λ (y : List B). set (set y (o + 6) c6) (o + 7) c7)
    (behind front (c0 ∷ c1 ∷ c2 ∷ c3 ∷ c4 ∷ z ∷ z ∷ z ∷ rest) o 5 (o + 5) c5 len refl)
    ∙ ap (λ (y : List B). set y (o + 7) c7)
    (behind front (c0 ∷ c1 ∷ c2 ∷ c3 ∷ c4 ∷ c5 ∷ z ∷ z ∷ rest) o 6 (o + 6) c6 len refl)
    ∙ behind front (c0 ∷ c1 ∷ c2 ∷ c3 ∷ c4 ∷ c5 ∷ c6 ∷ z ∷ rest) o 7 (o + 7) c7 len refl

-- a cell that is stored behind the first bytes
cell_written : (pair : Pair) (size o v : ℕ) (front rest : List ℕ) → length front ≡ o
    → with_cell (plain_ops pair size) (front ++ 0 ∷ 0 ∷ 0 ∷ 0 ∷ 0 ∷ 0 ∷ 0 ∷ 0 ∷ rest) o v ≡ (front ++ eight_bytes v) ++ rest
unfolding plain_ops
cell_written pair size o v front rest len =
    eight_written 0 front rest o _ _ _ _ _ _ _ _ len ∙ sym (append_assoc front (eight_bytes v) rest)

-- one cell more is loaded
pub in_part-next : (r : ImageRecord) (pair : Pair) (size i v : ℕ) → i < length r.cells → 8 * i + 8 ≤ r.size
    → v ≡ loaded_cell pair (get_or r.cells i 0) (get_or r.marks i false)
    → with_cell (plain_ops pair size) (in_part r pair i) (8 * i) v ≡ in_part r pair (i + 1)
in_part-next r pair size i v below within is =
    let cells : List ℕ = loaded_cells pair r.cells r.marks in
    let front : List ℕ = cells_bytes (take i cells) in
    let left : ℕ = r.size - 8 * (i + 1) in
    let count : length cells ≡ length r.cells = length-loaded_cells pair r.cells r.marks in
    let taken : length (take i cells) ≡ i = length-take-le i cells (omega arith) in
    let len : length front ≡ 8 * i = omega (arith, length-cells_bytes (take i cells)) in
    let zeros : r.size - 8 * i ≡ suc (suc (suc (suc (suc (suc (suc (suc left))))))) = omega arith in
    let here : get_or cells i 0 ≡ v = get_or-loaded_cells pair r.cells r.marks i below ∙ sym is in
    let more : cells_bytes (take (i + 1) cells) ≡ front ++ eight_bytes v =
    ap (λ (xs : List ℕ). cells_bytes xs) (take_more cells i 0 (omega arith))
    ∙ cells_bytes-append_one (take i cells) (get_or cells i 0)
    ∙ ap (λ (c : ℕ). front ++ eight_bytes c) here in
    ap (λ (n : ℕ). with_cell (plain_ops pair size) (front ++ replicate n 0) (8 * i) v) zeros
    ∙ cell_written pair size (8 * i) v front (replicate left 0) len
    ∙ ap (λ (xs : List ℕ). xs ++ replicate left 0) (sym more)

-- before the first cell all is 0
pub blank_in_part : (r : ImageRecord) (pair : Pair) → blank_machine (plain_ops pair r.size) r.size ≡ machine_on (plain_ops pair r.size) (in_part r pair 0)
unfolding plain_ops
blank_in_part r pair =
    let e : r.size ≡ r.size - 8 * 0 = omega arith in
    ap (λ (n : ℕ). machine_on (plain_ops pair r.size) (replicate n 0)) e

pub length-in_part : (r : ImageRecord) (pair : Pair) (i : ℕ) → i ≤ length r.cells → 8 * i ≤ r.size → length (in_part r pair i) ≡ r.size
length-in_part r pair i below within =
    let cells : List ℕ = loaded_cells pair r.cells r.marks in
    let taken : length (take i cells) ≡ i = length-take-le i cells (omega (arith, length-loaded_cells pair r.cells r.marks)) in
    omega (arith, length-append (cells_bytes (take i cells)) (replicate (r.size - 8 * i) 0), length-cells_bytes (take i cells), length-replicate {A = ℕ} (r.size - 8 * i) 0)

-- one cell more is stored in a machine
pub machine_next : (r : ImageRecord) (pair p : Pair) (size i v : ℕ) (m : Machine ℕ ℕ) → p ≡ pair → size ≡ r.size
    → m ≡ machine_on (plain_ops pair r.size) (in_part r pair i) → i < length r.cells → 8 * i + 8 ≤ r.size
    → v ≡ loaded_cell pair (get_or r.cells i 0) (get_or r.marks i false)
    → record m { bytes = with_cell (plain_ops p size) m.bytes (8 * i) v } ≡ machine_on (plain_ops pair r.size) (in_part r pair (i + 1))
machine_next r pair p size i v m same_pair same_size before below within is =
    rw (same_pair, same_size, before) (ap (λ (bytes : List ℕ). machine_on (plain_ops pair r.size) bytes) (in_part-next r pair r.size i v below within is))

-- all cells are loaded
pub in_part-all : (r : ImageRecord) (pair : Pair) (i : ℕ) → length r.cells ≡ i → 8 * i ≡ r.used → in_part r pair i ≡ loaded r pair
unfolding loaded
in_part-all r pair i count whole =
    let all : length (loaded_cells pair r.cells r.marks) ≤ i = omega (arith, length-loaded_cells pair r.cells r.marks) in
    ap (λ (xs : List ℕ). cells_bytes xs ++ replicate (r.size - 8 * i) 0) (take_all i (loaded_cells pair r.cells r.marks) all)
    ∙ ap (λ (n : ℕ). cells_bytes (loaded_cells pair r.cells r.marks) ++ replicate (r.size - n) 0) whole
