-- What a chain of branches is, apart from the walks over it.
use Rattle.std.specs.Prelude.{ℕ, ◌≡◌, true, false, List, [], ◌∷◌, Ok}
use Rattle.mi_model.specs.Ops.{Ops}
use Rattle.mi_model.specs.Ops.Test.{Equal}
use Rattle.mi_model.specs.Machine.{asked}
use Rattle.mi_model.specs.Region.{cell_at, fetch_at, with_cell}

-- these are the members of the chain from an address on, by their offsets: none where the address is 0, and else the
-- cell at the address, and then the members from the address in that cell on
pub data IsChain {C B : Type 0} (ops : Ops C B) (bytes : List B) : C → List ℕ → Type 0 where
  ends : {c : C} → asked (ops.test Equal c (ops.plain 0)) ≡ Ok true → IsChain ops bytes c []
  member : {c next : C} {o : ℕ} {os : List ℕ} → asked (ops.test Equal c (ops.plain 0)) ≡ Ok false → cell_at ops bytes c ≡ Ok o → fetch_at ops bytes o ≡ Ok next
      → IsChain ops bytes next os → IsChain ops bytes c (o ∷ os)

-- a number is a member of a list
pub data IsIn (n : ℕ) : List ℕ → Type 0 where
  first : (ns : List ℕ) → IsIn n (n ∷ ns)
  later : (k : ℕ) {ns : List ℕ} → IsIn n ns → IsIn n (k ∷ ns)

-- all members differ
abbrev pub AllDiffer : List ℕ → Type 0
AllDiffer [] = Unit {0}
AllDiffer (n ∷ ns) = (IsIn n ns → ⊥) × AllDiffer ns

-- the bytes with the cell at each of these offsets made this one
abbrev pub with_cells : {C B : Type 0} → Ops C B → List B → List ℕ → C → List B
with_cells ops bytes [] v = bytes
with_cells ops bytes (o ∷ os) v = with_cells ops (with_cell ops bytes o v) os v
