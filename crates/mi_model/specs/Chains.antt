-- Chains of branches that all go to the same place, when that is known. Each member is a cell whose value is the
-- address of the next member, and the last one's is 0; a chain is known by the address of its first member, and the
-- chain of none is 0.
use Rattle.std.specs.Prelude.{ℕ, ◌+◌, ◌/◌, zero, suc, [], ◌∷◌}
use Rattle.mi_model.specs.Machine.{control_mismatch}
use Rattle.mi_model.specs.Action.{Operand, Action, ◌>>=◌, ◌>>◌, give, part_of, tail}
use Rattle.mi_model.specs.Action.Operand.{Named, At, Plain}
use Rattle.mi_model.specs.Action.Action.{Again}
use Rattle.mi_model.specs.Action.AnswerKind.{Numbers, Nothing}
use Rattle.mi_model.specs.Parts.{throw, choose, size, equal, cell_place, fetch, name, put_cell}

-- what the walks are called with: the address of a member or 0, and where the branches go
abbrev pub member : Operand
member = Named 0

abbrev pub target : Operand
target = Named 1

-- at the end of the chain the count, else what the rest counts from the next member on
abbrev pub count_member : (counted : ℕ) → Action Numbers → Action Numbers
count_member counted rest = part_of do
  end ← equal member (Plain 0)
  choose end (give counted) do
    next ← fetch member
    tail (Again (next ∷ []) rest)

-- how many members there are with those that were counted; more than `left` from here on are throw -22
abbrev pub count_from : (left counted : ℕ) → Action Numbers
count_from zero counted = part_of do
  end ← equal member (Plain 0)
  choose end (give counted) (throw control_mismatch)
count_from (suc left) counted = count_member counted (count_from left (counted + 1))

-- The first walk: how many members a chain has. It writes nothing, and it meets every throw and refusal that there
-- is. The members are different cells, so of the S bytes of the region they are at most S/8.
unfoldable pub chain_length : Action Numbers
chain_length = part_of do
  s ← size
  tail (count_from (s / 8) 0)

-- the member becomes the target, and the rest goes on with the next one
abbrev pub resolve_member : Action Nothing → Action Nothing
resolve_member rest = part_of do
  o ← cell_place member
  next ← name (At o)
  put_cell o target
  tail (Again (next ∷ target ∷ []) rest)

-- The second walk: so many members, as the first walk counted, become the target. Each link is read before its member
-- is written. It meets what the first walk met: that one ended, so no member comes twice in it, and so every link that
-- is read here still is in a cell that this walk hasn't written.
abbrev pub resolve : (left : ℕ) → Action Nothing
resolve zero = part_of (give tt)
resolve (suc left) = resolve_member (resolve left)
