-- The actions on the search order: its count, and its wordlists, the first searched first.
use Rattle.std.specs.Prelude.{ℕ, ◌+◌, ◌-◌, ◌*◌, ◌^◌, zero, suc, not, nat_le, ◌==◌, []}
use Rattle.mi_model.specs.Layout.{order_count_cell, order_cell, forth_wordlist}
use Rattle.mi_model.specs.Plain.{is_negative}
use Rattle.mi_model.specs.Machine.{search_order_overflow, search_order_underflow}
use Rattle.mi_model.specs.Action.{Action, ◌>>=◌, ◌>>◌, action_by, call, part_of, tail}
use Rattle.mi_model.specs.Action.Operand.{At, Plain, Address}
use Rattle.mi_model.specs.Action.AnswerKind.{Effects, Nothing}
use Rattle.mi_model.specs.Action.Action.{Again}
use Rattle.mi_model.specs.Parts.{require, choose, needs, one_in, drop, push, item, name, number, put_cell, clear}

-- wordlist i of the order, pushed above what the rest pushes
abbrev pub push_list : (i : ℕ) → Action Nothing → Action Nothing
push_list i rest = part_of do
  list ← name (At (order_cell i))
  call rest []
  push list

-- pushes so many wordlists of the order from the i-th on, the last first; they are all read before the test of the room
-- for the whole order and its count
abbrev pub push_lists : (left i : ℕ) → Action Nothing
push_lists zero i = part_of (needs 0 (i + 1) 0 0)
push_lists (suc left) i = push_list i (push_lists left (i + 1))

-- GET-ORDER ( -- widn..wid1 n ): a count above 16 is throw -49; the room for all is tested once they are read
abbrev pub do_get_order : Action Effects
do_get_order = action_by do
  count ← number (At order_count_cell)
  require (nat_le count 16) search_order_overflow
  call (push_lists count 0) []
  push (Plain count)

-- stores the item below i others and the count as wordlist i of the order, and then what the rest stores
abbrev pub store_list : (i : ℕ) → Action Nothing → Action Nothing
store_list i rest = part_of do
  list ← item (i + 1)
  put_cell (order_cell i) list
  tail (Again [] rest)

-- stores so many wordlists of the order from the i-th on, and clears the cells of the others
abbrev pub store_lists : (left i : ℕ) → Action Nothing
store_lists zero i = part_of (clear (order_cell i) (128 - 8 * i))
store_lists (suc left) i = store_list i (store_lists left (i + 1))

-- the order of the FORTH wordlist alone; drops the count
unfoldable pub set_least_order : Action Nothing
set_least_order = part_of do
  put_cell order_count_cell (Plain 1)
  put_cell (order_cell 0) (Address forth_wordlist)
  clear (order_cell 1) 120
  drop 1

-- the order of so many wordlists that are on the stack below their count, which are dropped with it; -2 and less are throw
-- -50, and more than 16 throw -49
unfoldable pub set_order : (count : ℕ) → Action Nothing
set_order count = part_of do
  require (not (is_negative count)) search_order_underflow
  require (nat_le count 16) search_order_overflow
  needs (count + 1) 0 0 0
  put_cell order_count_cell (Plain count)
  call (store_lists count 0) []
  drop (count + 1)

-- SET-ORDER ( widn..wid1 n -- ): for an n of -1 the least order
abbrev pub do_set_order : Action Effects
do_set_order = action_by do
  n ← one_in 0 0
  count ← number n
  choose (count == 2 ^ 64 - 1) (call set_least_order []) (call (set_order count) [])
