-- The actions on the data stack and the return stack.
use Rattle.std.specs.Prelude.{ℕ, zero, suc, ◌+◌, nat_lt, []}
use Rattle.mi_model.specs.Machine.{stack_underflow}
use Rattle.mi_model.specs.Action.{Action, ◌>>=◌, ◌>>◌, action_by, give, call, part_of}
use Rattle.mi_model.specs.Action.Operand.{Plain}
use Rattle.mi_model.specs.Action.AnswerKind.{Effects, Nothing, Numbers}
use Rattle.mi_model.specs.Parts.{require, needs, one_in, two_in, three_in, one_rin, two_rin, drop, rdrop, push, rpush, depth, item, number}

-- DUP ( x -- x x )
abbrev pub do_dup : Action Effects
do_dup = action_by do
  x ← one_in 2 0
  push x

-- DROP ( x -- )
abbrev pub do_drop : Action Effects
do_drop = action_by do
  needs 1 0 0 0
  drop 1

-- SWAP ( x y -- y x )
abbrev pub do_swap : Action Effects
do_swap = action_by do
  (x, y) ← two_in 2 0
  drop 2
  push y
  push x

-- OVER ( x y -- x y x )
abbrev pub do_over : Action Effects
do_over = action_by do
  (x, y) ← two_in 3 0
  push x

-- ROT ( x y z -- y z x )
abbrev pub do_rot : Action Effects
do_rot = action_by do
  (x, y, z) ← three_in 3 0
  drop 3
  push y
  push z
  push x

-- the count on top of the stack, which is below the number of items under it, else throw -4
unfoldable pub count_of_items : Action Numbers
count_of_items = part_of do
  u ← one_in 1 0
  count ← number u
  n ← depth
  require (nat_lt (count + 1) n) stack_underflow
  give count

-- PICK ( xu .. x0 u -- xu .. x0 xu )
abbrev pub do_pick : Action Effects
do_pick = action_by do
  count ← call count_of_items []
  x ← item (count + 1)
  drop 1
  push x

-- takes the top item off, does the rest, and puts it back under what is then on top
abbrev pub roll_under : Action Nothing → Action Nothing
roll_under rest = part_of do
  x ← item 0
  drop 1
  call rest []
  y ← item 0
  drop 1
  push x
  push y

-- moves the item that has so many above it to the top
abbrev pub roll : (left : ℕ) → Action Nothing
roll zero = part_of (give tt)
roll (suc left) = roll_under (roll left)

-- ROLL ( xu .. x0 u -- xu-1 .. x0 xu )
abbrev pub do_roll : Action Effects
do_roll = action_by do
  count ← call count_of_items []
  drop 1
  call (roll count) []

-- DEPTH ( -- n ): the number of items before it
abbrev pub do_depth : Action Effects
do_depth = action_by do
  needs 0 1 0 0
  n ← depth
  push (Plain n)

-- >R ( x -- ) R ( -- x )
abbrev pub do_to_r : Action Effects
do_to_r = action_by do
  x ← one_in 0 1
  drop 1
  rpush x

-- R> ( -- x ) R ( x -- )
abbrev pub do_r_from : Action Effects
do_r_from = action_by do
  x ← one_rin 1 0
  rdrop 1
  push x

-- R@ ( -- x ) R ( x -- x )
abbrev pub do_r_fetch : Action Effects
do_r_fetch = action_by do
  x ← one_rin 1 1
  push x

-- 2>R ( x y -- ) R ( -- x y )
abbrev pub do_two_to_r : Action Effects
do_two_to_r = action_by do
  (x, y) ← two_in 0 2
  drop 2
  rpush x
  rpush y

-- 2R> ( -- x y ) R ( x y -- )
abbrev pub do_two_r_from : Action Effects
do_two_r_from = action_by do
  (x, y) ← two_rin 2 0
  rdrop 2
  push x
  push y

-- 2R@ ( -- x y ) R ( x y -- x y )
abbrev pub do_two_r_fetch : Action Effects
do_two_r_fetch = action_by do
  (x, y) ← two_rin 2 2
  push x
  push y
