-- The actions on memory and data space.
use Rattle.std.specs.Prelude.{◌+◌, ◌-◌, ◌&&◌, nat_le, [], ◌∷◌}
use Rattle.mi_model.specs.Layout.{dp_cell, dictionary}
use Rattle.mi_model.specs.Machine.{dictionary_overflow}
use Rattle.mi_model.specs.Plain.{wrapped}
use Rattle.mi_model.specs.Action.{Action, ◌>>=◌, ◌>>◌, action_by, call}
use Rattle.mi_model.specs.Action.Operand.{At, Plain, Address}
use Rattle.mi_model.specs.Action.AnswerKind.{Effects}
use Rattle.mi_model.specs.Parts.{require, needs, one_in, two_in, three_in, drop, push, size, name, number, low_byte, cell_place, byte_place, range, fetch, fetch_byte, put_cell, put_byte, move_bytes, fill, aligned_cell, here, compile, ◌add◌}

-- @ ( a -- x )
abbrev pub do_fetch : Action Effects
do_fetch = action_by do
  a ← one_in 1 0
  x ← fetch a
  drop 1
  push x

-- ! ( x a -- )
abbrev pub do_store : Action Effects
do_store = action_by do
  (x, a) ← two_in 0 0
  o ← cell_place a
  put_cell o x
  drop 2

-- C@ ( a -- c )
abbrev pub do_c_fetch : Action Effects
do_c_fetch = action_by do
  a ← one_in 1 0
  c ← fetch_byte a
  drop 1
  push (Plain c)

-- C! ( x a -- ): stores the low byte of x
abbrev pub do_c_store : Action Effects
do_c_store = action_by do
  (x, a) ← two_in 0 0
  c ← low_byte x
  o ← byte_place a
  put_byte o c
  drop 2

-- MOVE ( a b u -- ): copies u bytes from a to b, as if through a copy
abbrev pub do_move : Action Effects
do_move = action_by do
  (a, b, u) ← three_in 0 0
  n ← number u
  from ← range n a
  to ← range n b
  move_bytes from to n
  drop 3

-- FILL ( a u c -- ): u bytes, from a on, become the low byte of c
abbrev pub do_fill : Action Effects
do_fill = action_by do
  (a, u, c) ← three_in 0 0
  n ← number u
  b ← low_byte c
  o ← range n a
  fill o n b
  drop 3

-- REGION ( -- a ): the address of the region's first byte
abbrev pub do_region : Action Effects
do_region = action_by do
  needs 0 1 0 0
  push (Address 0)

-- HERE ( -- a )
abbrev pub do_here : Action Effects
do_here = action_by do
  needs 0 1 0 0
  call here []
  push (At dp_cell)

-- ALLOT ( n -- ): HERE goes on by n bytes, which may be negative, and stays from 4096 to the size, else throw -8; the
-- sum of its offset and n is taken modulo 2^64, where one that is negative lies above every size
abbrev pub do_allot : Action Effects
do_allot = action_by do
  n ← one_in 0 0
  count ← number n
  p ← call here []
  s ← size
  require (nat_le dictionary (wrapped (p + count)) && nat_le (wrapped (p + count)) s) dictionary_overflow
  next ← name (At dp_cell add n)
  put_cell dp_cell next
  drop 1

-- , ( x -- )
abbrev pub do_comma : Action Effects
do_comma = action_by do
  x ← one_in 0 0
  call compile (x ∷ [])
  drop 1

-- C, ( c -- ): the low byte of c at HERE, which goes on by one; throw -8 where it doesn't fit
abbrev pub do_c_comma : Action Effects
do_c_comma = action_by do
  x ← one_in 0 0
  c ← low_byte x
  p ← call here []
  s ← size
  require (nat_le (p + 1) s) dictionary_overflow
  next ← name (At dp_cell add Plain 1)
  put_byte p c
  put_cell dp_cell next
  drop 1

-- ALIGN ( -- ): HERE goes on to the next multiple of 8
abbrev pub do_align : Action Effects
do_align = action_by do
  call here []
  next ← name (aligned_cell (At dp_cell))
  put_cell dp_cell next

-- UNUSED ( -- u ): the bytes from HERE to the end of the region
abbrev pub do_unused : Action Effects
do_unused = action_by do
  needs 0 1 0 0
  p ← call here []
  s ← size
  push (Plain (s - p))
