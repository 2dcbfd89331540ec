-- The actions on sources and input, and the one that emits.
use Rattle.std.specs.Prelude.{false, []}
use Rattle.mi_model.specs.declared.Effect.TheVariants.{Went, Emit, Want}
use Rattle.mi_model.specs.declared.Wait.TheVariants.{Refill, Accept}
use Rattle.mi_model.specs.Layout.{state_cell, in_cell, source_address_cell, source_length_cell, source_number_cell, interpreter_loop, line_buffer}
use Rattle.mi_model.specs.Action.{Action, ◌>>=◌, ◌>>◌, action_by, give, call, part_of}
use Rattle.mi_model.specs.Action.Operand.{At, Ip, Plain, Address}
use Rattle.mi_model.specs.Action.AnswerKind.{Effects, Nothing}
use Rattle.mi_model.specs.Parts.{choose, needs, one_in, two_in, drop, push, rpush, empty_return_stack, minus_one, flag, name, equal, number, low_byte, range, put_cell, set_ip, set_wait}

-- the text interpreter begins anew: it interprets, the source is the line buffer with the length 0 and the number 0, the
-- return stack is empty, and ip is at the interpreter's loop; the data stack stays
unfoldable pub restart : Action Nothing
restart = part_of do
  put_cell state_cell (Plain 0)
  put_cell in_cell (Plain 0)
  put_cell source_length_cell (Plain 0)
  put_cell source_number_cell (Plain 0)
  put_cell source_address_cell (Address line_buffer)
  empty_return_stack
  set_ip (Address interpreter_loop)

-- QUIT ( -- ) R ( .. -- )
abbrev pub do_quit : Action Effects
do_quit = action_by (call restart [])

-- EVALUATE ( a u -- ) R ( -- ip address length number in ): the text is the source, with the number -1, until its end;
-- the source before it waits on the return stack
abbrev pub do_evaluate : Action Effects
do_evaluate = action_by do
  (a, u) ← two_in 0 5
  address ← name (At source_address_cell)
  length ← name (At source_length_cell)
  source_number ← name (At source_number_cell)
  in_offset ← name (At in_cell)
  put_cell source_address_cell a
  put_cell source_length_cell u
  put_cell source_number_cell minus_one
  put_cell in_cell (Plain 0)
  drop 2
  rpush Ip
  rpush address
  rpush length
  rpush source_number
  rpush in_offset
  set_ip (Address interpreter_loop)

-- REFILL ( -- f ): inside EVALUATE false; else a line is wanted, and the flag is pushed when it comes
abbrev pub do_refill : Action Effects
do_refill = part_of do
  needs 0 1 0 0
  outside ← equal (At source_number_cell) (Plain 0)
  choose outside (do
    set_wait Refill
    give Want) do
      push (flag false)
      give Went

-- ACCEPT ( a u -- n ): a line is wanted, of which at most u bytes go to a, and their number is pushed when it comes
abbrev pub do_accept : Action Effects
do_accept = part_of do
  (a, u) ← two_in 1 0
  count ← number u
  range count a
  set_wait (Accept a count)
  drop 2
  give Want

-- EMIT ( c -- ): emits the low byte of c
abbrev pub do_emit : Action Effects
do_emit = part_of do
  c ← one_in 0 0
  byte ← low_byte c
  drop 1
  give (Emit byte)
