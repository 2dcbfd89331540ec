-- Giving a line, or the end of the input, to a machine that waits.
use Rattle.std.specs.Prelude.{ℕ, true, min, nat_le, List, [], ◌∷◌, length, take}
use Rattle.mi_model.specs.declared.Effect.{Effect}
use Rattle.mi_model.specs.declared.Effect.TheVariants.{Went, Halt}
use Rattle.mi_model.specs.declared.Wait.{Wait}
use Rattle.mi_model.specs.declared.Wait.TheVariants.{Idle, Line, Refill, Accept}
use Rattle.mi_model.specs.Layout.{in_cell, source_address_cell, source_length_cell, source_number_cell, line_buffer}
use Rattle.mi_model.specs.Machine.{parsed_string_overflow}
use Rattle.mi_model.specs.Action.{Operand, Action, Piece, ◌>>=◌, ◌>>◌, give, call, part_of}
use Rattle.mi_model.specs.Action.Operand.{Named, Plain, Address}
use Rattle.mi_model.specs.Action.AnswerKind.{Effects, Nothing}
use Rattle.mi_model.specs.Parts.{require, needs, push, flag, range, put_cell, put_text, take_wait}

-- the line goes to the line buffer, which is then the source
unfoldable pub interpret_line : List ℕ → Action Nothing
interpret_line text = part_of do
  put_text line_buffer text
  put_cell source_address_cell (Address line_buffer)
  put_cell source_length_cell (Plain (length text))
  put_cell source_number_cell (Plain 0)
  put_cell in_cell (Plain 0)

-- the same for REFILL, which pushes true
unfoldable pub refill_line : List ℕ → Action Nothing
refill_line text = part_of do
  needs 0 1 0 0
  call (interpret_line text) []
  push (flag true)

-- for ACCEPT: so many bytes of the line, its first ones, go to the address that this is called with, and their number
-- is pushed
unfoldable pub accept_line : (count : ℕ) → List ℕ → Action Nothing
accept_line count text = part_of do
  needs 0 1 0 0
  o ← range count (Named 0)
  put_text o (take count text)
  push (Plain count)

-- a line by what is waited for; ACCEPT takes as many bytes as it wants, or all where there are fewer
abbrev pub line_to : Wait Operand → List ℕ → Piece Nothing (Unit {0})
line_to Idle text = give tt
line_to Line text = call (interpret_line text) []
line_to Refill text = call (refill_line text) []
line_to (Accept address count) text = call (accept_line (min count (length text)) text) (address ∷ [])

-- a line of at most 1,020 bytes
unfoldable pub give_line : List ℕ → Action Nothing
give_line text = part_of do
  require (nat_le (length text) 1020) parsed_string_overflow
  wait ← take_wait
  line_to wait text

-- what REFILL and ACCEPT push at the end of the input: false, which is 0 too
unfoldable pub push_none : Action Nothing
push_none = part_of do
  needs 0 1 0 0
  push (Plain 0)

-- the end by what is waited for: the text interpreter halts
abbrev pub end_to : Wait Operand → Piece Effects Effect
end_to Idle = give Went
end_to Line = give Halt
end_to Refill = do
  call push_none []
  give Went
end_to (Accept address count) = do
  call push_none []
  give Went

-- the end of the input
unfoldable pub give_end : Action Effects
give_end = part_of do
  wait ← take_wait
  end_to wait
