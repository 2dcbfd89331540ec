-- The finish of a build.
use Rattle.std.specs.Prelude.{ℕ, ◌-◌, List, [], Option, None, Some}
use Rattle.mi_model.specs.declared.Finished.{Finished}
use Rattle.mi_model.specs.declared.Finished.TheVariants.{Ready, NoEntry}
use Rattle.mi_model.specs.declared.Word.{Word}
use Rattle.mi_model.specs.Layout.{state_cell, in_cell, source_address_cell, source_length_cell, source_number_cell, leaves_cell, hld_cell, entry_cell, string_turn_cell, line_buffer, hold_end}
use Rattle.mi_model.specs.Machine.{unexpected_end}
use Rattle.mi_model.specs.Action.{Action, Piece, ◌>>=◌, ◌>>◌, give, call, part_of}
use Rattle.mi_model.specs.Action.Operand.{At, Plain, Address}
use Rattle.mi_model.specs.Action.AnswerKind.{Nothing, Finishes}
use Rattle.mi_model.specs.Parts.{require, equal, size, put_cell, clear, empty_stacks, here, aligned}
use Rattle.mi_model.specs.Lookup.{find}
use Rattle.mi_model.specs.Lookup.SoughtName.{Given}

-- the system cells that a build leaves as the seed has them
unfoldable pub restored_system : Action Nothing
restored_system = part_of do
  put_cell state_cell (Plain 0)
  put_cell in_cell (Plain 0)
  put_cell source_address_cell (Address line_buffer)
  put_cell source_length_cell (Plain 0)
  put_cell source_number_cell (Plain 0)
  put_cell leaves_cell (Plain 1)
  put_cell hld_cell (Address hold_end)
  put_cell string_turn_cell (Plain 0)

-- the buffers and all from an offset on cleared, and empty stacks
unfoldable pub cleared_from : (p : ℕ) → Action Nothing
cleared_from p = part_of do
  clear line_buffer 3584
  s ← size
  clear p (s - p)
  empty_stacks

-- both, for DP's offset
unfoldable pub tidy_region : (p : ℕ) → Action Nothing
tidy_region p = part_of do
  call restored_system []
  call (cleared_from p) []

-- the region is ready; what is in use ends at DP's offset, rounded up
abbrev pub ready : Piece Finishes Finished
ready = do
  p ← call here []
  call (tidy_region p) []
  give (Ready (aligned p))

-- with an entry word, whose token goes to the cell ENTRY
abbrev pub ready_at : Option Word → Piece Finishes Finished
ready_at None = give NoEntry
ready_at (Some word) = do
  p ← call here []
  put_cell entry_cell (Address word.token)
  call (tidy_region p) []
  give (Ready (aligned p))

abbrev pub finish_by : Option (List ℕ) → Piece Finishes Finished
finish_by None = ready
finish_by (Some entry) = do
  found ← call (find (Given entry)) []
  ready_at found

-- the finish, with the name of an entry word or none; a build that ends while a definition is open is throw -39
unfoldable pub finish : Option (List ℕ) → Action Finishes
finish entry = part_of do
  interpreting ← equal (At state_cell) (Plain 0)
  require interpreting unexpected_end
  finish_by entry
