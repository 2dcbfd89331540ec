-- The actions of the words that change values and deferred words.
use Rattle.std.specs.Prelude.{ℕ, [], ◌∷◌}
use Rattle.mi_model.specs.Layout.{state_cell}
use Rattle.mi_model.specs.Machine.{invalid_name_argument}
use Rattle.mi_model.specs.Action.{Action, ◌>>=◌, ◌>>◌, action_by, call, part_of}
use Rattle.mi_model.specs.Action.Operand.{Named, At, Plain, Address}
use Rattle.mi_model.specs.Action.AnswerKind.{Effects, Nothing}
use Rattle.mi_model.specs.Parts.{require, choose, one_in, drop, name, equal, cell_place, tag, fetch, put_cell, compile_literal_and, ◌add◌}
use Rattle.mi_model.specs.Parsing.{parse_name}
use Rattle.mi_model.specs.Searching.{named_word, is_tag}

-- stores the item at the address that it is called with
unfoldable pub store_item : Action Nothing
store_item = part_of do
  o ← cell_place (Named 0)
  x ← one_in 0 0
  put_cell o x
  drop 1

-- the next name of the source is a word with the code of this tag; while interpreting an item is stored in the first cell
-- of its body, while compiling that cell's address and ! are compiled
unfoldable pub assign : (tag : ℕ) → Action Nothing
assign t = part_of do
  span ← call parse_name []
  word ← call (named_word span) []
  code ← fetch (Address word.token)
  found ← tag code
  require (is_tag t found) invalid_name_argument
  target ← name (Address word.token add Plain 16)
  interpreting ← equal (At state_cell) (Plain 0)
  choose interpreting (call store_item (target ∷ [])) (call (compile_literal_and 63) (target ∷ []))  -- 63: !

-- TO ( x -- ) or ( -- ): a value
abbrev pub do_to : Action Effects
do_to = action_by (call (assign 4) [])  -- (DOVALUE)

-- IS ( x -- ) or ( -- ): a deferred word
abbrev pub do_is : Action Effects
do_is = action_by (call (assign 5) [])  -- (DODEFER)
