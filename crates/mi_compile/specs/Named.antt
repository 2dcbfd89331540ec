-- What the words do with a name once they have read it from the source.
use Rattle.std.specs.Prelude.{ℕ, [], ◌∷◌}
use Rattle.mi_model.specs.declared.Span.{Span}
use Rattle.mi_model.specs.Layout.{state_cell}
use Rattle.mi_model.specs.Machine.{invalid_name_argument}
use Rattle.mi_model.specs.Action.{Action, ◌>>=◌, ◌>>◌, action_by, call, part_of}
use Rattle.mi_model.specs.Action.Operand.{At, Plain, Address}
use Rattle.mi_model.specs.Action.AnswerKind.{Effects, Nothing}
use Rattle.mi_model.specs.Parts.{require, choose, name, equal, tag, fetch, compile, compile_literal_and, ◌add◌}
use Rattle.mi_model.specs.Headers.{header_place, write_hidden_header}
use Rattle.mi_model.specs.Defining.{open_definition}
use Rattle.mi_model.specs.Searching.{named_word, is_tag}
use Rattle.mi_model.specs.Values.{store_item}

-- a definition of the name begins
unfoldable pub begin_definition : Span → Action Effects
begin_definition span = action_by do
  place ← call (header_place span 0) []
  call (write_hidden_header 1 span place) []  -- (DOCOL)
  call (open_definition place.header) []

-- the name's word is compiled if it is immediate, and else what compiles it
unfoldable pub postpone_word : Span → Action Effects
postpone_word span = action_by do
  word ← call (named_word span) []
  choose word.immediate
      (call compile (Address word.token ∷ []))
      (call (compile_literal_and 71) (Address word.token ∷ []))  -- ,

-- the name's word has the code of this tag; while interpreting an item is stored in the first cell of its body, while
-- compiling that cell's address and ! are compiled
unfoldable pub assign_word : (tag : ℕ) → Span → Action Nothing
assign_word t span = part_of do
  word ← call (named_word span) []
  code ← fetch (Address word.token)
  found ← tag code
  require (is_tag t found) invalid_name_argument
  target ← name (Address word.token add Plain 16)
  interpreting ← equal (At state_cell) (Plain 0)
  choose interpreting (call store_item (target ∷ [])) (call (compile_literal_and 63) (target ∷ []))  -- 63: !
