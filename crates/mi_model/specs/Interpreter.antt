-- The text interpreter.
use Rattle.std.specs.Prelude.{ℕ, not, ◌==◌, Option, None, Some, Result, Ok, Err, [], ◌∷◌}
use Rattle.mi_model.specs.declared.BadBase.{BadBase}
use Rattle.mi_model.specs.declared.Effect.{Effect}
use Rattle.mi_model.specs.declared.Effect.TheVariants.{Went, Want}
use Rattle.mi_model.specs.declared.Wait.TheVariants.{Line}
use Rattle.mi_model.specs.declared.Span.{Span}
use Rattle.mi_model.specs.declared.Word.{Word}
use Rattle.mi_model.specs.Layout.{base_cell, state_cell, in_cell, source_address_cell, source_length_cell, source_number_cell}
use Rattle.mi_model.specs.Machine.{undefined_word, interpreting_compile_only, invalid_argument}
use Rattle.mi_model.specs.Action.{Action, Piece, ◌>>=◌, ◌>>◌, give, call, part_of}
use Rattle.mi_model.specs.Action.Operand.{At, Plain, Address}
use Rattle.mi_model.specs.Action.AnswerKind.{Effects, Nothing}
use Rattle.mi_model.specs.Parts.{throw, require, choose, needs, five_rin, rdrop, push, equal, number, put_cell, set_ip, set_due, set_wait, compile, compile_literal}
use Rattle.mi_model.specs.Parsing.{parse_name, read_text}
use Rattle.mi_model.specs.Numbers.{number_text}
use Rattle.mi_model.specs.Lookup.{find}
use Rattle.mi_model.specs.Lookup.SoughtName.{InRegion}

-- goes on with the source that EVALUATE left: >IN, source number, length, address and ip come from the return stack,
-- the top first
unfoldable pub resume_source : Action Nothing
resume_source = part_of do
  (ip, address, length, source_number, in_offset) ← five_rin
  put_cell in_cell in_offset
  put_cell source_number_cell source_number
  put_cell source_length_cell length
  put_cell source_address_cell address
  rdrop 5
  set_ip ip

-- at the end of the source: inside EVALUATE the source before it goes on, else the next line is wanted
unfoldable pub end_of_source : Action Effects
end_of_source = part_of do
  outside ← equal (At source_number_cell) (Plain 0)
  choose outside (do
    set_wait Line
    give Want) do
      call resume_source []
      give Went

-- the word's token is due
abbrev pub run_word : Word → Piece Effects Effect
run_word word = do
  set_due (Address word.token)
  give Went

-- a word in the source: while interpreting it runs, but one that is compile-only is throw -14; while compiling one that
-- is immediate runs, and any other is compiled
unfoldable pub interpret_word : Word → Action Effects
interpret_word word = part_of do
  interpreting ← equal (At state_cell) (Plain 0)
  choose interpreting (do
    require (not word.compile_only) interpreting_compile_only
    run_word word) do
      choose word.immediate (run_word word) do
        call compile (Address word.token ∷ [])
        give Went

-- a number in the source: while interpreting it is pushed, while compiling it is compiled as a literal
unfoldable pub take_number : ℕ → Action Effects
take_number n = part_of do
  interpreting ← equal (At state_cell) (Plain 0)
  choose interpreting (do
    needs 0 1 0 0
    push (Plain n)
    give Went) do
      call compile_literal (Plain n ∷ [])
      give Went

-- a text that was read as a number
abbrev pub interpret_number : Result (Option ℕ) BadBase → Piece Effects Effect
interpret_number (Err bad) = throw invalid_argument
interpret_number (Ok None) = throw undefined_word
interpret_number (Ok (Some n)) = call (take_number n) []

-- a name that is no word is read as a number, for which BASE is read first; no number is throw -13
unfoldable pub interpret_text : Span → Action Effects
interpret_text span = part_of do
  base ← number (At base_cell)
  text ← call (read_text span) []
  interpret_number (number_text base text)

-- a name that was looked up
abbrev pub interpret_found : Span → Option Word → Piece Effects Effect
interpret_found span None = call (interpret_text span) []
interpret_found span (Some word) = call (interpret_word word) []

-- a name that was parsed, or none at the end of the source
unfoldable pub interpret_name : Span → Action Effects
interpret_name span = part_of do
  choose (span.length == 0) (call end_of_source []) do
    found ← call (find (InRegion span.place span.length)) []
    interpret_found span found

-- (INTERPRET): parses a name; a word is run or compiled, and a number pushed or compiled; at the end of the source the
-- one before it goes on, or a line is wanted
abbrev pub do_interpret : Action Effects
do_interpret = part_of do
  span ← call parse_name []
  call (interpret_name span) []
