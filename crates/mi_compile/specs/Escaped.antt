-- What S\" does with the text that it has parsed, step by step.
use Rattle.std.specs.Prelude.{ℕ, ◌≡◌, List, [], ◌++◌, length, Option, None, Some, Ok}
use Rattle.mi_model.specs.declared.Span.{Span}
use Rattle.mi_model.specs.Layout.{state_cell}
use Rattle.mi_model.specs.Ops.{Ops}
use Rattle.mi_model.specs.Machine.{Machine}
use Rattle.mi_model.specs.Action.{Action, Piece, ◌>>=◌, call, part_of}
use Rattle.mi_model.specs.Action.AnswerKind.{Effects, Texts}
use Rattle.mi_model.specs.Action.Operand.{At, Plain}
use Rattle.mi_model.specs.Parts.{choose, equal}
use Rattle.mi_model.specs.Parsing.{read_text}
use Rattle.mi_model.specs.Outcome.{outcome_of}
use Rattle.mi_model.specs.Escapes.{unescaped}
use Rattle.mi_model.specs.Strings.{good_text, keep_text, compile_text}
use Rattle.mi_text.specs.declared.escape_reader.EscapeReader.{EscapeReader}
use Rattle.mi_text.specs.Unescaped.{Reads}

-- a text of the region with its escapes replaced, or throw -24 where one is bad
abbrev pub replaced_text : Span → Action Texts
replaced_text span = part_of do
  bytes ← call (read_text span) []
  good_text (unescaped bytes)

-- a text of the region can be read, has no bad escape, and is this one once its escapes are replaced
abbrev pub StandsFor : {C B : Type 0} → Ops C B → Span → Machine C B → List ℕ → Type 0
StandsFor ops span m text = outcome_of ops (replaced_text span) m [] ≡ Ok (text, m)

-- while interpreting a text of n bytes before its escapes were replaced is kept and pushed, while compiling it is compiled
abbrev pub take_text : (n : ℕ) → List ℕ → Piece Effects (Unit {0})
take_text n text = do
  interpreting ← equal (At state_cell) (Plain 0)
  choose interpreting (call (keep_text n text) []) (call (compile_text n text) [])

-- the same of a text of the region, whose escapes are replaced first
abbrev pub take_escaped : Span → Piece Effects (Unit {0})
take_escaped span = do
  bytes ← call (read_text span) []
  text ← good_text (unescaped bytes)
  take_text span.length text

-- a reader has read this text, or there is none, and the text is bad whatever comes behind
abbrev pub HasRead : Option EscapeReader → List ℕ → Type 0
HasRead (Some reader) text = (given : List ℕ) × Reads reader text given
HasRead None text = (rest : List ℕ) → unescaped (text ++ rest) ≡ None
