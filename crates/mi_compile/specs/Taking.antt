-- What S" does with the text that it has parsed.
use Rattle.std.specs.Prelude.{[]}
use Rattle.mi_model.specs.declared.Span.{Span}
use Rattle.mi_model.specs.Layout.{state_cell}
use Rattle.mi_model.specs.Action.{Piece, ◌>>=◌, call}
use Rattle.mi_model.specs.Action.AnswerKind.{Effects}
use Rattle.mi_model.specs.Action.Operand.{At, Plain}
use Rattle.mi_model.specs.Parts.{choose, equal}
use Rattle.mi_model.specs.Strings.{keep_string, compile_string}

-- while interpreting the text is kept and pushed as a string, while compiling it is compiled as one
abbrev pub take_string : Span → Piece Effects (Unit {0})
take_string span = do
  interpreting ← equal (At state_cell) (Plain 0)
  choose interpreting (call (keep_string span) []) (call (compile_string span) [])
