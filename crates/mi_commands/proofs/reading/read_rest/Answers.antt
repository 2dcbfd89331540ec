use Rattle.std.proofs.Common.{rules, arith, Ok, Err, true, false}
use Rattle.std.proofs.lemmas.Result.{err_from_is_err_and}
use Rattle.mi_commands.specs.Pieces.{ReadsPiece, ReadsRest}
use Rattle.mi_commands.proofs.Told.{while_then}
use Rattle.mi_commands.proofs.ReadingSteps.{IsReadTo, read_to_more, read_to_end, read_to_refusal}
use Rattle.mi_commands.proofs.reading.read_rest.Goals as goal

pub returns-in_err-read_piece-clause-read : goal.returns-in_err-read_piece-clause-read
returns-in_err-read_piece-clause-read g c =
    let p = err_from_is_err_and c.from_residual.result c.from_residual.ensures.1 in
    rw (p.1, p.2)
    (while_then (IsReadTo c.loop-text.text.items) (ReadsPiece (Err c.in_err-read_piece.field-0.0) c.loop-text.text.items c.read_piece.new.text.items)
    (ReadsRest (Err c.in_err-read_piece.field-0.0)) (read_to_refusal _ _ _) _ _ _ c.loop-text.invariant.read c.in_err-read_piece.ensures.read)

pub loop-text-preserved : goal.loop-text-preserved
loop-text-preserved g c =
    let piece = rw c.if-branch.true at c.in_ok-read_piece.ensures.read in
    record {
      read = while_then (IsReadTo c.loop-text.text.items) (ReadsPiece (Ok true) c.loop-text.text.items c.read_piece.new.text.items)
          (IsReadTo c.read_piece.new.text.items) (read_to_more _ _) _ _ _ c.loop-text.invariant.read piece;
      short = c.in_ok-read_piece.ensures.short;
      room = search rules;
      later = omega (arith, c.loop-text.invariant.later, c.in_ok-read_piece.ensures.later);
    }

pub returns-clause-read : goal.returns-clause-read
returns-clause-read g c =
    let piece = rw c.if-branch.false at c.in_ok-read_piece.ensures.read in
    while_then (IsReadTo c.loop-text.text.items) (ReadsPiece (Ok false) c.loop-text.text.items c.read_piece.new.text.items)
    (ReadsRest (Ok c.read_piece.new.text)) (read_to_end _ c.read_piece.new.text) _ _ _ c.loop-text.invariant.read piece
