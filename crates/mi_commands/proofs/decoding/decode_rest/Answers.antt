use Rattle.std.proofs.Common.{rules, arith, Ok, Err, true, false}
use Rattle.std.proofs.lemmas.Result.{err_from_is_err_and}
use Rattle.mi_commands.specs.Decoding.{fed, DecodesRest, FeedsPiece}
use Rattle.mi_commands.proofs.Told.{while_then}
use Rattle.mi_commands.proofs.DecodingSteps.{IsFedTo, fed_more, fed_all, fed_refused, image_decoded, end_refused}
use Rattle.mi_commands.proofs.decoding.decode_rest.Goals as goal

pub returns-in_err-feed_piece-clause-read : goal.returns-in_err-feed_piece-clause-read
returns-in_err-feed_piece-clause-read g c =
    let p = err_from_is_err_and c.from_residual.result c.from_residual.ensures.1 in
    rw (p.1, p.2)
    (while_then (IsFedTo (fed c.pieces.decoder)) (FeedsPiece (Err c.in_err-feed_piece.field-0.0) (fed c.pieces.decoder) (fed c.feed_piece.new.decoder))
    (DecodesRest (Err c.in_err-feed_piece.field-0.0)) (fed_refused _ _ _) _ _ _ c.pieces.invariant.read c.in_err-feed_piece.ensures.read)

pub pieces-preserved : goal.pieces-preserved
pieces-preserved g c =
    let piece = rw c.if-branch.true at c.in_ok-feed_piece.ensures.read in
    record {
      read = while_then (IsFedTo (fed c.pieces.decoder)) (FeedsPiece (Ok true) (fed c.pieces.decoder) (fed c.feed_piece.new.decoder))
          (IsFedTo (fed c.feed_piece.new.decoder)) (fed_more _ _) _ _ _ c.pieces.invariant.read piece;
      feeding = c.in_ok-feed_piece.ensures.feeding;
      room = search rules;
      later = omega (arith, c.pieces.invariant.later, c.in_ok-feed_piece.ensures.later);
    }

pub returns-in-Ok-clause-read : goal.returns-in-Ok-clause-read
returns-in-Ok-clause-read g c =
    let piece = rw c.if-branch.false at c.in_ok-feed_piece.ensures.read in
    let decoder = c.feed_piece.new.decoder in
    let right = image_decoded decoder c.in-Ok.image c.in_ok-feed_piece.ensures.feeding c.in-Ok.ensures.image in
    while_then (IsFedTo (fed c.pieces.decoder)) (FeedsPiece (Ok false) (fed c.pieces.decoder) (fed decoder))
    (DecodesRest (Ok c.in-Ok.image)) (λ x y z r s. fed_all (Ok c.in-Ok.image) (fed c.pieces.decoder) (fed decoder) x y z right r s) _ _ _ c.pieces.invariant.read piece

pub returns-in-Err-clause-read : goal.returns-in-Err-clause-read
returns-in-Err-clause-read g c =
    let piece = rw c.if-branch.false at c.in_ok-feed_piece.ensures.read in
    let decoder = c.feed_piece.new.decoder in
    let right = end_refused decoder c.in-Err.fault c.outcome_of.result c.in_ok-feed_piece.ensures.feeding c.outcome_of.ensures.outcome c.in-Err.ensures.refused in
    while_then (IsFedTo (fed c.pieces.decoder)) (FeedsPiece (Ok false) (fed c.pieces.decoder) (fed decoder))
    (DecodesRest (Err c.outcome_of.result)) (λ x y z r s. fed_all (Err c.outcome_of.result) (fed c.pieces.decoder) (fed decoder) x y z right r s) _ _ _ c.pieces.invariant.read piece
