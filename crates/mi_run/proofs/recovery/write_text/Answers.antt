use Rattle.std.proofs.Common.{ℕ, List, [], ◌∷◌, Err, sym, subst}
use Rattle.mi_model.specs.Recovery.{behind_blank}
use Rattle.mi_outside.specs.Puts.{output_of}
use Rattle.mi_run.specs.Course.{PutsPiece}
use Rattle.mi_run.proofs.Pieces.{piece_then, piece_more, failed_piece, behind_some}
use Rattle.mi_run.proofs.recovery.write_text.Goals as goal

pub returns-in_err-emit-clause-emits : goal.returns-in_err-emit-clause-emits
returns-in_err-emit-clause-emits g c =
    let text = c.args.text.now in
    let before = output_of (g.O.Sink.written c.args.output.now) c.args.gathered.now in
    let now = output_of (g.O.Sink.written c.emit.new.output) c.emit.new.gathered in
    let end = c.in_err-emit.field-0.0 in
    failed_piece c.from_residual.result end before now (behind_blank text) c.from_residual.ensures.1
    (subst (λ (xs : List ℕ). PutsPiece (Err end) before now xs) (sym (behind_some text c.if-is_empty.ensures)) (piece_more end before now (32 ∷ []) text c.in_err-emit.ensures.emits))

pub returns-clause-emits : goal.returns-clause-emits
returns-clause-emits g c =
    let text = c.args.text.now in
    let before = output_of (g.O.Sink.written c.args.output.now) c.args.gathered.now in
    let middle = output_of (g.O.Sink.written c.emit.new.output) c.emit.new.gathered in
    let now = output_of (g.O.Sink.written c.emit-2.new.output) c.emit-2.new.gathered in
    subst (λ (xs : List ℕ). PutsPiece c.emit-2.result before now xs) (sym (behind_some text c.if-is_empty.ensures))
    (piece_then c.emit-2.result before middle now (32 ∷ []) text c.in_ok-emit.ensures.emits
    (subst (λ (xs : List ℕ). PutsPiece c.emit-2.result middle now xs) c.as_bytes.ensures.value c.emit-2.ensures.emits))
