use Rattle.std.proofs.Common.{◌≡◌, ℕ, List, [], ◌∷◌, ◌++◌, codes, Ok, Err, to_z-of_z, ap, subst, ◌∙◌}
use Rattle.std.specs.Fmt.{signed_decimal}
use Rattle.mi_model.specs.Recovery.{behind_blank}
use Rattle.mi_model.specs.Throws.{throw_text_of}
use Rattle.mi_outside.specs.Puts.{output_of, Puts}
use Rattle.mi_run.specs.Course.{PutsPiece}
use Rattle.mi_run.proofs.Pieces.{piece_then, piece_more, failed_piece}
use Rattle.mi_run.proofs.recovery.write_throw.Goals as goal

pub returns-in_err-emit-clause-emits : goal.returns-in_err-emit-clause-emits
returns-in_err-emit-clause-emits g c =
    let digits = signed_decimal c.args.code in
    let text = behind_blank (throw_text_of c.args.code) in
    let all = codes "? " ++ digits ++ text ++ (10 ∷ []) in
    let w0 = output_of (g.O.Sink.written c.args.output.now) c.args.gathered.now in
    let w1 = output_of (g.O.Sink.written c.emit.new.output) c.emit.new.gathered in
    let end = c.in_err-emit.field-0.0 in
    failed_piece c.from_residual.result end w0 w1 all c.from_residual.ensures.1
    (piece_more end w0 w1 (codes "? " ++ digits ++ text) (10 ∷ []) (piece_more end w0 w1 (codes "? " ++ digits) text (piece_more end w0 w1 (codes "? ") digits c.in_err-emit.ensures.emits)))

pub returns-in_err-emit-2-clause-emits : goal.returns-in_err-emit-2-clause-emits
returns-in_err-emit-2-clause-emits g c =
    let digits = signed_decimal c.args.code in
    let text = behind_blank (throw_text_of c.args.code) in
    let all = codes "? " ++ digits ++ text ++ (10 ∷ []) in
    let w0 = output_of (g.O.Sink.written c.args.output.now) c.args.gathered.now in
    let w1 = output_of (g.O.Sink.written c.emit.new.output) c.emit.new.gathered in
    let w2 = output_of (g.O.Sink.written c.emit-2.new.output) c.emit-2.new.gathered in
    let is_digits : c.as_bytes.result.now ≡ digits = c.as_bytes.ensures.value ∙ c.format.ensures.text ∙ ap signed_decimal (to_z-of_z c.ranges.code) in
    let end = c.in_err-emit-2.field-0.0 in
    failed_piece c.from_residual-in_err-emit-2.result end w0 w2 all c.from_residual-in_err-emit-2.ensures.1
    (piece_more end w0 w2 (codes "? " ++ digits ++ text) (10 ∷ []) (piece_more end w0 w2 (codes "? " ++ digits) text
    (piece_then (Err end) w0 w1 w2 (codes "? ") digits c.in_ok-emit.ensures.emits (subst (λ (xs : List ℕ). PutsPiece (Err end) w1 w2 xs) is_digits c.in_err-emit-2.ensures.emits))))

pub returns-in_err-write_text-clause-emits : goal.returns-in_err-write_text-clause-emits
returns-in_err-write_text-clause-emits g c =
    let digits = signed_decimal c.args.code in
    let text = behind_blank (throw_text_of c.args.code) in
    let all = codes "? " ++ digits ++ text ++ (10 ∷ []) in
    let w0 = output_of (g.O.Sink.written c.args.output.now) c.args.gathered.now in
    let w1 = output_of (g.O.Sink.written c.emit.new.output) c.emit.new.gathered in
    let w2 = output_of (g.O.Sink.written c.emit-2.new.output) c.emit-2.new.gathered in
    let is_digits : c.as_bytes.result.now ≡ digits = c.as_bytes.ensures.value ∙ c.format.ensures.text ∙ ap signed_decimal (to_z-of_z c.ranges.code) in
    let first : Puts w0 w2 (codes "? " ++ digits) =
    piece_then (Ok tt) w0 w1 w2 (codes "? ") digits c.in_ok-emit.ensures.emits (subst (λ (xs : List ℕ). Puts w1 w2 xs) is_digits c.in_ok-emit-2.ensures.emits) in
    let w3 = output_of (g.O.Sink.written c.write_text.new.output) c.write_text.new.gathered in
    let is_text : behind_blank c.throw_text.result.now ≡ text = ap behind_blank (c.throw_text.ensures ∙ ap throw_text_of (to_z-of_z c.ranges.code)) in
    let end = c.in_err-write_text.field-0.0 in
    failed_piece c.from_residual-in_err-write_text.result end w0 w3 all c.from_residual-in_err-write_text.ensures.1
    (piece_more end w0 w3 (codes "? " ++ digits ++ text) (10 ∷ [])
    (piece_then (Err end) w0 w2 w3 (codes "? " ++ digits) text first (subst (λ (xs : List ℕ). PutsPiece (Err end) w2 w3 xs) is_text c.in_err-write_text.ensures.emits)))

pub returns-clause-emits : goal.returns-clause-emits
returns-clause-emits g c =
    let digits = signed_decimal c.args.code in
    let text = behind_blank (throw_text_of c.args.code) in
    let all = codes "? " ++ digits ++ text ++ (10 ∷ []) in
    let w0 = output_of (g.O.Sink.written c.args.output.now) c.args.gathered.now in
    let w1 = output_of (g.O.Sink.written c.emit.new.output) c.emit.new.gathered in
    let w2 = output_of (g.O.Sink.written c.emit-2.new.output) c.emit-2.new.gathered in
    let is_digits : c.as_bytes.result.now ≡ digits = c.as_bytes.ensures.value ∙ c.format.ensures.text ∙ ap signed_decimal (to_z-of_z c.ranges.code) in
    let first : Puts w0 w2 (codes "? " ++ digits) =
    piece_then (Ok tt) w0 w1 w2 (codes "? ") digits c.in_ok-emit.ensures.emits (subst (λ (xs : List ℕ). Puts w1 w2 xs) is_digits c.in_ok-emit-2.ensures.emits) in
    let w3 = output_of (g.O.Sink.written c.write_text.new.output) c.write_text.new.gathered in
    let is_text : behind_blank c.throw_text.result.now ≡ text = ap behind_blank (c.throw_text.ensures ∙ ap throw_text_of (to_z-of_z c.ranges.code)) in
    let w4 = output_of (g.O.Sink.written c.emit-3.new.output) c.emit-3.new.gathered in
    piece_then c.emit-3.result w0 w3 w4 (codes "? " ++ digits ++ text) (10 ∷ [])
    (piece_then (Ok tt) w0 w2 w3 (codes "? " ++ digits) text first (subst (λ (xs : List ℕ). Puts w2 w3 xs) is_text c.in_ok-write_text.ensures.emits))
    c.emit-3.ensures.emits
