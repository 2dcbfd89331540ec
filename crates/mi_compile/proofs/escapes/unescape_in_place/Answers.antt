use Rattle.std.proofs.Common.{◌+◌, ◌≤◌, length, refl, sym, ap, ◌∙◌, arith}
use Rattle.std.proofs.lemmas.Result.{err_from_is_err_and}
use Rattle.mi_text.specs.Unescaped.{bytes_of}
use Rattle.mi_region.specs.View.{StateView}
use Rattle.mi_compile.proofs.Texts.{text_length}
use Rattle.mi_compile.proofs.Unescaping.{begins, no_more, next_fits, unescaping_next, can_be_read, is_no_bad_byte, is_no_bad_end, ends}
use Rattle.mi_compile.proofs.escapes.unescape_in_place.Goals as goal

pub bytes-init : goal.bytes-init
bytes-init g c = record {
  within = omega arith;
  ahead = omega arith;
  size = refl;
  stack = refl;
  so_far = begins g.A.Arith.ops c.args.state.now c.args.span c.new-reader.result c.new-reader.ensures;
}

pub returns-in_err-byte-clause-memory : goal.returns-in_err-byte-clause-memory
returns-in_err-byte-clause-memory g c =
    let p = err_from_is_err_and c.from_residual.result c.from_residual.ensures.1 in
    rw p.1 (λ text stands. absurd
    (can_be_read g.A.Arith.ops c.args.state.now c.args.span c.bytes.state c.bytes.reader c.bytes.i c.bytes.written c.in_err-byte.field-0.0 c.bytes.invariant.so_far (omega arith)
    (sym c.in_err-byte.was ∙ c.fetch_byte_at.ensures) text stands))

pub returns-in_default-clause-memory : goal.returns-in_default-clause-memory
returns-in_default-clause-memory g c = λ text stands. absurd
    (is_no_bad_byte g.A.Arith.ops c.args.state.now c.args.span c.bytes.state c.bytes.reader c.bytes.i c.bytes.written c.in_ok-byte.byte c.bytes.invariant.so_far (omega arith)
    (sym c.in_ok-byte.was ∙ c.fetch_byte_at.ensures) c.in_default.ensures.err text stands)

pub put_replaced-written-requires : goal.put_replaced-written-requires
put_replaced-written-requires g c =
    let fits : c.bytes.written + length (bytes_of c.in-Ok.replaced) ≤ c.bytes.i + 1 =
    next_fits g.A.Arith.ops c.args.state.now c.args.span c.bytes.state c.bytes.reader c.feed.new.self c.bytes.i c.bytes.written c.in_ok-byte.byte c.in-Ok.replaced c.bytes.invariant.so_far c.in-Ok.ensures.ok in
    omega arith

pub bytes-preserved : goal.bytes-preserved
bytes-preserved g c =
    let ops = g.A.Arith.ops in
    let s = c.args.state.now in
    let t = c.bytes.state in
    let next =
    unescaping_next ops s c.args.span t c.put_replaced-written.new.state c.bytes.reader c.feed.new.self c.bytes.i c.bytes.written c.put_replaced-written.result c.in_ok-byte.byte c.in-Ok.replaced
    c.bytes.invariant.so_far (omega arith) (sym c.in_ok-byte.was ∙ c.fetch_byte_at.ensures) c.in-Ok.ensures.ok c.put_replaced-written.ensures.count c.put_replaced-written.ensures.put in
    record {
      within = omega arith;
      ahead = no_more ops s c.args.span c.put_replaced-written.new.state c.feed.new.self (c.bytes.i + 1) (c.bytes.written + c.put_replaced-written.result) next;
      size =
          ap (λ (v : StateView _ _ _). length v.machine.bytes) c.put_replaced-written.ensures.put
          ∙ (text_length (ops t.arith) t.machine.bytes (c.args.span.place + c.bytes.written) (bytes_of c.in-Ok.replaced) ∙ c.bytes.invariant.size);
      stack = ap (λ (v : StateView _ _ _). v.machine.stack) c.put_replaced-written.ensures.put ∙ c.bytes.invariant.stack;
      so_far = next;
    }

pub returns-in-Err-clause-memory : goal.returns-in-Err-clause-memory
returns-in-Err-clause-memory g c = λ text stands. absurd
    (is_no_bad_end g.A.Arith.ops c.args.state.now c.args.span c.bytes.state c.bytes.reader c.bytes.i c.bytes.written c.bytes.invariant.so_far (omega arith) c.in-Err.ensures.err text stands)

pub returns-clause-put : goal.returns-clause-put
returns-clause-put g c = λ text stands.
    ends g.A.Arith.ops c.args.state.now c.args.span c.bytes.state c.clear.new.self c.bytes.reader c.bytes.i c.bytes.written c.bytes.invariant.so_far (omega arith)
    c.in_default-end.ensures.ok c.clear.ensures.bytes text stands
