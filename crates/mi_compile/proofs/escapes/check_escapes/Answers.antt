use Rattle.std.proofs.Common.{◌≡◌, ℕ, [], ◌∷◌, ◌++◌, ◌+◌, ◌-◌, sym, ap, ◌∙◌, arith}
use Rattle.std.proofs.lemmas.Result.{err_from_is_err_and}
use Rattle.mi_compile.proofs.Reading.{read_bytes, read_next, read_fault, read_end, read_stands, read_fails, escape_fails}
use Rattle.mi_compile.proofs.escapes.check_escapes.Goals as goal

pub bytes-init : goal.bytes-init
bytes-init g c =
    let bytes = c.args.state.now.machine.bytes in
    let e : c.args.span.place + 0 ≡ c.args.span.place = omega arith in
    let f : c.args.span.length - 0 ≡ c.args.span.length = omega arith in
    record {
      within = omega arith;
      read = (
        [],
        ([], c.new.ensures),
        ap (λ (k : ℕ). read_bytes (g.A.Arith.ops c.args.state.now.arith) bytes k (c.args.span.place + 0) []) f
            ∙ ap (λ (o : ℕ). read_bytes (g.A.Arith.ops c.args.state.now.arith) bytes c.args.span.length o []) e,
      );
    }

pub bytes-preserved : goal.bytes-preserved
bytes-preserved g c =
    let before = c.bytes.invariant.read in
    let next =
    read_next (g.A.Arith.ops c.args.state.now.arith) c.args.state.now.machine.bytes c.args.span.length c.bytes.i c.args.span.place before.0 c.in_ok-byte.byte (omega arith)
    (sym c.fetch_byte_at.ensures ∙ c.in_ok-byte.was) in
    record {
      within = omega arith;
      read = (before.0 ++ c.in_ok-byte.byte ∷ [], c.read_more-reader.ensures before.0 before.1, sym next ∙ before.2);
    }

pub returns-in_err-byte-clause-bad : goal.returns-in_err-byte-clause-bad
returns-in_err-byte-clause-bad g c =
    let p = err_from_is_err_and c.from_residual.result c.from_residual.ensures.1 in
    let before = c.bytes.invariant.read in
    let ops = g.A.Arith.ops c.args.state.now.arith in
    let none =
    read_fault ops c.args.state.now.machine.bytes c.args.span.length c.bytes.i c.args.span.place before.0 c.in_err-byte.field-0.0 (omega arith) (sym c.fetch_byte_at.ensures ∙ c.in_err-byte.was) in
    let fails = read_fails ops c.args.span c.args.state.now.machine c.in_err-byte.field-0.0 (sym before.2 ∙ none) in
    rw (p.1, p.2) fails

pub returns-in_err-end_text-clause-bad : goal.returns-in_err-end_text-clause-bad
returns-in_err-end_text-clause-bad g c =
    let p = err_from_is_err_and c.from_residual-in_err-end_text.result c.from_residual-in_err-end_text.ensures.1 in
    let before = c.bytes.invariant.read in
    let ops = g.A.Arith.ops c.args.state.now.arith in
    let read = sym before.2 ∙ read_end ops c.args.state.now.machine.bytes c.args.span.length c.bytes.i (c.args.span.place + c.bytes.i) before.0 (omega arith) in
    let fails = escape_fails ops c.args.span c.args.state.now.machine before.0 read (c.in_err-end_text.ensures.bad before.0 before.1) in
    rw (p.1, p.2, c.in_err-end_text.ensures.throws) fails

pub returns-clause-good : goal.returns-clause-good
returns-clause-good g c =
    let before = c.bytes.invariant.read in
    let ops = g.A.Arith.ops c.args.state.now.arith in
    let read = sym before.2 ∙ read_end ops c.args.state.now.machine.bytes c.args.span.length c.bytes.i (c.args.span.place + c.bytes.i) before.0 (omega arith) in
    let good = c.in_ok-end_text.ensures.good before.0 before.1 in
    (good.0, read_stands ops c.args.span c.args.state.now.machine before.0 good.0 read good.1)
