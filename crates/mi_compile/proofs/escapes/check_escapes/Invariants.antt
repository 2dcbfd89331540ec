use Rattle.std.proofs.Common.{ℕ, List, ◌≡◌, ◌≤◌, ◌-◌, ◌+◌, []}
use Rattle.mi_compile.specs.Escaped.{HasRead}
use Rattle.mi_compile.proofs.Reading.{read_bytes}
use Rattle.mi_compile.proofs.escapes.check_escapes.Given as goal

abbrev pub invariant-bytes : goal.invariant-bytes
invariant-bytes g l =
    let ops = g.A.Arith.ops l.fn.state.arith in
    let span = l.fn.span in
    let bytes = l.fn.state.machine.bytes in
    record {
      within : l.i ≤ span.length;
      read : (text : List ℕ) × HasRead l.reader text × (read_bytes ops bytes (span.length - l.i) (span.place + l.i) text ≡ read_bytes ops bytes span.length span.place []);
    }

abbrev pub decreases-bytes : goal.decreases-bytes
decreases-bytes g l = l.fn.span.length - l.i
