use Rattle.std.proofs.Common.{◌≡◌, ◌≤◌, ◌-◌, length}
use Rattle.mi_compile.proofs.Unescaping.{Unescaping}
use Rattle.mi_compile.proofs.escapes.unescape_in_place.Given as goal

abbrev pub invariant-bytes : goal.invariant-bytes
invariant-bytes g l = record {
  within : l.i ≤ l.fn.span.length;
  ahead : l.written ≤ l.i;
  size : length l.state.machine.bytes ≡ length l.fn.state.machine.bytes;
  stack : l.state.machine.stack ≡ l.fn.state.machine.stack;
  so_far : Unescaping g.A.Arith.ops l.fn.state l.state l.fn.span l.reader l.i l.written;
}

abbrev pub decreases-bytes : goal.decreases-bytes
decreases-bytes g l = l.fn.span.length - l.i
