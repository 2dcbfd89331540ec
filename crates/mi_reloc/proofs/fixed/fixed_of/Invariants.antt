use Rattle.std.proofs.Common.{◌≡◌, ℕ, ◌*◌, ◌<◌, get_or}
use Rattle.mi_reloc.proofs.Begun.{begun}
use Rattle.mi_reloc.proofs.fixed.fixed_of.Given as goal

abbrev pub invariant-cells : goal.invariant-cells
invariant-cells l = record {
  begun : l.image ≡ begun l.state.arith.pair l.used l.state.machine.bytes l.i;
  small : (k : ℕ) → k < 8 * l.i → get_or l.state.machine.bytes k 0 < 256;
}
