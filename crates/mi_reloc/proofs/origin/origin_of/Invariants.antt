use Rattle.std.proofs.Common.{◌≡◌}
use Rattle.mi_model.specs.OriginOps.{origin_ops}
use Rattle.mi_model.specs.Run.{machine_on}
use Rattle.mi_reloc.proofs.Stored.{stored_in_part}
use Rattle.mi_reloc.proofs.origin.origin_of.Given as goal

abbrev pub invariant-cells : goal.invariant-cells
invariant-cells l = record {
  size : l.state.arith.size ≡ l.image.size;
  machine : l.state.machine ≡ machine_on (origin_ops l.image.size) (stored_in_part l.image l.i);
}
