use Rattle.std.proofs.Common.{◌≡◌}
use Rattle.mi_model.specs.Plain.{plain_ops}
use Rattle.mi_model.specs.Run.{machine_on}
use Rattle.mi_reloc.proofs.Loaded.{in_part}
use Rattle.mi_reloc.proofs.loading.state_of.Given as goal

abbrev pub invariant-cells : goal.invariant-cells
invariant-cells l = record {
  arith : l.state.arith ≡ record { pair = l.pair; size = l.image.size };
  machine : l.state.machine ≡ machine_on (plain_ops l.pair l.image.size) (in_part l.image l.pair l.i);
}
