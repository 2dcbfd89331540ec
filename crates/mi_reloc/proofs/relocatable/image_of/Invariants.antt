use Rattle.std.proofs.Common.{◌≡◌, ℕ, ◌-◌, ◌*◌, ◌/◌, length}
use Rattle.mi_model.specs.Explained.{first_unexplained, unexplained_from}
use Rattle.mi_reloc.proofs.Imaged.{begun_image}
use Rattle.mi_reloc.proofs.relocatable.image_of.Given as goal

abbrev pub invariant-cells : goal.invariant-cells
invariant-cells l = record {
  begun : l.image ≡ begun_image (length l.state.machine.bytes) l.state.machine.bytes l.used l.i;
  so_far : first_unexplained (length l.state.machine.bytes) l.state.machine.bytes l.used ≡ unexplained_from (length l.state.machine.bytes) l.state.machine.bytes (l.used / 8 - l.i) (8 * l.i);
}
