use Rattle.std.proofs.Common.{◌≡◌, ℕ, List, length, ap, ◌∙◌, arith}
use Rattle.mi_model.specs.Plain.{plain_ops}
use Rattle.mi_model.specs.Run.{machine_on}
use Rattle.mi_reloc.proofs.Loaded.{blank_in_part, in_part-all, length-in_part, machine_next}
use Rattle.mi_reloc.proofs.loading.state_of.Goals as goal

pub cells-init : goal.cells-init
cells-init c = record {
  arith = c.in_ok-state.ensures.arith ∙ ap (λ n. record { pair = c.args.pair; size = n }) c.size-size.ensures.size;
  machine = c.in_ok-state.ensures.machine ∙ rw c.size-size.ensures.size (blank_in_part c.args.image.now c.args.pair);
}

pub store-requires : goal.store-requires
store-requires c =
    let limits = c.size-size.ensures.within_limits in
    let size : length c.cells.state.machine.bytes ≡ c.args.image.now.size =
    ap (λ m. length m.bytes) c.cells.invariant.machine ∙ length-in_part c.args.image.now c.args.pair c.cells.i (omega arith) (omega arith) in
    omega arith

pub cells-preserved : goal.cells-preserved
cells-preserved c =
    let limits = c.size-size.ensures.within_limits in
    record {
      arith = ap (λ s. s.arith) c.store.ensures ∙ c.cells.invariant.arith;
      machine =
          ap (λ s. s.machine) c.store.ensures
          ∙ machine_next c.args.image.now c.args.pair _ _ c.cells.i c.cell_at.result c.cells.state.machine
          (ap (λ a. a.pair) c.cells.invariant.arith) (ap (λ a. a.size) c.cells.invariant.arith)
          c.cells.invariant.machine (omega arith) (omega arith) c.cell_at.ensures;
    }

pub returns-clause-machine : goal.returns-clause-machine
returns-clause-machine c =
    let limits = c.size-size.ensures.within_limits in
    c.cells.invariant.machine
    ∙ ap (λ (bytes : List ℕ). machine_on (plain_ops c.args.pair c.args.image.now.size) bytes) (in_part-all c.args.image.now c.args.pair c.cells.i (omega arith) (omega arith))
