use Rattle.std.proofs.Common.{◌≡◌, ℕ, List, length, ap, subst, sym, ◌∙◌, None, arith}
use Rattle.mi_model.specs.declared.OriginByte.{OriginByte}
use Rattle.mi_model.specs.Image.{loaded}
use Rattle.mi_model.specs.Stands.{Each}
use Rattle.mi_model.specs.OriginOps.{origin_ops, ByteStands}
use Rattle.mi_model.specs.Run.{machine_on}
use Rattle.mi_model.specs.Explained.{first_unexplained, image_of, origin_region}
use Rattle.mi_reloc.proofs.Stored.{blank_stored, length-stored, origin_machine_next, stored_all}
use Rattle.mi_reloc.proofs.Restored.{image_again, all_explained, region_stands}
use Rattle.mi_reloc.proofs.origin.origin_of.Goals as goal

pub cells-init : goal.cells-init
cells-init c = record {
  size = ap (λ a. a.size) c.in_ok-state.ensures.arith ∙ c.size-size.ensures.size;
  machine = c.in_ok-state.ensures.machine ∙ rw c.size-size.ensures.size (blank_stored c.args.image.now);
}

pub store-requires : goal.store-requires
store-requires c =
    let limits = c.size-size.ensures.within_limits in
    let size : length c.cells.state.machine.bytes ≡ c.args.image.now.size =
    ap (λ m. length m.bytes) c.cells.invariant.machine ∙ length-stored c.args.image.now c.cells.i (omega arith) (omega arith) in
    omega arith

pub cells-preserved : goal.cells-preserved
cells-preserved c =
    let limits = c.size-size.ensures.within_limits in
    record {
      size = ap (λ s. s.arith.size) c.store.ensures ∙ c.cells.invariant.size;
      machine =
          ap (λ s. s.machine) c.store.ensures
          ∙ origin_machine_next c.args.image.now _ c.cells.i c.form_at.result c.cells.state.machine
          c.cells.invariant.size c.cells.invariant.machine (omega arith) (omega arith) c.form_at.ensures;
    }

pub returns-clause-machine : goal.returns-clause-machine
returns-clause-machine c =
    let limits = c.size-size.ensures.within_limits in
    c.cells.invariant.machine
    ∙ ap (λ (bytes : List OriginByte). machine_on (origin_ops c.args.image.now.size) bytes) (stored_all c.args.image.now c.cells.i (omega arith) (omega arith))

pub returns-clause-again : goal.returns-clause-again
returns-clause-again c =
    let limits = c.size-size.ensures.within_limits in
    ap (λ m. image_of c.args.image.now.size m.bytes c.args.image.now.used) (returns-clause-machine c) ∙ image_again c.args.image.now limits c.requires

pub returns-clause-explained : goal.returns-clause-explained
returns-clause-explained c =
    let limits = c.size-size.ensures.within_limits in
    ap (λ m. first_unexplained c.args.image.now.size m.bytes c.args.image.now.used) (returns-clause-machine c) ∙ all_explained c.args.image.now limits

pub returns-clause-stands : goal.returns-clause-stands
returns-clause-stands c = λ pair allowed.
    let limits = c.size-size.ensures.within_limits in
    let bytes : c.cells.state.machine.bytes ≡ origin_region c.args.image.now = ap (λ m. m.bytes) (returns-clause-machine c) in
    subst (λ (bs : List OriginByte). Each (ByteStands pair) bs (loaded c.args.image.now pair)) (sym bytes) (region_stands c.args.image.now pair limits allowed)
