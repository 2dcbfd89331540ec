use Rattle.std.proofs.Common.{◌≡◌, ℕ, ◌*◌, ◌/◌, ◌≤◌, false, ap, inl, inr, ◌∙◌, arith}
use Rattle.std.proofs.lemmas.Bool.{cases_lt}
use Rattle.mi_image.specs.Cells.{with_cell}
use Rattle.mi_model.specs.Image.{ImageRecord}
use Rattle.mi_reloc.proofs.Begun.{begun, begun_next, begun_all, loaded_back}
use Rattle.mi_reloc.proofs.fixed.fixed_of.Goals as goal

pub cells-preserved : goal.cells-preserved
cells-preserved c = record {
  begun =
      c.set_plain.ensures
      ∙ ap (λ (r : ImageRecord). with_cell r c.cells.i c.cell_at.result false) c.cells.invariant.begun
      ∙ begun_next c.args.state.now.arith.pair c.args.used c.args.state.now.machine.bytes c.cells.i c.cell_at.result (omega arith) (omega arith) c.cell_at.ensures.value;
  small = λ k below. elim (cases_lt k (8 * c.cells.i)) [ inl h ↦ c.cells.invariant.small k h | inr h ↦ c.cell_at.ensures.bytes k h (omega arith) ];
}

pub returns-clause-image : goal.returns-clause-image
returns-clause-image c =
    let all : c.cells.i ≡ c.args.used / 8 = omega arith in
    c.cells.invariant.begun
    ∙ ap (λ (k : ℕ). begun c.args.state.now.arith.pair c.args.used c.args.state.now.machine.bytes k) all
    ∙ begun_all c.args.state.now.arith.pair c.args.used c.args.state.now.machine.bytes

pub returns-clause-loaded : goal.returns-clause-loaded
returns-clause-loaded c =
    let whole : c.args.used ≤ 8 * c.cells.i = omega arith in
    loaded_back c.args.state.now.arith.pair c.args.used c.args.state.now.machine.bytes c.cells.image (returns-clause-image c)
    (λ k below. c.cells.invariant.small k (omega arith)) c.requires.aligned c.requires.most
