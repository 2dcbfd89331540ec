use Rattle.std.proofs.Common.{◌≡◌, ◌*◌, drop}
use Rattle.mi_model.specs.Common.{differing_from, first_differing}
use Rattle.mi_compare.specs.Filled.{IsFilled}
use Rattle.mi_compare.proofs.common.fill.Given as goal

abbrev pub invariant-loop-cell : goal.invariant-loop-cell
invariant-loop-cell l = record {
  filled : IsFilled l.first l.second l.cell l.image;
  rest : differing_from l.first.size l.first.pair l.second.pair (8 * l.cell) (drop l.cell l.first.cells) (drop l.cell l.second.cells) ≡ first_differing l.first l.second;
}
