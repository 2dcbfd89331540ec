use Rattle.std.proofs.Common.{◌≡◌, ◌∙◌, sym, true, get_or, arith}
use Rattle.mi_model.specs.Common.{has_common_cell}
use Rattle.mi_compare.specs.Meaning.{Explains}
use Rattle.mi_compare.proofs.Fill.{filled_next, differing_later}
use Rattle.mi_compare.proofs.common.fill.Goals as goal

pub loop-cell-preserved : goal.loop-cell-preserved
loop-cell-preserved c =
    let first = c.args.first.now in
    let second = c.args.second.now in
    let given : Explains first.size first.pair second.pair (get_or first.cells c.loop-cell.cell 0) (get_or second.cells c.loop-cell.cell 0) c.in-Some.meaning =
    rw (← c.size-size.ensures.size, ← c.pair.ensures, ← c.pair-in-loop-cell.ensures, ← c.cell-x.ensures, ← c.cell-y.ensures) c.in-Some.ensures.explains
    in
    let found : has_common_cell first.size first.pair second.pair (get_or first.cells c.loop-cell.cell 0) (get_or second.cells c.loop-cell.cell 0) ≡ true =
    rw (← c.size-size.ensures.size, ← c.pair.ensures, ← c.pair-in-loop-cell.ensures, ← c.cell-x.ensures, ← c.cell-y.ensures) (sym c.in-Some.ensures.found)
    in
    record {
      filled = rw c.set_meaning.ensures (filled_next first second c.loop-cell.image c.loop-cell.cell c.in-Some.meaning (omega arith) (omega arith) given c.loop-cell.invariant.filled);
      rest = differing_later first.size first.pair second.pair c.loop-cell.cell first.cells second.cells (omega arith) (omega arith) found ∙ c.loop-cell.invariant.rest;
    }
