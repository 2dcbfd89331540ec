use Rattle.std.proofs.Common.{ℕ, List, ◌++◌, ◌-◌, ◌*◌, ◌+◌, drop, ap, ◌∙◌}
use Rattle.mi_model.specs.Image.{region_cells}
use Rattle.mi_image.proofs.Steps.{cell_read}
use Rattle.mi_image.proofs.spell.read_cells.Goals as goal

pub loop-i-preserved : goal.loop-i-preserved
loop-i-preserved c =
    ap (λ (xs : List ℕ). xs ++ region_cells (c.args.count - (c.loop-i.i + 1)) (drop (8 * (c.loop-i.i + 1)) c.args.body.now)) c.in_ok-push.ensures.items
    ∙ cell_read c.loop-i.cells.items c.args.body.now c.args.count c.loop-i.i c.number.result c.loop-i-test.true c.requires c.number.ensures
    ∙ c.loop-i.invariant
