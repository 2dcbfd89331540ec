use Rattle.std.proofs.Common.{◌≡◌, ◌++◌, ◌-◌, ◌*◌, drop}
use Rattle.mi_model.specs.Image.{region_cells}
use Rattle.mi_image.proofs.spell.read_cells.Given as goal

abbrev pub invariant-loop-i : goal.invariant-loop-i
invariant-loop-i l = l.cells.items ++ region_cells (l.count - l.i) (drop (8 * l.i) l.body) ≡ region_cells l.count l.body
