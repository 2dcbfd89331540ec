use Rattle.std.proofs.Common.{◌≡◌, ◌+◌, ◌-◌, ◌*◌, drop}
use Rattle.mi_model.specs.Image.{region_cells}
use Rattle.mi_bitmap.specs.Bits.{bits, bits_from}
use Rattle.mi_image.specs.Grammar.{cells_fault}
use Rattle.mi_image.proofs.judge.judge_cells.Given as goal

abbrev pub invariant-loop-i : goal.invariant-loop-i
invariant-loop-i l =
    cells_fault l.size (region_cells (l.cells - l.i) (drop (8 * l.i) l.body)) (bits_from l.bitmap (l.cells - l.i) l.i) (56 + 8 * l.i)
    ≡ cells_fault l.size (region_cells l.cells l.body) (bits l.bitmap l.cells) 56
