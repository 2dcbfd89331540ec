use Rattle.std.proofs.Common.{ℕ, List, ap, ◌∙◌}
use Rattle.mi_bitmap.specs.Bits.{bits}
use Rattle.mi_bitmap.proofs.Bits.{bits-zeros}
use Rattle.mi_bitmap.proofs.bitmap.Bitmap.new.Goals as goal

pub returns : goal.returns
returns c = ap (λ (xs : List ℕ). bits xs c.args.cells) (c.in_ok-bytes.ensures.items_if_clones_equal (λ y e. e)) ∙ bits-zeros c.div_ceil.result c.args.cells
