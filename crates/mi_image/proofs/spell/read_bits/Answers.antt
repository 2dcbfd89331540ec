use Rattle.std.proofs.Common.{Bool, List, ◌++◌, ◌-◌, ◌+◌, ap, ◌∙◌}
use Rattle.mi_bitmap.specs.Bits.{bits_from}
use Rattle.mi_image.proofs.Steps.{bit_read}
use Rattle.mi_image.proofs.spell.read_bits.Goals as goal

pub loop-i-preserved : goal.loop-i-preserved
loop-i-preserved c =
    ap (λ (xs : List Bool). xs ++ bits_from c.args.bitmap.now (c.args.count - (c.loop-i.i + 1)) (c.loop-i.i + 1)) c.in_ok-push.ensures.items
    ∙ bit_read c.loop-i.marks.items c.args.bitmap.now c.args.count c.loop-i.i c.is_marked.result c.loop-i-test.true c.is_marked.ensures
    ∙ c.loop-i.invariant
