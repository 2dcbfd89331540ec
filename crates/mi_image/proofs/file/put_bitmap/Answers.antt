use Rattle.std.proofs.Common.{◌<◌, ◌/◌, ◌+◌, ◌∙◌, length, arith}
use Rattle.mi_image.proofs.Bytes.{next_byte}
use Rattle.mi_image.proofs.file.put_bitmap.Goals as goal

pub loop-j-preserved : goal.loop-j-preserved
loop-j-preserved c =
    let below : c.loop-j.j < (length c.args.marks.now + 7) / 8 = omega arith in
    rw (c.in_ok-push.ensures.items, c.byte_of.ensures) (next_byte c.loop-j.bytes.items c.args.marks.now _ c.loop-j.j below ∙ c.loop-j.invariant)
