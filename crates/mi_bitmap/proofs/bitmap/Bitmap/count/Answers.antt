use Rattle.std.proofs.Common.{length, sym, ap, ◌∙◌}
use Rattle.mi_bitmap.proofs.Bits.{length-bits_from}
use Rattle.mi_bitmap.proofs.bitmap.Bitmap.count.Goals as goal

pub returns : goal.returns
returns c = sym (length-bits_from c.self.inside.bytes.items c.self.inside.count 0) ∙ ap length c.self.view_is
