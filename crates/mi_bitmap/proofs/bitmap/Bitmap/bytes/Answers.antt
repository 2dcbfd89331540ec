use Rattle.std.proofs.Common.{sym, ap, ◌∙◌}
use Rattle.mi_model.specs.Image.{bitmap_bytes}
use Rattle.mi_bitmap.proofs.Bits.{packed_bytes}
use Rattle.mi_bitmap.proofs.bitmap.Bitmap.bytes.Goals as goal

pub returns : goal.returns
returns c = c.deref.ensures.value ∙ sym (packed_bytes c.self.inside.bytes.items c.self.inside.count c.self.invariant) ∙ ap bitmap_bytes c.self.view_is
