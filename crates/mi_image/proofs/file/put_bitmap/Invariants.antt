use Rattle.std.proofs.Common.{◌≡◌, ◌++◌, ◌-◌}
use Rattle.mi_model.specs.Image.{bitmap_bytes, bitmap_from}
use Rattle.mi_image.proofs.file.put_bitmap.Given as goal

abbrev pub invariant-loop-j : goal.invariant-loop-j
invariant-loop-j l = l.bytes.items ++ bitmap_from l.marks (l.j-end - l.j) l.j ≡ l.fn.bytes.items ++ bitmap_bytes l.marks
