use Rattle.std.proofs.Common.{◌≡◌, ◌++◌, ◌-◌}
use Rattle.mi_bitmap.specs.Bits.{bits, bits_from}
use Rattle.mi_image.proofs.spell.read_bits.Given as goal

abbrev pub invariant-loop-i : goal.invariant-loop-i
invariant-loop-i l = l.marks.items ++ bits_from l.bitmap (l.count - l.i) l.i ≡ bits l.bitmap l.count
