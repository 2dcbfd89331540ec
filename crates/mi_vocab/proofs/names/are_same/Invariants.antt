-- The names agree as far as they were read.
use Rattle.std.proofs.Common.{take}
use Rattle.mi_vocab.specs.Names.{AreSame}
use Rattle.mi_vocab.proofs.names.are_same.Given as goal

abbrev pub invariant-loop-i : goal.invariant-loop-i
invariant-loop-i l = AreSame (take l.i l.a) (take l.i l.b)
