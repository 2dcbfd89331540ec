use Rattle.std.proofs.Common.{refl, arith}
use Rattle.mi_image.specs.Grammar.{first_broken}
use Rattle.mi_image.proofs.decoder.Decoder.new.Goals as goal

pub invariant_of-result : goal.invariant_of-result
unfolding first_broken
invariant_of-result c = record { short = omega arith; allowed = refl }
