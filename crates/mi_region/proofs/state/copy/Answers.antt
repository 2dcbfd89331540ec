use Rattle.std.proofs.Common.{arith}
use Rattle.mi_region.proofs.Texts.{moved}
use Rattle.mi_region.proofs.state.copy.Goals as goal

pub returns-clause-moved : goal.returns-clause-moved
returns-clause-moved g c = grind (arith, moved)
