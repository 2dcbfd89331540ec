use Rattle.std.proofs.Common.{arith}
use Rattle.mi_region.proofs.PutBack.{put_back}
use Rattle.mi_region.proofs.state.State.put_back.Goals as goal

pub returns-clause-back : goal.returns-clause-back
returns-clause-back g c = grind (arith, put_back)
