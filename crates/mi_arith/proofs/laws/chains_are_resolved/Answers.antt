use Rattle.mi_model.proofs.ChainLemmas.{chain_law}
use Rattle.mi_arith.proofs.laws.chains_are_resolved.Goals as goal

pub returns : goal.returns
returns g c = λ m n a target count h. chain_law _ m a target count n h
