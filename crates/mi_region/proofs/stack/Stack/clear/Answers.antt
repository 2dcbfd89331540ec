use Rattle.std.proofs.Common.{arith}
use Rattle.std.proofs.lemmas.List.{drop_all}
use Rattle.mi_region.proofs.stack.Stack.clear.Goals as goal

pub returns : goal.returns
returns g c = drop_all 4096 c.self.inside.items.items (omega arith)
