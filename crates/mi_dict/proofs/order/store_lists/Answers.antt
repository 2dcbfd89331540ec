use Rattle.std.proofs.Common.{arith}
use Rattle.mi_dict.proofs.Walks.{store_lists_done, store_lists_next}
use Rattle.mi_dict.proofs.order.store_lists.Goals as goal

pub lists-preserved : goal.lists-preserved
lists-preserved g c = grind (arith, store_lists_next)

pub returns-clause-action : goal.returns-clause-action
returns-clause-action g c = grind (arith, store_lists_done)
