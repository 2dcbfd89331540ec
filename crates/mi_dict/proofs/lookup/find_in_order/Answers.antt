use Rattle.std.proofs.Common.{arith}
use Rattle.mi_dict.proofs.Walks.{find_in_order_next}
use Rattle.mi_dict.proofs.lookup.find_in_order.Goals as goal

pub returns-in_err-list : goal.returns-in_err-list
returns-in_err-list g c = grind (arith, find_in_order_next)

pub returns-in_err-found : goal.returns-in_err-found
returns-in_err-found g c = grind (arith, find_in_order_next)
