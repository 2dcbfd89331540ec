use Rattle.std.proofs.Common.{arith}
use Rattle.mi_dict.proofs.MarkerWalks.{old_header_next}
use Rattle.mi_dict.proofs.restoring.old_header.Goals as goal

pub returns-in_err-header-clause-action : goal.returns-in_err-header-clause-action
returns-in_err-header-clause-action g c = grind (arith, old_header_next)

pub returns-in_err-ended-clause-action : goal.returns-in_err-ended-clause-action
returns-in_err-ended-clause-action g c = grind (arith, old_header_next)

pub returns-then-ended-clause-action : goal.returns-then-ended-clause-action
returns-then-ended-clause-action g c = grind (arith, old_header_next)

pub returns-in_err-is_old-clause-action : goal.returns-in_err-is_old-clause-action
returns-in_err-is_old-clause-action g c = grind (arith, old_header_next)

pub returns-then-is_old-clause-action : goal.returns-then-is_old-clause-action
returns-then-is_old-clause-action g c = grind (arith, old_header_next)

pub returns-in_err-next-clause-action : goal.returns-in_err-next-clause-action
returns-in_err-next-clause-action g c = grind (arith, old_header_next)
