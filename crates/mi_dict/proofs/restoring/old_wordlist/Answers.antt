use Rattle.std.proofs.Common.{arith}
use Rattle.mi_dict.proofs.MarkerWalks.{old_wordlist_next}
use Rattle.mi_dict.proofs.restoring.old_wordlist.Goals as goal

pub returns-in_err-list-clause-action : goal.returns-in_err-list-clause-action
returns-in_err-list-clause-action g c = grind (arith, old_wordlist_next)

pub returns-in_err-is_old-clause-action : goal.returns-in_err-is_old-clause-action
returns-in_err-is_old-clause-action g c = grind (arith, old_wordlist_next)

pub returns-then-is_old-clause-action : goal.returns-then-is_old-clause-action
returns-then-is_old-clause-action g c = grind (arith, old_wordlist_next)

pub returns-in_err-link-clause-action : goal.returns-in_err-link-clause-action
returns-in_err-link-clause-action g c = grind (arith, old_wordlist_next)

pub returns-in_err-next-clause-action : goal.returns-in_err-next-clause-action
returns-in_err-next-clause-action g c = grind (arith, old_wordlist_next)
