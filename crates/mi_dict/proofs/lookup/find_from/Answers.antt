use Rattle.std.proofs.Common.{arith}
use Rattle.mi_dict.proofs.Walks.{find_next}
use Rattle.mi_dict.proofs.lookup.find_from.Goals as goal

pub returns-in_err-ended : goal.returns-in_err-ended
returns-in_err-ended g c = grind (arith, find_next)

pub returns-then-ended : goal.returns-then-ended
returns-then-ended g c = grind (arith, find_next)

pub returns-in_err-at : goal.returns-in_err-at
returns-in_err-at g c = grind (arith, find_next)

pub returns-in_err-flags : goal.returns-in_err-flags
returns-in_err-flags g c = grind (arith, find_next)

pub returns-in_err-named : goal.returns-in_err-named
returns-in_err-named g c = grind (arith, find_next)

pub returns-in_err-word : goal.returns-in_err-word
returns-in_err-word g c = grind (arith, find_next)

pub returns-then-named : goal.returns-then-named
returns-then-named g c = grind (arith, find_next)

pub returns-in_err-link : goal.returns-in_err-link
returns-in_err-link g c = grind (arith, find_next)
