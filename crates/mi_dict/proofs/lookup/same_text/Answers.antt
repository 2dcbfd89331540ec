use Rattle.std.proofs.Common.{arith}
use Rattle.mi_dict.proofs.Walks.{same_text_next}
use Rattle.mi_dict.proofs.lookup.same_text.Goals as goal

pub returns-in_err-at : goal.returns-in_err-at
returns-in_err-at g c = grind (arith, same_text_next)

pub returns-in_err-c : goal.returns-in_err-c
returns-in_err-c g c = grind (arith, same_text_next)

pub returns-in_err-d : goal.returns-in_err-d
returns-in_err-d g c = grind (arith, same_text_next)

pub returns-then-differs : goal.returns-then-differs
returns-then-differs g c = grind (arith, same_text_next)
