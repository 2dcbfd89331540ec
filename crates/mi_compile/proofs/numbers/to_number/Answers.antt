use Rattle.std.proofs.Common.{arith}
use Rattle.mi_compile.proofs.Digits.{digits_of_answer}
use Rattle.mi_compile.proofs.numbers.to_number.Goals as goal

pub returns : goal.returns
returns g c = grind (arith, digits_of_answer _ _ _ _ _ _ c.in_ok-double.ensures.action)
