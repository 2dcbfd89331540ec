-- The answer is that of the definition, which gives quotients and remainders.
use Rattle.std.proofs.Common.{arith}
use Rattle.std.proofs.lemmas.Grind.{common_steps}
use Rattle.mi_num.proofs.AnswerLemmas.{cut_answer}
use Rattle.mi_num.proofs.division.sm_div.Goals as goal

pub returns-clause-quotient : goal.returns-clause-quotient
returns-clause-quotient c = (cut_answer _ _ _ c.signed_parts.result c.ranges.low.fits c.ranges.high.fits c.ranges.by.fits (grind (arith, common_steps))).quotient

pub returns-clause-out_of_range : goal.returns-clause-out_of_range
returns-clause-out_of_range c = (cut_answer _ _ _ c.signed_parts.result c.ranges.low.fits c.ranges.high.fits c.ranges.by.fits (grind (arith, common_steps))).out_of_range
