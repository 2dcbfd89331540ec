-- The answer is that of the definition, which gives quotients and remainders.
use Rattle.std.proofs.Common.{arith}
use Rattle.std.proofs.lemmas.Grind.{common_steps}
use Rattle.mi_num.proofs.AnswerLemmas.{floored_answer}
use Rattle.mi_num.proofs.division.fm_div.Goals as goal

pub returns-then-is_negative-negative-clause-quotient : goal.returns-then-is_negative-negative-clause-quotient
returns-then-is_negative-negative-clause-quotient c = (floored_answer _ _ _ c.signed_parts.result c.ranges.low.fits c.ranges.high.fits c.ranges.by.fits (grind (arith, common_steps))).quotient

pub returns-then-is_negative-negative-clause-out_of_range : goal.returns-then-is_negative-negative-clause-out_of_range
returns-then-is_negative-negative-clause-out_of_range c = (floored_answer _ _ _ c.signed_parts.result c.ranges.low.fits c.ranges.high.fits c.ranges.by.fits (grind (arith, common_steps))).out_of_range

pub returns-else-is_negative-negative-clause-quotient : goal.returns-else-is_negative-negative-clause-quotient
returns-else-is_negative-negative-clause-quotient c = (floored_answer _ _ _ c.signed_parts-else-is_negative-negative.result c.ranges.low.fits c.ranges.high.fits c.ranges.by.fits (grind (arith, common_steps))).quotient

pub returns-else-is_negative-negative-clause-out_of_range : goal.returns-else-is_negative-negative-clause-out_of_range
returns-else-is_negative-negative-clause-out_of_range c = (floored_answer _ _ _ c.signed_parts-else-is_negative-negative.result c.ranges.low.fits c.ranges.high.fits c.ranges.by.fits (grind (arith, common_steps))).out_of_range
