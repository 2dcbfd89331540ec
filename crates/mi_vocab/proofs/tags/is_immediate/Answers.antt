-- A tag is in one of the ranges or in none, as its branch says.
use Rattle.std.proofs.Common.{arith}
use Rattle.std.proofs.lemmas.Bool.Decides.{nat_tests}
use Rattle.mi_vocab.proofs.FlagLemmas.{immediate_by_test}
use Rattle.mi_vocab.proofs.tags.is_immediate.Goals as goal

pub returns-in_default : goal.returns-in_default
returns-in_default c = immediate_by_test _ _ c.ranges.tag.fits (grind (arith, nat_tests))

pub returns-in_default-2 : goal.returns-in_default-2
returns-in_default-2 c = immediate_by_test _ _ c.ranges.tag.fits (grind (arith, nat_tests))

pub returns-in_default-3 : goal.returns-in_default-3
returns-in_default-3 c = immediate_by_test _ _ c.ranges.tag.fits (grind (arith, nat_tests))

pub returns-in-91 : goal.returns-in-91
returns-in-91 c = immediate_by_test _ _ c.ranges.tag.fits (grind (arith, nat_tests))

pub returns-in-91-2 : goal.returns-in-91-2
returns-in-91-2 c = immediate_by_test _ _ c.ranges.tag.fits (grind (arith, nat_tests))

pub returns-in-91-3 : goal.returns-in-91-3
returns-in-91-3 c = immediate_by_test _ _ c.ranges.tag.fits (grind (arith, nat_tests))
