-- A tag is in one of the ranges or in none, as its branch says.
use Rattle.std.proofs.Common.{arith}
use Rattle.std.proofs.lemmas.Bool.Decides.{nat_tests}
use Rattle.mi_vocab.proofs.FlagLemmas.{compile_only_by_test}
use Rattle.mi_vocab.proofs.tags.is_compile_only.Goals as goal

pub returns-in_default : goal.returns-in_default
returns-in_default c = compile_only_by_test _ _ c.ranges.tag.fits (grind (arith, nat_tests))

pub returns-in_default-2 : goal.returns-in_default-2
returns-in_default-2 c = compile_only_by_test _ _ c.ranges.tag.fits (grind (arith, nat_tests))

pub returns-in_default-3 : goal.returns-in_default-3
returns-in_default-3 c = compile_only_by_test _ _ c.ranges.tag.fits (grind (arith, nat_tests))

pub returns-in_default-4 : goal.returns-in_default-4
returns-in_default-4 c = compile_only_by_test _ _ c.ranges.tag.fits (grind (arith, nat_tests))

pub returns-in-1-to-20 : goal.returns-in-1-to-20
returns-in-1-to-20 c = compile_only_by_test _ _ c.ranges.tag.fits (grind (arith, nat_tests))

pub returns-in-1-to-20-2 : goal.returns-in-1-to-20-2
returns-in-1-to-20-2 c = compile_only_by_test _ _ c.ranges.tag.fits (grind (arith, nat_tests))

pub returns-in-1-to-20-3 : goal.returns-in-1-to-20-3
returns-in-1-to-20-3 c = compile_only_by_test _ _ c.ranges.tag.fits (grind (arith, nat_tests))

pub returns-in-1-to-20-4 : goal.returns-in-1-to-20-4
returns-in-1-to-20-4 c = compile_only_by_test _ _ c.ranges.tag.fits (grind (arith, nat_tests))
