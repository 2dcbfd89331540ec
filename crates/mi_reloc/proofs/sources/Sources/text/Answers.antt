use Rattle.std.proofs.Common.{arith}
use Rattle.std.proofs.lemmas.Grind.{common_steps}
use Rattle.mi_reloc.proofs.sources.Sources.text.Goals as goal

pub returns-clause-most : goal.returns-clause-most
returns-clause-most c = grind (arith, common_steps, c.self.invariant.1 c.args.i)
