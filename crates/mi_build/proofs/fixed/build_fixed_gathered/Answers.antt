use Rattle.mi_build.proofs.PlainBuilds.{fixed_fault}
use Rattle.mi_build.proofs.fixed.build_fixed_gathered.Goals as goal

pub returns-clause-answers : goal.returns-clause-answers
returns-clause-answers g c = fixed_fault c.args.pair c.args.settings.now c.args.sources.now c.in-Err.fault c.in-Err.ensures.ends
