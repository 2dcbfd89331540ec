use Rattle.mi_build.proofs.Reached.{reached}
use Rattle.mi_build.proofs.origin.build.Goals as goal

pub returns-in-Err-clause-reached : goal.returns-in-Err-clause-reached
returns-in-Err-clause-reached g c pair s allowed = reached c.args.settings.now c.args.sources.now pair s c.requires.size allowed
