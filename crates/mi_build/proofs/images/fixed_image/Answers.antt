use Rattle.mi_build.proofs.PlainLemmas.{image_loaded}
use Rattle.mi_build.proofs.images.fixed_image.Goals as goal

pub returns-clause-loaded : goal.returns-clause-loaded
returns-clause-loaded c = image_loaded c.state-2.result.now c.args.machine.now.state c.args.used c.in_ok-image.image c.state-2.ensures c.in_ok-image.ensures.image c.in_ok-image.ensures.loaded c.requires.tidy.cleared
