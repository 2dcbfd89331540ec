use Rattle.std.proofs.Common.{List, ℕ, Result, subst, ap, ◌∙◌}
use Rattle.mi_image.specs.declared.fault.ImageFault.{ImageFault}
use Rattle.mi_image.specs.Decoding.{IsRefused}
use Rattle.mi_image.specs.Stage.{seen}
use Rattle.mi_image.proofs.Fed.{image_not_refused}
use Rattle.mi_image.proofs.decoder.Decoder.feed.Goals as goal

pub returns-in-Err-clause-image : goal.returns-in-Err-clause-image
returns-in-Err-clause-image c r bytes rest is old whole =
    image_not_refused r c.args.self.now c.args.piece.now bytes rest c.in-Err.fault is old whole
    (subst (λ (v : Result (List ℕ) ImageFault). IsRefused v c.args.piece.now c.in-Err.fault) (ap seen c.replace-stage.ensures.value ∙ c.self.view_is) c.in-Err.ensures.refused)
