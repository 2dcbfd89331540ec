use Rattle.std.proofs.Common.{◌≡◌, take, sym, ap, ◌∙◌, arith}
use Rattle.std.proofs.lemmas.List.{length-take}
use Rattle.mi_model.specs.Image.{image_bytes}
use Rattle.mi_image.specs.Stage.{seen}
use Rattle.mi_image.proofs.Fed.{same_bytes, image_again, not_an_image}
use Rattle.mi_image.proofs.decoder.Decoder.end.Goals as goal

pub returns-in-Header-clause-again : goal.returns-in-Header-clause-again
returns-in-Header-clause-again c r is same =
    let bytes : take c.in-Header.count c.in-Header.bytes ≡ image_bytes r = same_bytes _ _ (sym (ap seen c.in-Header.is) ∙ c.self.view_is ∙ same) in
    let header = rw c.in-Header.is at c.self.invariant in
    let short = header.short in
    let long = not_an_image r (take c.in-Header.count c.in-Header.bytes) is bytes in
    absurd (omega (arith, length-take c.in-Header.count c.in-Header.bytes))

pub returns-in-Body-clause-again : goal.returns-in-Body-clause-again
returns-in-Body-clause-again c r is same =
    image_again r c.deref.result.now c.read_image.result is
    (c.deref.ensures.value ∙ same_bytes _ _ (sym (ap seen c.in-Body.is) ∙ c.self.view_is ∙ same))
    c.read_image.ensures.spelled c.read_image.ensures.refused
