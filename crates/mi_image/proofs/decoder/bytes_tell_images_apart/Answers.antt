use Rattle.mi_image.proofs.Fed.{told_apart}
use Rattle.mi_image.proofs.decoder.bytes_tell_images_apart.Goals as goal

pub returns : goal.returns
returns c = told_apart
