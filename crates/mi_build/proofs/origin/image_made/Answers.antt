use Rattle.std.proofs.Common.{◌≡◌, Err, ap, ◌∙◌}
use Rattle.mi_model.specs.declared.Found.TheVariants.{Form as AForm}
use Rattle.mi_reloc.specs.declared.relocatable.CellFault.TheVariants as faults
use Rattle.mi_build.proofs.origin.image_made.Goals as goal

pub returns-in-Err-Cell-clause-no_image : goal.returns-in-Err-Cell-clause-no_image
returns-in-Err-Cell-clause-no_image c offset x is plain stands r within =
    let same : faults.Cell c.in-Err-Cell.offset c.in-Err-Cell.found ≡ faults.Cell offset (AForm x) = cc in
    c.in-Err-Cell.ensures.no_image offset x (ap (λ (f : _). Err f) (c.in-Err-Cell.field-0-is ∙ same)) plain stands r within
