use Rattle.std.proofs.Common.{sym, subst}
use Rattle.mi_model.specs.Stands.{Each}
use Rattle.mi_model.specs.OriginOps.{ByteStands}
use Rattle.mi_build.proofs.images.origin_image.Goals as goal

pub returns-in-Err-clause-no_image : goal.returns-in-Err-clause-no_image
returns-in-Err-clause-no_image c offset x is plain stands r within =
    c.in-Err.ensures.no_image offset x is plain (λ pair allowed. subst (λ (v : _). Each (ByteStands pair) v.machine.bytes (plain pair)) (sym c.state-2.ensures) (stands pair allowed)) r within
