use Rattle.mi_compare.proofs.Fill.{common_of}
use Rattle.mi_compare.proofs.common.common_image.Goals as goal

pub returns-clause-common : goal.returns-clause-common
returns-clause-common c = common_of _ _ _ c.requires c.size-2.ensures.within_limits c.in_ok-fill.ensures.filled
