use Rattle.std.proofs.Common.{arith}
use Rattle.mi_dict.proofs.Walks.{scan_next}
use Rattle.mi_dict.proofs.parsing.scan.Goals as goal

pub returns-in_err-is_blank-clause-action : goal.returns-in_err-is_blank-clause-action
returns-in_err-is_blank-clause-action g c = grind (arith, scan_next)

pub returns-then-is_blank-blank-clause-action : goal.returns-then-is_blank-blank-clause-action
returns-then-is_blank-blank-clause-action g c = grind (arith, scan_next)

pub bytes-preserved : goal.bytes-preserved
bytes-preserved g c = grind (arith, scan_next)
