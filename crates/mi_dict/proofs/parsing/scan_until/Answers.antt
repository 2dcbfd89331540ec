use Rattle.std.proofs.Common.{arith}
use Rattle.mi_dict.proofs.Walks.{scan_until_next}
use Rattle.mi_dict.proofs.parsing.scan_until.Goals as goal

pub returns-in_err-byte-clause-action : goal.returns-in_err-byte-clause-action
returns-in_err-byte-clause-action g c = grind (arith, scan_until_next)

pub returns-then-ends-clause-action : goal.returns-then-ends-clause-action
returns-then-ends-clause-action g c = grind (arith, scan_until_next)

pub bytes-preserved : goal.bytes-preserved
bytes-preserved g c = grind (arith, scan_until_next)
