use Rattle.std.proofs.Common.{arith}
use Rattle.mi_dict.proofs.Walks.{scan_escaped_next}
use Rattle.mi_dict.proofs.parsing.scan_escaped.Goals as goal

pub returns-in_err-byte-clause-action : goal.returns-in_err-byte-clause-action
returns-in_err-byte-clause-action g c = grind (arith, scan_escaped_next)

pub returns-then-ends-clause-action : goal.returns-then-ends-clause-action
returns-then-ends-clause-action g c = grind (arith, scan_escaped_next)

pub bytes-preserved : goal.bytes-preserved
bytes-preserved g c = grind (arith, scan_escaped_next)
