use Rattle.std.proofs.Common.{arith}
use Rattle.mi_dict.proofs.Walks.{skip_delimiters_next}
use Rattle.mi_dict.proofs.parsing.skip_delimiters.Goals as goal

pub returns-in_err-byte-clause-action : goal.returns-in_err-byte-clause-action
returns-in_err-byte-clause-action g c = grind (arith, skip_delimiters_next)

pub returns-then-ends-clause-action : goal.returns-then-ends-clause-action
returns-then-ends-clause-action g c = grind (arith, skip_delimiters_next)

pub bytes-preserved : goal.bytes-preserved
bytes-preserved g c = grind (arith, skip_delimiters_next)
