use Rattle.std.proofs.Math.ListN.{length-set}
use Rattle.mi_model.proofs.ChainLemmas.{same_byte, same_length}
use Rattle.mi_model.proofs.WriteLemmas.{byte_leaves, moved_leaves, filled_leaves, text_leaves, moved_keeps_length, filled_keeps_length, text_keeps_length}
use Rattle.mi_arith.proofs.laws.writes_leave_other_bytes.Goals as goal

pub returns-clause-cell : goal.returns-clause-cell
returns-clause-cell g c = λ bytes o i x outside. same_byte (g.A.Arith.ops c.args.arith.now) bytes o i x outside

pub returns-clause-byte : goal.returns-clause-byte
returns-clause-byte g c = λ bytes o i b other. byte_leaves (g.A.Arith.ops c.args.arith.now) bytes o i b other

pub returns-clause-moved : goal.returns-clause-moved
returns-clause-moved g c = λ bytes from to n i reads fits outside. moved_leaves (g.A.Arith.ops c.args.arith.now) bytes from to n i reads fits outside

pub returns-clause-filled : goal.returns-clause-filled
returns-clause-filled g c = λ bytes o n i b fits outside. filled_leaves (g.A.Arith.ops c.args.arith.now) bytes o n i b fits outside

pub returns-clause-text : goal.returns-clause-text
returns-clause-text g c = λ bytes o i text outside. text_leaves (g.A.Arith.ops c.args.arith.now) bytes o i text outside

pub returns-clause-lengths : goal.returns-clause-lengths
returns-clause-lengths g c = λ bytes. (
  (λ o x. same_length (g.A.Arith.ops c.args.arith.now) bytes o x),
  (λ o b. length-set bytes o b),
  (λ from to n reads fits. moved_keeps_length bytes from to n reads fits),
  (λ o n b fits. filled_keeps_length bytes o n b fits),
  (λ o text. text_keeps_length (g.A.Arith.ops c.args.arith.now) bytes o text),
)
