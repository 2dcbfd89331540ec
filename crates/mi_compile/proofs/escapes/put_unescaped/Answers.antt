use Rattle.std.proofs.Common.{◌∙◌}
use Rattle.std.proofs.lemmas.Result.{err_from_is_err_and}
use Rattle.mi_compile.proofs.Unescaping.{copy_stands, copy_ends}
use Rattle.mi_compile.proofs.escapes.put_unescaped.Goals as goal

pub returns-clause-put : goal.returns-clause-put
returns-clause-put g c = λ text stands.
    let ops = g.A.Arith.ops in
    let s = c.args.state.now in
    let t = c.copy_within.new.self in
    let copied = copy_stands ops s c.args.span t c.args.o c.requires.from c.requires.to c.copy_within.ensures.bytes text stands in
    let put = c.in_ok-n.ensures.put text copied in
    (put.0, copy_ends ops s c.args.span t c.args.o c.requires.from c.requires.to c.copy_within.ensures.bytes c.unescape_in_place.new.state text stands put.1)

pub returns-in_err-n-clause-memory : goal.returns-in_err-n-clause-memory
returns-in_err-n-clause-memory g c =
    let p = err_from_is_err_and c.from_residual.result c.from_residual.ensures.1 in
    rw p.1 (λ text stands.
    let copied = copy_stands g.A.Arith.ops c.args.state.now c.args.span c.copy_within.new.self c.args.o c.requires.from c.requires.to c.copy_within.ensures.bytes text stands in
    let memory = c.in_err-n.ensures.memory text copied in
    (p.2 ∙ memory.0, memory.1))
