-- A line is left, so fewer are counted than the text has bytes.
use Rattle.std.proofs.Common.{length, ap, arith}
use Rattle.mi_text.proofs.CountLemmas.{length-lines}
use Rattle.mi_text.proofs.count_lines.Goals as goal

pub overflow_add-count : goal.overflow_add-count
overflow_add-count c =
    let more = ap length c.in-Some.ensures.line in
    omega (arith, length-lines c.args.text.now)
