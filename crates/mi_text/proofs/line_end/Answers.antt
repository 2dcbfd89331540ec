use Rattle.std.proofs.Common.{arith}
use Rattle.mi_text.proofs.EndingLemmas.{range-without-cr, range-with-other, range-empty}
use Rattle.mi_text.proofs.line_end.Goals as goal
use Rattle.mi_text.proofs.line_end.Goals.{else-from-end-via-then-from-end+else-text-end-eq13, else-from-end-via-else-from-end}

pub returns-then-text-end-eq13-clause-value : goal.returns-then-text-end-eq13-clause-value
returns-then-text-end-eq13-clause-value c =
    range-without-cr c.args.text.now c.args.from c.args.end c.if-from-end.true c.requires.within c.if-text-end-eq13.true

pub returns-else-from-end-clause-value : goal.returns-else-from-end-clause-value
returns-else-from-end-clause-value c =
    elim c.else-from-end.branch [
      | else-from-end-via-then-from-end+else-text-end-eq13 w ↦
          range-with-other c.args.text.now c.args.from c.args.end w.if-from-end.true c.requires.within w.if-text-end-eq13.false
      | else-from-end-via-else-from-end w ↦ range-empty c.args.text.now c.args.from c.args.end (omega arith)
    ]
