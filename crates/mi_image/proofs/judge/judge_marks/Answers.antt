use Rattle.mi_image.proofs.Steps.{spelled_faults, judged_behind}
use Rattle.mi_image.proofs.judge.judge_marks.Goals as goal

pub returns : goal.returns
returns c =
    judged_behind c.judge_cells.result _ _ _
    (rw c.number-used.ensures at c.in_ok-judge_spare_bits.ensures)
    (rw (c.number.ensures, c.split_at-2.ensures.back, c.split_at.ensures.back, c.number-used.ensures) (spelled_faults c.args.bytes.now c.requires.kind))
    c.judge_cells.ensures
