use Rattle.std.proofs.Common.{ℕ, Some, sym, ap, ◌∙◌, arith}
use Rattle.mi_image.specs.declared.fault.ImageFault.TheVariants.{NotImage}
use Rattle.mi_image.specs.declared.fault.Part.TheVariants as parts
use Rattle.mi_image.proofs.Steps.{BodyAllowed, length_with_bitmap, fixed_allowed, relocatable_allowed, byte_behind, nothing_behind}
use Rattle.mi_image.proofs.judge.judge_body.Goals.{in-Relocatable+in_ok-judge_marks-in-Relocatable, in-Fixed}
use Rattle.mi_image.proofs.judge.judge_body.Goals as goal

pub judge_marks-requires-clause-end : goal.judge_marks-requires-clause-end
judge_marks-requires-clause-end c = c.whole_length-end.ensures ∙ length_with_bitmap c.args.bytes.now (sym c.kind.ensures ∙ c.in-Relocatable.is)

pub returns-then-bytes-end-2 : goal.returns-then-bytes-end-2
returns-then-bytes-end-2 c =
    let end = c.whole_length-end.ensures in
    byte_behind c.args.bytes.now allowed (omega arith)
    ∙ ap (λ (n : ℕ). Some (NotImage n parts.End)) (sym end)
    ∙ ap Some (sym c.not_image.ensures)
  where
    allowed : BodyAllowed c.args.bytes.now
    allowed = elim c.match-kind.branch [
      | in-Relocatable+in_ok-judge_marks-in-Relocatable w ↦
          relocatable_allowed c.args.bytes.now c.whole_length-end.result (sym c.kind.ensures ∙ w.in-Relocatable.is) c.whole_length-end.ensures w.in_ok-judge_marks-in-Relocatable.ensures
      | in-Fixed w ↦ fixed_allowed c.args.bytes.now (sym c.kind.ensures ∙ w.in-Fixed.is)
    ]

pub returns : goal.returns
returns c = let end = c.whole_length-end.ensures in nothing_behind c.args.bytes.now allowed (omega arith)
  where
    allowed : BodyAllowed c.args.bytes.now
    allowed = elim c.match-kind.branch [
      | in-Relocatable+in_ok-judge_marks-in-Relocatable w ↦
          relocatable_allowed c.args.bytes.now c.whole_length-end.result (sym c.kind.ensures ∙ w.in-Relocatable.is) c.whole_length-end.ensures w.in_ok-judge_marks-in-Relocatable.ensures
      | in-Fixed w ↦ fixed_allowed c.args.bytes.now (sym c.kind.ensures ∙ w.in-Fixed.is)
    ]
