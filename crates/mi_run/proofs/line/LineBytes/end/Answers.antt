use Rattle.std.proofs.Common.{◌∙◌, ap, sym, arith}
use Rattle.std.proofs.lemmas.List.{get_or_read}
use Rattle.mi_text.specs.Ending.{without_last_cr}
use Rattle.mi_run.proofs.Keeping.{cr_dropped, other_kept, none_kept}
use Rattle.mi_run.proofs.line.LineBytes.end.Goals.{else-self-gt0-via-then-self-gt0+else-index-eq13, else-self-gt0-via-else-self-gt0}
use Rattle.mi_run.proofs.line.LineBytes.end.Goals as goal

pub returns-then-index-eq13 : goal.returns-then-index-eq13
returns-then-index-eq13 c =
    cr_dropped c.self.inside.bytes.items c.self.inside.count c.if-self-gt0.true (omega arith)
    (sym (get_or_read c.self.inside.bytes.items _ c.index.result.now (omega arith) c.index.ensures 0) ∙ c.if-index-eq13.true)
    ∙ ap without_last_cr c.self.view_is

pub returns-else-self-gt0 : goal.returns-else-self-gt0
returns-else-self-gt0 c =
    elim c.else-self-gt0.branch [
      | else-self-gt0-via-then-self-gt0+else-index-eq13 w ↦
          sym c.self.view_is
          ∙ other_kept c.self.inside.bytes.items c.self.inside.count w.if-self-gt0.true (omega arith)
          (λ is_cr. w.if-index-eq13.false (get_or_read c.self.inside.bytes.items _ w.index.result.now (omega arith) w.index.ensures 0 ∙ is_cr))
          ∙ ap without_last_cr c.self.view_is
      | else-self-gt0-via-else-self-gt0 w ↦
          sym c.self.view_is ∙ none_kept c.self.inside.bytes.items c.self.inside.count (omega arith) ∙ ap without_last_cr c.self.view_is
    ]
