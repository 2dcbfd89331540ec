use Rattle.std.proofs.Common.{◌≡◌, ◌*◌, true, false, Some, sym, ap, ◌∙◌, rules}
use Rattle.mi_bitmap.specs.Bits.{bit}
use Rattle.mi_image.specs.Grammar.{number_at, is_cell}
use Rattle.mi_image.proofs.Steps.{faults_here, faults_behind, allowed_either_way}
use Rattle.mi_image.proofs.judge.judge_cells.Goals.{else-is_marked-via-then-is_marked+else-not-is_address, else-is_marked-via-else-is_marked}
use Rattle.mi_image.proofs.judge.judge_cells.Goals as goal

pub returns-then-not-is_address : goal.returns-then-not-is_address
returns-then-not-is_address c =
    let marked : bit c.args.bitmap.now c.loop-i.i ≡ true = sym c.is_marked.ensures ∙ c.if-is_marked.true in
    let broken : is_cell c.args.size (number_at c.args.body.now (8 * c.loop-i.i)) true ≡ false =
    sym (c.is_address.ensures ∙ ap (λ n. is_cell c.args.size n true) c.number.ensures) ∙ search rules in
    sym c.loop-i.invariant
    ∙ faults_here c.args.size c.args.body.now c.args.bitmap.now c.args.cells c.loop-i.i c.loop-i-test.true c.requires.cells marked broken
    ∙ ap Some (sym c.not_image.ensures)

pub loop-i-preserved : goal.loop-i-preserved
loop-i-preserved c =
    faults_behind c.args.size c.args.body.now c.args.bitmap.now c.args.cells c.loop-i.i c.loop-i-test.true c.requires.cells allowed ∙ c.loop-i.invariant
  where
    allowed : is_cell c.args.size (number_at c.args.body.now (8 * c.loop-i.i)) (bit c.args.bitmap.now c.loop-i.i) ≡ true
    allowed = elim c.else-is_marked.branch [
      | else-is_marked-via-then-is_marked+else-not-is_address w ↦
          allowed_either_way c.args.size (number_at c.args.body.now (8 * c.loop-i.i)) (bit c.args.bitmap.now c.loop-i.i)
          (sym (w.is_address.ensures ∙ ap (λ n. is_cell c.args.size n true) w.number.ensures) ∙ search rules)
      | else-is_marked-via-else-is_marked w ↦ ap (is_cell c.args.size (number_at c.args.body.now (8 * c.loop-i.i))) (sym c.is_marked.ensures ∙ w.if-is_marked.false)
    ]
