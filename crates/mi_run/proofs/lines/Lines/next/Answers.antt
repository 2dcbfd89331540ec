use Rattle.std.proofs.Common.{◌≡◌, ℕ, List, [], ◌-◌, Bool, Ok, Option, IfSome, inr, sym, ap, subst, ◌∙◌, arith}
use Rattle.mi_run.specs.declared.lines.Next.TheVariants.{Line}
use Rattle.std.specs.Prelude.{IsSomeAnd}
use Rattle.mi_run.specs.Lines.{text_of, TellsLine}
use Rattle.mi_run.specs.Reading.{TakesLine}
use Rattle.mi_run.proofs.Reading.{HasReadOf, not_both, positive, reads_more, reads_line, reads_last, takes_line}
use Rattle.mi_run.proofs.lines.Lines.next.Goals as goal

pub returns-then-byte-eq10-clause-tells : goal.returns-then-byte-eq10-clause-tells
returns-then-byte-eq10-clause-tells g c =
    let old = text_of c.args.self.now.buffer (g.I.Source.left c.args.input.now) in
    let left = g.I.Source.left c.fill.new.input in
    let first = c.args.self.now.room in
    let room = c.bytes.self.room in
    let line = c.bytes.self.line in
    let read : HasReadOf old (text_of c.fill.new.self left) first room line =
    subst (λ (t : Option (List ℕ)). HasReadOf old t first room line) (sym c.in_ok-fill.ensures.text) c.bytes.invariant.read in
    subst (λ (xs : List ℕ). TellsLine Line old (text_of c.take-byte.new.self left) first (room - 1) xs) (sym c.end.ensures)
    (reads_line old left c.fill.new.self c.take-byte.new.self first room line c.take-byte.result read c.take-byte.ensures c.if-byte-eq10.true (positive room c.if-self-eq0.false))

pub bytes-preserved : goal.bytes-preserved
bytes-preserved g c =
    let old = text_of c.args.self.now.buffer (g.I.Source.left c.args.input.now) in
    let left = g.I.Source.left c.fill.new.input in
    let first = c.args.self.now.room in
    let room = c.bytes.self.room in
    let line = c.bytes.self.line in
    let read : HasReadOf old (text_of c.fill.new.self left) first room line =
    subst (λ (t : Option (List ℕ)). HasReadOf old t first room line) (sym c.in_ok-fill.ensures.text) c.bytes.invariant.read in
    record {
      read = subst (λ (xs : List ℕ). HasReadOf old (text_of c.take-byte.new.self left) first (room - 1) xs) (sym c.push.ensures)
          (reads_more old left c.fill.new.self c.take-byte.new.self first room line c.take-byte.result read c.take-byte.ensures c.if-byte-eq10.false (positive room c.if-self-eq0.false));
      going = c.bytes.invariant.going;
      later = omega (arith, c.bytes.invariant.later, c.in_ok-fill.ensures.cause.later);
    }

pub returns-else-is_empty-clause-tells : goal.returns-else-is_empty-clause-tells
returns-else-is_empty-clause-tells g c =
    let old = text_of c.args.self.now.buffer (g.I.Source.left c.args.input.now) in
    let now = text_of c.fill.new.self (g.I.Source.left c.fill.new.input) in
    let first = c.args.self.now.room in
    let room = c.bytes.self.room in
    let line = c.bytes.self.line in
    let read : HasReadOf old now first room line =
    subst (λ (t : Option (List ℕ)). HasReadOf old t first room line) (sym c.in_ok-fill.ensures.text) c.bytes.invariant.read in
    let at_end : IfSome now (λ text. text ≡ []) = c.in_ok-fill.ensures.end (ap (λ (b : Bool). Ok b) c.if-branch.false) in
    subst (λ (xs : List ℕ). TellsLine Line old now first room xs) (sym c.end-2.ensures)
    (reads_last old now first room line read at_end (λ empty. not_both c.is_empty.result c.if-is_empty.false (c.is_empty.ensures.1 (c.end-2.ensures ∙ empty))))

pub returns-then-byte-eq10-clause-takes : goal.returns-then-byte-eq10-clause-takes
returns-then-byte-eq10-clause-takes g c =
    let old = text_of c.args.self.now.buffer (g.I.Source.left c.args.input.now) in
    let left = g.I.Source.left c.fill.new.input in
    let first = c.args.self.now.room in
    let room = c.bytes.self.room in
    let line = c.bytes.self.line in
    let read : HasReadOf old (text_of c.fill.new.self left) first room line =
    subst (λ (t : Option (List ℕ)). HasReadOf old t first room line) (sym c.in_ok-fill.ensures.text) c.bytes.invariant.read in
    inr (
      c.if-self.false,
      subst (λ (xs : List ℕ). IfSome old (λ text. IsSomeAnd (text_of c.take-byte.new.self left) (λ rest. TakesLine text rest first (room - 1) xs))) (sym c.end.ensures)
          (takes_line old left c.fill.new.self c.take-byte.new.self first room line c.take-byte.result read c.take-byte.ensures c.if-byte-eq10.true (positive room c.if-self-eq0.false)),
    )
