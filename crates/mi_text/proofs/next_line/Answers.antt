use Rattle.std.proofs.Common.{sym, ◌∙◌, arith}
use Rattle.mi_text.proofs.LineLemmas.{first-line, last-line, no-line, some-line}
use Rattle.mi_text.proofs.next_line.Goals as goal

pub returns-in-Some-clause-line : goal.returns-in-Some-clause-line
returns-in-Some-clause-line c =
    first-line c.args.text.now c.args.from c.in-Some.place c.line_end.result (sym c.line_feed.ensures ∙ c.in-Some.is) c.line_end.ensures.value

pub returns-in-Some-clause-none : goal.returns-in-Some-clause-none
returns-in-Some-clause-none c =
    let line = returns-in-Some-clause-line c in
    (λ none. cc, λ none. cc)

pub returns-then-end-from-clause-none : goal.returns-then-end-from-clause-none
returns-then-end-from-clause-none c =
    let all = last-line c.args.text.now c.args.from c.line_end-end.result (sym c.line_feed.ensures ∙ c.in-None.is) c.line_end-end.ensures.value in
    (λ none. all ∙ no-line c.args.text.now c.args.from c.line_end-end.result c.if-end-from.true, λ none. cc)

pub returns-else-end-from-clause-line : goal.returns-else-end-from-clause-line
returns-else-end-from-clause-line c =
    last-line c.args.text.now c.args.from c.line_end-end.result (sym c.line_feed.ensures ∙ c.in-None.is) c.line_end-end.ensures.value
    ∙ some-line c.args.text.now c.args.from c.line_end-end.result (omega arith) (omega arith)

pub returns-else-end-from-clause-none : goal.returns-else-end-from-clause-none
returns-else-end-from-clause-none c =
    let line = returns-else-end-from-clause-line c in
    (λ none. cc, λ none. cc)
