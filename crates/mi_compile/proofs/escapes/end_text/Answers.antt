use Rattle.std.proofs.Common.{ℕ, List, [], Option, sym, ap, subst, ◌∙◌}
use Rattle.std.proofs.lemmas.List.{append-nil}
use Rattle.mi_model.specs.Escapes.{unescaped}
use Rattle.mi_text.specs.declared.escape_reader.EscapeReader.{EscapeReader}
use Rattle.mi_text.specs.Unescaped.{Reads}
use Rattle.mi_compile.specs.Escaped.{HasRead}
use Rattle.mi_compile.proofs.escapes.end_text.Goals as goal

pub returns-in-None-clause-bad : goal.returns-in-None-clause-bad
returns-in-None-clause-bad c = λ text has.
    ap unescaped (sym (append-nil text)) ∙ subst (λ (r : Option EscapeReader). HasRead r text) c.in-None.is has []

pub returns-in-Ok-clause-good : goal.returns-in-Ok-clause-good
returns-in-Ok-clause-good c = λ text has.
    let read : (given : List ℕ) × Reads c.in-Some.reader text given = subst (λ (r : Option EscapeReader). HasRead r text) c.in-Some.is has in
    (read.0, c.in-Ok.ensures.ok text read.0 read.1)

pub returns-in-Err-clause-bad : goal.returns-in-Err-clause-bad
returns-in-Err-clause-bad c = λ text has.
    let read : (given : List ℕ) × Reads c.in-Some.reader text given = subst (λ (r : Option EscapeReader). HasRead r text) c.in-Some.is has in
    c.in-Err.ensures.err text read.0 read.1
