use Rattle.std.proofs.Common.{ℕ, List, [], ◌∷◌, ◌++◌, Option, ap, subst, ◌∙◌, append_assoc}
use Rattle.mi_model.specs.Escapes.{unescaped}
use Rattle.mi_text.specs.declared.escape_reader.EscapeReader.{EscapeReader}
use Rattle.mi_text.specs.Unescaped.{Reads, bytes_of}
use Rattle.mi_compile.specs.Escaped.{HasRead}
use Rattle.mi_compile.proofs.escapes.read_more.Goals as goal

pub returns-in-Ok : goal.returns-in-Ok
returns-in-Ok c = λ text has.
    let read : (given : List ℕ) × Reads c.in_ok-reader.reader text given = subst (λ (r : Option EscapeReader). HasRead r text) c.in_ok-reader.was has in
    (read.0 ++ bytes_of c.in-Ok.field-0, c.in-Ok.ensures.ok text read.0 read.1)

pub returns-in-Err : goal.returns-in-Err
returns-in-Err c = λ text has rest.
    let read : (given : List ℕ) × Reads c.in_ok-reader.reader text given = subst (λ (r : Option EscapeReader). HasRead r text) c.in_ok-reader.was has in
    ap unescaped (append_assoc text (c.args.byte ∷ []) rest) ∙ c.in-Err.ensures.err text read.0 rest read.1
