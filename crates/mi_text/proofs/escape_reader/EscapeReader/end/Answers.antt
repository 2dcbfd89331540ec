use Rattle.std.proofs.Common.{◌≡◌, ℕ, List, [], None, Some, sym, ◌∙◌, ap, arith}
use Rattle.std.proofs.lemmas.Grind.{common_steps}
use Rattle.std.proofs.lemmas.List.{append-nil}
use Rattle.mi_model.specs.Escapes.{unescaped, in_front, text_end}
use Rattle.mi_text.specs.declared.escape_reader.EscapeReader.{EscapeReader}
use Rattle.mi_text.specs.Unescaped.{Reads, in_escape}
use Rattle.mi_text.proofs.escape_reader.EscapeReader.end.Goals as goal

-- what the text that was read comes to where nothing follows
text_read : (r : EscapeReader) (text given : List ℕ) → Reads r text given → unescaped text ≡ in_front given (text_end (in_escape r.place))
text_read r text given reads = ap unescaped (sym (append-nil text)) ∙ reads []

pub returns-in-Outside-clause-ok : goal.returns-in-Outside-clause-ok
returns-in-Outside-clause-ok c = λ text given reads.
    let is = c.in-Outside.is in
    let in_no_escape : text_end (in_escape c.args.self.place) ≡ Some [] = grind (arith, common_steps) in
    text_read c.args.self text given reads ∙ ap (in_front given) in_no_escape ∙ ap Some (append-nil given)

pub returns-in-Behind-clause-err : goal.returns-in-Behind-clause-err
returns-in-Behind-clause-err c = λ text given reads.
    let is = c.in-Behind.is in
    let in_an_escape : text_end (in_escape c.args.self.place) ≡ None = grind (arith, common_steps) in
    text_read c.args.self text given reads ∙ ap (in_front given) in_an_escape
