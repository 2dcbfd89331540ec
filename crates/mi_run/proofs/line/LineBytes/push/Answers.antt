use Rattle.std.proofs.Common.{◌∙◌, ap, sym, take, ◌++◌, ◌∷◌, [], arith}
use Rattle.mi_run.proofs.Keeping.{kept_with, kept_full}
use Rattle.mi_run.proofs.line.LineBytes.push.Goals as goal

pub returns-then-self-lt-LINE_ROOM : goal.returns-then-self-lt-LINE_ROOM
returns-then-self-lt-LINE_ROOM c =
    kept_with c.self.inside.bytes.items c.self.inside.count c.args.byte (omega arith) (omega arith) ∙ ap (λ (xs : _). take 1022 (xs ++ c.args.byte ∷ [])) c.self.view_is

pub returns-else-self-lt-LINE_ROOM : goal.returns-else-self-lt-LINE_ROOM
returns-else-self-lt-LINE_ROOM c =
    sym c.self.view_is ∙ kept_full c.self.inside.bytes.items c.self.inside.count c.args.byte (omega arith) (omega arith) (omega arith) ∙ ap (λ (xs : _). take 1022 (xs ++ c.args.byte ∷ [])) c.self.view_is
