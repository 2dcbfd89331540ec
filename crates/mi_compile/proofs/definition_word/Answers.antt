use Rattle.std.proofs.Common.{◌≡◌, ℕ, [], ◌∷◌}
use Rattle.mi_model.specs.Table.{action_of, table}
use Rattle.mi_compile.proofs.definition_word.Goals as goal

pub returns-in-98 : goal.returns-in-98
unfolding action_of table
returns-in-98 g c = λ token. rw c.in-98.is (c.paren_does.ensures token)
