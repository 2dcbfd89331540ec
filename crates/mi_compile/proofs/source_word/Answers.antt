use Rattle.std.proofs.Common.{◌≡◌, ℕ, [], ◌∷◌}
use Rattle.mi_model.specs.Table.{action_of, table}
use Rattle.mi_compile.proofs.source_word.Goals as goal

pub returns-in-78 : goal.returns-in-78
unfolding action_of table
returns-in-78 g c = λ token. rw c.in-78.is (c.to_number.ensures token)
