use Rattle.std.proofs.Common.{refl, rules}
use Rattle.mi_outside.proofs.Places.{begun_read, gone_read}
use Rattle.mi_outside.proofs.shelf.Shelf.begin_read.Goals as goal

pub returns-then-is_some-clause-begun : goal.returns-then-is_some-clause-begun
returns-then-is_some-clause-begun c =
    (_, begun_read c.args.self.now.entries.items c.args.name.now c.in-Some.index c.index.result.now (search rules) (search rules) (search rules) (search rules), refl)

pub returns-else-is_some-clause-begun : goal.returns-else-is_some-clause-begun
returns-else-is_some-clause-begun c =
    (gone_read c.args.self.now.entries.items c.args.name.now c.in-Some.index c.index.result.now (search rules) (search rules) (search rules) (search rules), refl)
