use Rattle.std.proofs.Common.{◌∷◌, []}
use Rattle.mi_outside.proofs.Gathering.{failed_behind}
use Rattle.mi_outside.proofs.gathered.Gathered.put_byte.Goals as goal

pub returns-in-Err-clause-passes : goal.returns-in-Err-clause-passes
returns-in-Err-clause-passes g c = failed_behind (g.O.Sink.written c.args.output.now) (g.O.Sink.written c.flush.new.output) c.args.self.now.waiting (c.args.byte ∷ []) c.in-Err.ensures.passes
