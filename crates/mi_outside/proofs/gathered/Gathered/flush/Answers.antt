use Rattle.std.proofs.Common.{◌∙◌, ap, take, List, ℕ}
use Rattle.mi_outside.specs.Gathered.{GatheredView}
use Rattle.mi_outside.proofs.Gathering.{flushed}
use Rattle.mi_outside.proofs.gathered.Gathered.flush.Goals as goal

pub returns-clause-passes : goal.returns-clause-passes
returns-clause-passes g c =
    flushed c.write.result (g.O.Sink.written c.args.output.now) (g.O.Sink.written c.write.new.self) c.args.self.now.waiting _ c.write.ensures.bytes
    (ap (λ (xs : List ℕ). take c.self.inside.count xs) c.deref.ensures.value ∙ ap (λ (v : GatheredView). v.waiting) c.self.view_is)
