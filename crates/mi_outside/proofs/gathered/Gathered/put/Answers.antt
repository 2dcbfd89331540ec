use Rattle.std.proofs.Common.{◌∙◌, sym, arith}
use Rattle.mi_outside.proofs.Gathering.{passed_on, failed_on, last_more}
use Rattle.mi_outside.proofs.gathered.Gathered.put.Goals as goal

pub returns-in-Err-clause-passes : goal.returns-in-Err-clause-passes
returns-in-Err-clause-passes g c =
    failed_on (g.O.Sink.written c.args.output.now) (g.O.Sink.written c.bytes.output) (g.O.Sink.written c.put_byte.new.output) c.args.self.now.waiting c.args.piece.now c.bytes.self.waiting c.bytes.at
    (omega arith) c.bytes.invariant.passes c.in-Err.ensures.passes

pub bytes-preserved : goal.bytes-preserved
bytes-preserved g c =
    record {
      within = omega arith;
      passes = passed_on (g.O.Sink.written c.args.output.now) (g.O.Sink.written c.bytes.output) (g.O.Sink.written c.put_byte.new.output) c.args.self.now.waiting c.args.piece.now c.bytes.self.waiting c.put_byte.new.self.waiting c.bytes.at
          (omega arith) c.bytes.invariant.passes c.in-Ok.ensures.passes;
      last = c.in-Ok.ensures.last ∙ sym (last_more c.args.piece.now c.bytes.at c.args.self.now.last (omega arith));
      later = omega (arith, c.bytes.invariant.later, c.in-Ok.ensures.cause.later);
    }
