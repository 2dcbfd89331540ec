use Rattle.std.proofs.Common.{refl, arith}
use Rattle.mi_build.specs.Puts.{output_of}
use Rattle.mi_build.proofs.PutLemmas.{puts_nothing}
use Rattle.mi_build.proofs.course.run_text.Goals as goal

pub lines-init : goal.lines-init
lines-init g c = record {
  within = omega arith;
  counted = omega arith;
  wants = c.requires.wants;
  same_arith = refl;
  same = refl;
  put = puts_nothing (output_of (g.O.Sink.written c.args.output.now) c.args.gathered.now) _ _ refl;
  later = omega arith;
}
