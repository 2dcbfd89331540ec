use Rattle.std.proofs.Common.{refl, arith}
use Rattle.mi_build.specs.Puts.{output_of}
use Rattle.mi_build.proofs.PutLemmas.{puts_nothing}
use Rattle.mi_build.proofs.course.run_sources.Goals as goal

pub texts-init : goal.texts-init
texts-init g c = record {
  within = omega arith;
  counted = c.count-count.ensures.value;
  wants = c.requires.wants;
  same_arith = refl;
  same = refl;
  put = puts_nothing (output_of (g.O.Sink.written c.args.output.now) c.args.gathered.now) _ _ refl;
  later = omega arith;
}
