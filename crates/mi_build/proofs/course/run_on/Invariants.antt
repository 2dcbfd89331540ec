use Rattle.std.proofs.Common.{◌≡◌, ◌≤◌, None}
use Rattle.mi_model.specs.Kernel.{whole_kernel}
use Rattle.mi_model.specs.Build.{advanced, emitted}
use Rattle.mi_build.specs.Course.{progress_of}
use Rattle.mi_build.specs.Puts.{PutsButRest, output_of}
use Rattle.mi_build.proofs.course.run_on.Given as goal

abbrev pub invariant-turns : goal.invariant-turns
invariant-turns g l =
    let ops = g.A.Arith.ops l.initial.machine.state.arith in
    record {
      going : l.machine.stop ≡ None;
      same_arith : l.machine.state.arith ≡ l.initial.machine.state.arith;
      same : advanced whole_kernel ops l.fn.ended l.at.left (progress_of l.fn.budget l.at l.machine) ≡ advanced whole_kernel ops l.fn.ended l.initial.at.left (progress_of l.fn.budget l.initial.at l.initial.machine);
      put : PutsButRest (output_of (g.O.Sink.written l.initial.output) l.initial.gathered) (output_of (g.O.Sink.written l.output) l.gathered) (emitted whole_kernel ops l.fn.ended l.initial.at.left l.initial.machine.state.machine) (emitted whole_kernel ops l.fn.ended l.at.left l.machine.state.machine);
      later : g.O.Sink.faults l.initial.output ≤ g.O.Sink.faults l.output;
    }

abbrev pub decreases-turns : goal.decreases-turns
decreases-turns g l = l.at.left
