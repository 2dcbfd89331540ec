use Rattle.std.proofs.Common.{◌≡◌, ◌≤◌, ◌+◌, ◌-◌, Some, drop, length}
use Rattle.mi_model.specs.Lines.{lines_of_all}
use Rattle.mi_model.specs.Kernel.{whole_kernel}
use Rattle.mi_model.specs.Build.{lines_given, lines_emitted}
use Rattle.mi_machine.specs.declared.machine.Stop.TheVariants.{WantLine}
use Rattle.mi_build.specs.Course.{progress_of}
use Rattle.mi_build.specs.Puts.{PutsButRest, output_of}
use Rattle.mi_build.proofs.course.run_sources.Given as goal

abbrev pub invariant-texts : goal.invariant-texts
invariant-texts g l =
    let ops = g.A.Arith.ops l.initial.machine.state.arith in
    let left = lines_of_all (l.i + 1) (drop l.i l.fn.sources) in
    let all = lines_of_all 1 l.fn.sources in
    record {
      within : l.i ≤ l.count;
      counted : l.count ≡ length l.fn.sources;
      wants : l.machine.stop ≡ Some WantLine;
      same_arith : l.machine.state.arith ≡ l.initial.machine.state.arith;
      same : lines_given whole_kernel ops left (progress_of l.fn.budget l.at l.machine) ≡ lines_given whole_kernel ops all (progress_of l.fn.budget l.initial.at l.initial.machine);
      put : PutsButRest (output_of (g.O.Sink.written l.initial.output) l.initial.gathered) (output_of (g.O.Sink.written l.output) l.gathered) (lines_emitted whole_kernel ops all (progress_of l.fn.budget l.initial.at l.initial.machine)) (lines_emitted whole_kernel ops left (progress_of l.fn.budget l.at l.machine));
      later : g.O.Sink.faults l.initial.output ≤ g.O.Sink.faults l.output;
    }

abbrev pub decreases-texts : goal.decreases-texts
decreases-texts g l = l.count - l.i
