use Rattle.std.proofs.Common.{◌≡◌, ◌≤◌, ◌+◌, ◌-◌, Some, drop, length}
use Rattle.mi_model.specs.Lines.{lines_of, numbered}
use Rattle.mi_model.specs.Kernel.{whole_kernel}
use Rattle.mi_model.specs.Build.{lines_given, lines_emitted}
use Rattle.mi_machine.specs.declared.machine.Stop.TheVariants.{WantLine}
use Rattle.mi_build.specs.Course.{progress_of}
use Rattle.mi_build.specs.Puts.{PutsButRest, output_of}
use Rattle.mi_build.proofs.course.run_text.Given as goal

abbrev pub invariant-lines : goal.invariant-lines
invariant-lines g l =
    let ops = g.A.Arith.ops l.initial.machine.state.arith in
    let left = numbered l.fn.file (l.number + 1) (lines_of (drop l.from l.fn.text)) in
    let all = numbered l.fn.file 1 (lines_of l.fn.text) in
    record {
      within : l.from ≤ length l.fn.text;
      counted : l.number ≤ l.from;
      wants : l.machine.stop ≡ Some WantLine;
      same_arith : l.machine.state.arith ≡ l.initial.machine.state.arith;
      same : lines_given whole_kernel ops left (progress_of l.fn.budget l.at l.machine) ≡ lines_given whole_kernel ops all (progress_of l.fn.budget l.initial.at l.initial.machine);
      put : PutsButRest (output_of (g.O.Sink.written l.initial.output) l.initial.gathered) (output_of (g.O.Sink.written l.output) l.gathered) (lines_emitted whole_kernel ops all (progress_of l.fn.budget l.initial.at l.initial.machine)) (lines_emitted whole_kernel ops left (progress_of l.fn.budget l.at l.machine));
      later : g.O.Sink.faults l.initial.output ≤ g.O.Sink.faults l.output;
    }

abbrev pub decreases-lines : goal.decreases-lines
decreases-lines g l = length l.fn.text - l.from
