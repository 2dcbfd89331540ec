use Rattle.std.proofs.Common.{◌≡◌, ◌≤◌, None, Ok}
use Rattle.mi_outside.specs.Puts.{output_of}
use Rattle.mi_run.specs.Course.{run_left, GoesFrom}
use Rattle.mi_run.specs.Reading.{reading_of, IsDoneAtEnd}
use Rattle.mi_run.specs.Taking.{left_taken, TakesFrom}
use Rattle.mi_run.proofs.course.run_on.Given as goal

abbrev pub invariant-turns : goal.invariant-turns
invariant-turns g l =
    record {
      going : l.machine.stop ≡ None;
      turns : l.at.turns ≡ l.fn.start.turns;
      done : IsDoneAtEnd (reading_of l.lines (g.I.Source.left l.input));
      same : GoesFrom (Ok tt) l.fn.start.turns (run_left l.fn.start l.fn.machine.state l.fn.lines (g.I.Source.left l.fn.input)) (run_left l.at l.machine.state l.lines (g.I.Source.left l.input)) (output_of (g.O.Sink.written l.fn.output) l.fn.gathered) (output_of (g.O.Sink.written l.output) l.gathered);
      taking : TakesFrom (reading_of l.fn.lines (g.I.Source.left l.fn.input)) (reading_of l.lines (g.I.Source.left l.input)) (left_taken l.fn.start l.fn.machine.state) (left_taken l.at l.machine.state) (output_of (g.O.Sink.written l.fn.output) l.fn.gathered) (output_of (g.O.Sink.written l.output) l.gathered);
      input_later : g.I.Source.faults l.fn.input ≤ g.I.Source.faults l.input;
      output_later : g.O.Sink.faults l.fn.output ≤ g.O.Sink.faults l.output;
    }

abbrev pub decreases-turns : goal.decreases-turns
decreases-turns g l = l.at.left
