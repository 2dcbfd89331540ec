use Rattle.std.proofs.Common.{[], Err}
use Rattle.mi_outside.specs.Puts.{output_of}
use Rattle.mi_run.specs.Course.{run_left, wait_left}
use Rattle.mi_run.proofs.CourseLemmas.{waited_on, waited_failed}
use Rattle.mi_run.proofs.Pieces.{not_both_faults, piece_begun, piece_reads, piece_fault}
use Rattle.mi_run.specs.Reading.{reading_of}
use Rattle.mi_run.specs.Taking.{left_taken, wait_taken}
use Rattle.mi_run.proofs.TakingLemmas.{no_stop, waited_taking}
use Rattle.mi_run.proofs.course.answer_wait.Goals as goal

pub returns-in-Ok-clause-goes : goal.returns-in-Ok-clause-goes
returns-in-Ok-clause-goes g c =
    let at = c.args.at.now in
    waited_on c.give_input.result at.turns (wait_left at c.args.machine.now.state c.args.lines.now (g.I.Source.left c.args.input.now))
    (run_left at c.give_input.new.machine.state c.give_input.new.lines (g.I.Source.left c.give_input.new.input))
    (output_of (g.O.Sink.written c.args.output.now) c.args.gathered.now) (output_of (g.O.Sink.written c.write_waiting.new.output) c.write_waiting.new.gathered)
    (output_of (g.O.Sink.written c.give_input.new.output) c.give_input.new.gathered)
    c.give_input.ensures.begun c.in-Ok.ensures.emits c.give_input.ensures.goes

pub returns-in-Err-clause-goes : goal.returns-in-Err-clause-goes
returns-in-Err-clause-goes g c =
    let at = c.args.at.now in
    waited_failed c.in-Err.end at.turns (wait_left at c.args.machine.now.state c.args.lines.now (g.I.Source.left c.args.input.now))
    (run_left at c.args.machine.now.state c.args.lines.now (g.I.Source.left c.args.input.now))
    (output_of (g.O.Sink.written c.args.output.now) c.args.gathered.now) (output_of (g.O.Sink.written c.write_waiting.new.output) c.write_waiting.new.gathered)
    c.in-Err.ensures.emits

pub returns-in-Ok-clause-takes : goal.returns-in-Ok-clause-takes
returns-in-Ok-clause-takes g c =
    let at = c.args.at.now in
    let left = g.I.Source.left c.give_input.new.input in
    waited_taking c.give_input.result (reading_of c.args.lines.now (g.I.Source.left c.args.input.now)) (reading_of c.give_input.new.lines left) left
    (wait_taken at c.args.machine.now.state) (left_taken at c.give_input.new.machine.state)
    (output_of (g.O.Sink.written c.args.output.now) c.args.gathered.now) (output_of (g.O.Sink.written c.write_waiting.new.output) c.write_waiting.new.gathered)
    (output_of (g.O.Sink.written c.give_input.new.output) c.give_input.new.gathered) c.in-Ok.ensures.emits c.give_input.ensures.takes

pub returns-in-Err-clause-takes : goal.returns-in-Err-clause-takes
returns-in-Err-clause-takes g c =
    let left = g.I.Source.left c.args.input.now in
    no_stop c.in-Err.end (reading_of c.args.lines.now left) left (wait_taken c.args.at.now c.args.machine.now.state)
    (output_of (g.O.Sink.written c.args.output.now) c.args.gathered.now) (output_of (g.O.Sink.written c.write_waiting.new.output) c.write_waiting.new.gathered)
    (not_both_faults c.in-Err.end c.in-Err.ensures.emits.0)
