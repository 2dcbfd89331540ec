use Rattle.std.proofs.Common.{ℕ, Ok, Err, refl, subst, ◌∙◌, arith}
use Rattle.mi_outside.specs.Puts.{output_of}
use Rattle.mi_run.specs.Lines.{text_of}
use Rattle.mi_run.specs.Course.{run_left, GoesFrom}
use Rattle.mi_run.proofs.CourseLemmas.{goes_nowhere, goes_on, ended_ends, ended_writes, spent_ends, spent_writes}
use Rattle.mi_run.specs.Reading.{reading_of}
use Rattle.mi_run.specs.Taking.{left_taken}
use Rattle.mi_run.proofs.TakingLemmas.{nothing_taken, goes_taking, stops_on}
use Rattle.mi_run.proofs.course.run_on.Goals as goal

pub turns-init : goal.turns-init
turns-init g c =
    record {
      going = c.requires.going;
      done = c.requires.done;
      turns = refl;
      same = goes_nowhere c.args.start.turns (run_left c.args.start c.args.machine.now.state c.args.lines.now (g.I.Source.left c.args.input.now)) (output_of (g.O.Sink.written c.args.output.now) c.args.gathered.now);
      taking = nothing_taken (reading_of c.args.lines.now (g.I.Source.left c.args.input.now)) (left_taken c.args.start c.args.machine.now.state) (output_of (g.O.Sink.written c.args.output.now) c.args.gathered.now);
      input_later = omega arith;
      output_later = omega arith;
    }

pub turns-preserved : goal.turns-preserved
turns-preserved g c =
    let turns = c.args.start.turns in
    let first = run_left c.args.start c.args.machine.now.state c.args.lines.now (g.I.Source.left c.args.input.now) in
    let second = run_left c.turns.at c.turns.machine.state c.turns.lines (g.I.Source.left c.turns.input) in
    let third = run_left c.run_one.new.at c.run_one.new.machine.state c.run_one.new.lines (g.I.Source.left c.run_one.new.input) in
    let w0 = output_of (g.O.Sink.written c.args.output.now) c.args.gathered.now in
    let w1 = output_of (g.O.Sink.written c.turns.output) c.turns.gathered in
    let w2 = output_of (g.O.Sink.written c.run_one.new.output) c.run_one.new.gathered in
    record {
      going = c.in-Ok.ensures.going;
      done = c.in-Ok.ensures.done;
      turns = c.in-Ok.ensures.turns ∙ c.turns.invariant.turns;
      same = goes_on (Ok tt) turns first second third w0 w1 w2 tt c.turns.invariant.same
          (subst (λ (k : ℕ). GoesFrom (Ok tt) k second third w1 w2) c.turns.invariant.turns c.in-Ok.ensures.goes);
      taking = goes_taking (Ok tt) (reading_of c.args.lines.now (g.I.Source.left c.args.input.now)) (reading_of c.turns.lines (g.I.Source.left c.turns.input)) (reading_of c.run_one.new.lines (g.I.Source.left c.run_one.new.input)) (g.I.Source.left c.run_one.new.input)
          (left_taken c.args.start c.args.machine.now.state) (left_taken c.turns.at c.turns.machine.state) (left_taken c.run_one.new.at c.run_one.new.machine.state) w0 w1 w2 c.turns.invariant.taking c.in-Ok.ensures.takes;
      input_later = omega (arith, c.turns.invariant.input_later, c.run_one.ensures.input_later);
      output_later = omega (arith, c.turns.invariant.output_later, c.run_one.ensures.output_later);
    }

pub returns-in-Err-clause-ends : goal.returns-in-Err-clause-ends
returns-in-Err-clause-ends g c =
    let turns = c.args.start.turns in
    let first = run_left c.args.start c.args.machine.now.state c.args.lines.now (g.I.Source.left c.args.input.now) in
    let second = run_left c.turns.at c.turns.machine.state c.turns.lines (g.I.Source.left c.turns.input) in
    let third = run_left c.run_one.new.at c.run_one.new.machine.state c.run_one.new.lines (g.I.Source.left c.run_one.new.input) in
    let w0 = output_of (g.O.Sink.written c.args.output.now) c.args.gathered.now in
    let w1 = output_of (g.O.Sink.written c.turns.output) c.turns.gathered in
    let w2 = output_of (g.O.Sink.written c.run_one.new.output) c.run_one.new.gathered in
    ended_ends c.in-Err.end turns first third w0 w2
    (goes_on (Err c.in-Err.end) turns first second third w0 w1 w2 c.in-Err.ensures.begun c.turns.invariant.same
    (subst (λ (k : ℕ). GoesFrom (Err c.in-Err.end) k second third w1 w2) c.turns.invariant.turns c.in-Err.ensures.goes))

pub returns-in-Err-clause-writes : goal.returns-in-Err-clause-writes
returns-in-Err-clause-writes g c =
    let turns = c.args.start.turns in
    let first = run_left c.args.start c.args.machine.now.state c.args.lines.now (g.I.Source.left c.args.input.now) in
    let second = run_left c.turns.at c.turns.machine.state c.turns.lines (g.I.Source.left c.turns.input) in
    let third = run_left c.run_one.new.at c.run_one.new.machine.state c.run_one.new.lines (g.I.Source.left c.run_one.new.input) in
    let w0 = output_of (g.O.Sink.written c.args.output.now) c.args.gathered.now in
    let w1 = output_of (g.O.Sink.written c.turns.output) c.turns.gathered in
    let w2 = output_of (g.O.Sink.written c.run_one.new.output) c.run_one.new.gathered in
    ended_writes c.in-Err.end turns first third w0 w2
    (goes_on (Err c.in-Err.end) turns first second third w0 w1 w2 c.in-Err.ensures.begun c.turns.invariant.same
    (subst (λ (k : ℕ). GoesFrom (Err c.in-Err.end) k second third w1 w2) c.turns.invariant.turns c.in-Err.ensures.goes))

pub returns-clause-ends : goal.returns-clause-ends
returns-clause-ends g c =
    spent_ends c.args.start.turns c.turns.at.turns (run_left c.args.start c.args.machine.now.state c.args.lines.now (g.I.Source.left c.args.input.now))
    c.turns.machine.state.arith c.turns.at.left c.turns.at.entered c.turns.machine.state.machine c.turns.lines.room (text_of c.turns.lines.buffer (g.I.Source.left c.turns.input))
    (output_of (g.O.Sink.written c.args.output.now) c.args.gathered.now) (output_of (g.O.Sink.written c.turns.output) c.turns.gathered) (omega arith) c.turns.invariant.turns c.turns.invariant.same

pub returns-clause-writes : goal.returns-clause-writes
returns-clause-writes g c =
    spent_writes c.args.start.turns c.turns.at.turns (run_left c.args.start c.args.machine.now.state c.args.lines.now (g.I.Source.left c.args.input.now))
    c.turns.machine.state.arith c.turns.at.left c.turns.at.entered c.turns.machine.state.machine c.turns.lines.room (text_of c.turns.lines.buffer (g.I.Source.left c.turns.input))
    (output_of (g.O.Sink.written c.args.output.now) c.args.gathered.now) (output_of (g.O.Sink.written c.turns.output) c.turns.gathered) (omega arith) c.turns.invariant.same

pub returns-in-Err-clause-stops : goal.returns-in-Err-clause-stops
returns-in-Err-clause-stops g c =
    stops_on c.in-Err.end (reading_of c.args.lines.now (g.I.Source.left c.args.input.now)) (reading_of c.turns.lines (g.I.Source.left c.turns.input)) (g.I.Source.left c.run_one.new.input)
    (left_taken c.args.start c.args.machine.now.state) (left_taken c.turns.at c.turns.machine.state)
    (output_of (g.O.Sink.written c.args.output.now) c.args.gathered.now) (output_of (g.O.Sink.written c.turns.output) c.turns.gathered) (output_of (g.O.Sink.written c.run_one.new.output) c.run_one.new.gathered)
    c.turns.invariant.taking c.in-Err.ensures.takes
