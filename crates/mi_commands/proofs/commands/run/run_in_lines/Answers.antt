-- What was run, and the line feed behind it.
use Rattle.std.proofs.Common.{◌≡◌, ℕ, List, sym, subst, ◌∙◌}
use Rattle.std.specs.Prelude.{IfSome}
use Rattle.mi_outside.specs.Gathered.{last_of}
use Rattle.mi_commands.specs.commands.Run.{ending_at}
use Rattle.mi_commands.proofs.RunOutput.{cut_none, same_cause, same_ending, lines_cut, lines_done, lines_ended, done_is_none, read_is_none}
use Rattle.mi_run.specs.Waits.{run_taken_of}
use Rattle.mi_commands.proofs.PossibleLemmas.{ended_may_end}
use Rattle.mi_commands.proofs.StopLemmas.{stops_in_lines}
use Rattle.mi_commands.proofs.commands.run.run_in_lines.Goals as goal

pub returns-in-Ok-clause-cause : goal.returns-in-Ok-clause-cause
returns-in-Ok-clause-cause g c =
    same_cause c.end_lines.result c.run_at-outcome.result (g.I.Source.left c.args.input.now) (λ text. (ending_at c.args.image.now c.args.pair text c.args.turns).outcome) c.end_lines.ensures.same c.run_at-outcome.ensures.cause

pub returns-in-Ok-clause-possible : goal.returns-in-Ok-clause-possible
returns-in-Ok-clause-possible g c = ended_may_end c.run_at-outcome.result c.end_lines.result c.end_lines.ensures.same c.run_at-outcome.ensures.possible

pub returns-in-Ok-clause-front : goal.returns-in-Ok-clause-front
returns-in-Ok-clause-front g c =
    lines_cut (g.I.Source.left c.args.input.now) (g.O.Sink.written c.args.output.now) (g.O.Sink.written c.run_at-outcome.new.output) (g.O.Sink.written c.end_lines.new.output) (λ text. (ending_at c.args.image.now c.args.pair text c.args.turns).emitted)
    c.run_at-outcome.ensures.front (c.end_lines.ensures.cut (g.O.Sink.written c.args.output.now))

pub returns-in-Ok-clause-done : goal.returns-in-Ok-clause-done
returns-in-Ok-clause-done g c is =
    let other = done_is_none c.end_lines.result is in
    let same = same_ending c.end_lines.result c.run_at-outcome.result c.end_lines.ensures.same other.2 in
    lines_done (g.I.Source.left c.args.input.now) (g.O.Sink.written c.args.output.now) (g.O.Sink.written c.run_at-outcome.new.output) (g.O.Sink.written c.end_lines.new.output) (λ text. (ending_at c.args.image.now c.args.pair text c.args.turns).emitted)
    (c.end_lines.ensures.done is).1 (c.run_at-outcome.ensures.whole (λ e. other.0 (same ∙ e)) (λ e. other.1 (same ∙ e)) (λ e. other.2 (same ∙ e)))

pub returns-in-Ok-clause-lines : goal.returns-in-Ok-clause-lines
returns-in-Ok-clause-lines g c more m r w =
    let same = same_ending c.end_lines.result c.run_at-outcome.result c.end_lines.ensures.same w in
    lines_ended (g.I.Source.left c.args.input.now) (g.O.Sink.written c.args.output.now) (g.O.Sink.written c.run_at-outcome.new.output) (g.O.Sink.written c.end_lines.new.output) (λ text. (ending_at c.args.image.now c.args.pair text c.args.turns).emitted)
    c.last.result
    (λ text h. c.end_lines.ensures.lines more m w (g.O.Sink.written c.args.output.now) (ending_at c.args.image.now c.args.pair text c.args.turns).emitted h)
    (subst (λ (n : ℕ). IfSome (g.I.Source.left c.args.input.now) (λ text. c.last.result ≡ last_of n (ending_at c.args.image.now c.args.pair text c.args.turns).emitted)) c.in-Ok.ensures.last
    (subst (λ (n : ℕ). IfSome (g.I.Source.left c.args.input.now) (λ text. n ≡ last_of c.in-Ok.gathered.last (ending_at c.args.image.now c.args.pair text c.args.turns).emitted)) (sym c.last.ensures) (c.run_at-outcome.ensures.last (λ e. m (same ∙ e)) (λ e. r (same ∙ e)) (λ e. w (same ∙ e)))))
    (c.run_at-outcome.ensures.whole (λ e. m (same ∙ e)) (λ e. r (same ∙ e)) (λ e. w (same ∙ e)))

pub returns-in-Ok-clause-read_fault : goal.returns-in-Ok-clause-read_fault
returns-in-Ok-clause-read_fault g c is =
    let other = read_is_none c.end_lines.result is in
    c.run_at-outcome.ensures.read_fault (sym (same_ending c.end_lines.result c.run_at-outcome.result c.end_lines.ensures.same other.1) ∙ is)

pub returns-in-Err-clause-front : goal.returns-in-Err-clause-front
returns-in-Err-clause-front g c = cut_none (g.I.Source.left c.args.input.now) (g.O.Sink.written c.args.output.now) (λ text. (ending_at c.args.image.now c.args.pair text c.args.turns).emitted)

pub returns-in-Ok-clause-stops : goal.returns-in-Ok-clause-stops
returns-in-Ok-clause-stops g c is =
    let line = c.end_lines.ensures.line is in
    stops_in_lines (run_taken_of c.args.image.now c.args.pair c.args.turns) (g.I.Source.left c.args.input.now) (g.I.Source.left c.run_at-outcome.new.input) (g.O.Sink.written c.args.output.now) (g.O.Sink.written c.run_at-outcome.new.output) (g.O.Sink.written c.end_lines.new.output)
    (c.run_at-outcome.ensures.stops line.0) line.1
