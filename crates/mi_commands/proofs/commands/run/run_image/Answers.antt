-- What was written by a run whose image was not read, and by one that was run.
use Rattle.std.proofs.Common.{◌≡◌, ℕ, List, ◌∷◌, [], arith, ap, subst}
use Rattle.std.specs.Prelude.{◌⊎◌, IfSome, IsSomeAnd}
use Rattle.mi_model.specs.declared.Pair.{Pair}
use Rattle.mi_outside.specs.Telling.{IfStillTold}
use Rattle.mi_outside.specs.Written.{Emits}
use Rattle.mi_commands.specs.declared.outcome.Outcome.{Outcome}
use Rattle.mi_commands.specs.Outcomes.{IsFault}
use Rattle.mi_outside.specs.Holding.{Holding}
use Rattle.mi_commands.specs.Output.{in_lines, AddsFrontAndLine}
use Rattle.mi_commands.specs.Report.{report_of}
use Rattle.mi_commands.specs.commands.Run.{ending_at, ending_of_file, run_bytes, StopsInLines}
use Rattle.mi_commands.proofs.RunOutput.{kept_files, unread_comes, unread_writes, unread_writes_all, run_writes, run_writes_all, run_written}
use Rattle.mi_run.specs.Waits.{run_taken_of}
use Rattle.mi_commands.proofs.DecodingSteps.{refused_image}
use Rattle.mi_commands.proofs.StopLemmas.{unread_stops, run_stops}
use Rattle.mi_commands.proofs.PossibleLemmas.{run_may_end, image_may_end, unread_fails, run_succeeds}
use Rattle.mi_commands.proofs.commands.run.run_image.Goals as goal

pub returns-in-Err-clause-cause : goal.returns-in-Err-clause-cause
returns-in-Err-clause-cause g c =
    unread_comes c.refuse_run.result c.in-Err.outcome c.args.settings.now c.args.name.now _ _ (g.I.Source.left c.args.input.now) c.refuse_run.ensures.same c.in-Err.ensures.read

pub returns-in-Err-clause-kept : goal.returns-in-Err-clause-kept
returns-in-Err-clause-kept g c = kept_files _ c.args.name.now _ _ c.in-Err.ensures.read

pub returns-in-Err-clause-writes : goal.returns-in-Err-clause-writes
returns-in-Err-clause-writes g c =
    unread_writes (g.F.Files.held c.args.files.now) (g.I.Source.left c.args.input.now) _ _ (λ (old : Holding) (text : List ℕ). run_bytes c.args.name.now (ending_of_file c.args.settings.now (old.file c.args.name.now) text)) (report_of [] (c.args.name.now ∷ []) c.refuse_run.result) c.refuse_run.ensures.front

pub returns-in-Err-clause-writes_all : goal.returns-in-Err-clause-writes_all
returns-in-Err-clause-writes_all g c memory files output input =
    unread_writes_all c.refuse_run.result c.in-Err.outcome c.args.settings.now c.args.name.now _ _ (g.I.Source.left c.args.input.now) _ _ c.refuse_run.ensures.same memory
    (λ e. files (c.in-Err.ensures.fault (ap (λ (o : Outcome). refused_image o) e))) (λ e. c.in-Err.ensures.no_write (ap (λ (o : Outcome). refused_image o) e)) c.in-Err.ensures.read (c.refuse_run.ensures.whole output)

pub returns-in-Ok-clause-writes : goal.returns-in-Ok-clause-writes
returns-in-Ok-clause-writes g c =
    run_writes c.in-Ok.image c.args.settings.now c.args.name.now (report_of [] (c.args.name.now ∷ []) c.report_run.result) _ _ (g.I.Source.left c.args.input.now) (g.O.Sink.written c.args.output.now) (g.O.Sink.written c.run_in_lines-outcome.new.output) _ c.in-Ok.ensures.read
    (subst (λ (p : Pair). IfSome (g.I.Source.left c.args.input.now) (λ text. IfStillTold (g.O.Sink.written c.args.output.now) (g.O.Sink.written c.run_in_lines-outcome.new.output) (AddsFrontAndLine (ending_at c.in-Ok.image p text c.args.settings.now.turns).emitted))) c.pair_of-pair.ensures c.run_in_lines-outcome.ensures.front)
    c.report_run.ensures.front

pub returns-in-Ok-clause-writes_all : goal.returns-in-Ok-clause-writes_all
returns-in-Ok-clause-writes_all g c memory files output input =
    run_writes_all c.report_run.result c.run_in_lines-outcome.result c.in-Ok.image c.args.settings.now c.args.name.now _ _ (g.I.Source.left c.args.input.now) (g.O.Sink.written c.args.output.now) (g.O.Sink.written c.run_in_lines-outcome.new.output) _ c.report_run.ensures.same c.in-Ok.ensures.read memory
    (λ e. input (c.run_in_lines-outcome.ensures.read_fault e))
    (λ e. output (omega (arith, c.run_in_lines-outcome.ensures.write_fault e, c.report_run.ensures.later)))
    (subst (λ (p : Pair). IsFault c.run_in_lines-outcome.result ⊎ IfSome (g.I.Source.left c.args.input.now) (λ text. c.run_in_lines-outcome.result ≡ (ending_at c.in-Ok.image p text c.args.settings.now.turns).outcome)) c.pair_of-pair.ensures c.run_in_lines-outcome.ensures.cause)
    (λ is. subst (λ (p : Pair). IfSome (g.I.Source.left c.args.input.now) (λ text. Emits (g.O.Sink.written c.args.output.now) (g.O.Sink.written c.run_in_lines-outcome.new.output) (ending_at c.in-Ok.image p text c.args.settings.now.turns).emitted)) c.pair_of-pair.ensures (c.run_in_lines-outcome.ensures.done is))
    (λ more m r w. subst (λ (p : Pair). IfSome (g.I.Source.left c.args.input.now) (λ text. Emits (g.O.Sink.written c.args.output.now) (g.O.Sink.written c.run_in_lines-outcome.new.output) (in_lines (ending_at c.in-Ok.image p text c.args.settings.now.turns).emitted))) c.pair_of-pair.ensures (c.run_in_lines-outcome.ensures.lines more m r w))
    (c.report_run.ensures.whole (λ e. output (omega (arith, e, c.run_in_lines-outcome.ensures.later))))

pub returns-in-Err-clause-possible : goal.returns-in-Err-clause-possible
returns-in-Err-clause-possible g c = image_may_end c.in-Err.outcome c.refuse_run.result c.refuse_run.ensures.same c.in-Err.ensures.possible

pub returns-in-Err-clause-written : goal.returns-in-Err-clause-written
returns-in-Err-clause-written g c zero = absurd (unread_fails c.in-Err.outcome c.refuse_run.result c.refuse_run.ensures.same c.in-Err.ensures.possible zero)

pub returns-in-Ok-clause-possible : goal.returns-in-Ok-clause-possible
returns-in-Ok-clause-possible g c = run_may_end c.run_in_lines-outcome.result c.report_run.result c.report_run.ensures.same c.run_in_lines-outcome.ensures.possible

pub returns-in-Ok-clause-written : goal.returns-in-Ok-clause-written
returns-in-Ok-clause-written g c zero =
    let is = run_succeeds c.report_run.result (run_may_end c.run_in_lines-outcome.result c.report_run.result c.report_run.ensures.same c.run_in_lines-outcome.ensures.possible) zero in
    run_written c.report_run.result c.run_in_lines-outcome.result c.in-Ok.image c.args.settings.now c.args.name.now _ _ (g.I.Source.left c.args.input.now) (g.O.Sink.written c.args.output.now) (g.O.Sink.written c.run_in_lines-outcome.new.output) _ c.report_run.ensures.same c.in-Ok.ensures.read is
    (subst (λ (p : Pair). IsFault c.run_in_lines-outcome.result ⊎ IfSome (g.I.Source.left c.args.input.now) (λ text. c.run_in_lines-outcome.result ≡ (ending_at c.in-Ok.image p text c.args.settings.now.turns).outcome)) c.pair_of-pair.ensures c.run_in_lines-outcome.ensures.cause)
    (λ e. subst (λ (p : Pair). IfSome (g.I.Source.left c.args.input.now) (λ text. Emits (g.O.Sink.written c.args.output.now) (g.O.Sink.written c.run_in_lines-outcome.new.output) (ending_at c.in-Ok.image p text c.args.settings.now.turns).emitted)) c.pair_of-pair.ensures (c.run_in_lines-outcome.ensures.done e))
    (c.report_run.ensures.done is)

pub returns-in-Err-clause-stops : goal.returns-in-Err-clause-stops
returns-in-Err-clause-stops g c is =
    unread_stops c.refuse_run.result c.args.settings.now c.args.name.now (g.F.Files.held c.args.files.now) (g.I.Source.left c.args.input.now) _ _ c.refuse_run.ensures.front is

pub returns-in-Ok-clause-stops : goal.returns-in-Ok-clause-stops
returns-in-Ok-clause-stops g c is =
    let left = g.I.Source.left c.args.input.now in
    let left_now = g.I.Source.left c.run_in_lines-outcome.new.input in
    let before = g.O.Sink.written c.args.output.now in
    let between = g.O.Sink.written c.run_in_lines-outcome.new.output in
    run_stops c.run_in_lines-outcome.result c.report_run.result c.in-Ok.image c.args.settings.now c.args.name.now (g.F.Files.held c.args.files.now) _ left left_now before between (g.O.Sink.written c.report_run.new.output) c.report_run.ensures.same c.in-Ok.ensures.read
    (λ e. subst (λ (p : Pair). IfSome left (λ text. IsSomeAnd left_now (λ rest. StopsInLines (run_taken_of c.in-Ok.image p c.args.settings.now.turns) text rest before between))) c.pair_of-pair.ensures (c.run_in_lines-outcome.ensures.stops e))
    c.report_run.ensures.front is
