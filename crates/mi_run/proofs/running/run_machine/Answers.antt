use Rattle.std.proofs.Common.{◌≡◌, ℕ, [], Ok, IfSome, refl, subst}
use Rattle.std.specs.Prelude.{option_map}
use Rattle.mi_model.specs.Machine.{Machine}
use Rattle.mi_model.specs.Kernel.{whole_kernel}
use Rattle.mi_model.specs.Outcome.{outcome_of}
use Rattle.mi_model.specs.Run.{Run, run_on, start_entry}
use Rattle.mi_model.specs.Run as runs
use Rattle.mi_arith.specs.declared.plain.Plain.{Plain}
use Rattle.mi_machine.specs.Steps.{ops_of}
use Rattle.mi_reloc.specs.declared.ending.RunEnd.{RunEnd}
use Rattle.mi_reloc.specs.declared.ending.RunEnd.TheVariants.{ReadFault, NoMemory}
use Rattle.mi_run.specs.Lines.{text_of}
use Rattle.mi_outside.specs.Puts.{output_of}
use Rattle.mi_run.specs.Ending.{at_start, EndsAs, WritesAs, KeepsLast}
use Rattle.mi_run.specs.Course.{course_within, PutsAs}
use Rattle.mi_run.specs.Reading.{reading_of}
use Rattle.mi_run.specs.Taking.{course_taken, StopsAs}
use Rattle.mi_run.proofs.Pieces.{not_both_faults}
use Rattle.mi_run.proofs.EndLemmas.{still_read_fault, ends_so, no_refusal, each_some}
use Rattle.mi_run.proofs.Refusals.{for_each, emits_none}
use Rattle.mi_run.proofs.Starting.{begun_run, begun_stops}
use Rattle.mi_run.proofs.running.run_machine.Goals as goal

pub returns-in-Ok-clause-ends : goal.returns-in-Ok-clause-ends
returns-in-Ok-clause-ends g c =
    λ region same.
    let s = c.args.machine.state in
    let m = c.take_entry-entered.new.machine.state.machine in
    let entered = c.take_entry-entered.result in
    let left = g.I.Source.left c.args.input.now in
    let turns = c.args.turns in
    let told : outcome_of (ops_of s.arith) start_entry (at_start (ops_of s.arith) region) [] ≡ Ok (entered, m) =
    subst (λ (x : Machine ℕ ℕ). outcome_of (ops_of s.arith) start_entry x [] ≡ Ok (entered, m)) same c.take_entry-entered.ensures.told in
    begun_run (λ run. EndsAs c.end_output.result turns run.end) (ops_of s.arith) region c.in-Ok.lines.buffer c.in-Ok.lines.room turns entered m left c.in-Ok.ensures.buffer c.in-Ok.ensures.room told
    (subst (λ (a : Plain). IfSome (option_map (λ text. run_on whole_kernel (ops_of a) turns (course_within c.in-Ok.lines.room entered text) m) (text_of c.in-Ok.lines.buffer left)) (λ run. EndsAs c.end_output.result turns run.end)) c.take_entry-entered.ensures.goes_on.0
    (each_some _ (λ (run : Run). EndsAs c.run_on-end.result turns run.end) (λ (run : Run). EndsAs c.end_output.result turns run.end)
    (λ run h. ends_so c.run_on-end.result c.end_output.result turns run.end c.end_output.ensures.ended h) c.run_on-end.ensures.ends))

pub returns-in-Ok-clause-writes : goal.returns-in-Ok-clause-writes
returns-in-Ok-clause-writes g c =
    λ region same.
    let s = c.args.machine.state in
    let m = c.take_entry-entered.new.machine.state.machine in
    let entered = c.take_entry-entered.result in
    let left = g.I.Source.left c.args.input.now in
    let turns = c.args.turns in
    let first = output_of (g.O.Sink.written c.args.output.now) c.args.gathered.now in
    let second = output_of (g.O.Sink.written c.run_on-end.new.output) c.run_on-end.new.gathered in
    let now = g.O.Sink.written c.end_output.new.output in
    let told : outcome_of (ops_of s.arith) start_entry (at_start (ops_of s.arith) region) [] ≡ Ok (entered, m) =
    subst (λ (x : Machine ℕ ℕ). outcome_of (ops_of s.arith) start_entry x [] ≡ Ok (entered, m)) same c.take_entry-entered.ensures.told in
    begun_run (λ run. WritesAs c.end_output.result first.written now run.output) (ops_of s.arith) region c.in-Ok.lines.buffer c.in-Ok.lines.room turns entered m left c.in-Ok.ensures.buffer c.in-Ok.ensures.room told
    (subst (λ (a : Plain). IfSome (option_map (λ text. run_on whole_kernel (ops_of a) turns (course_within c.in-Ok.lines.room entered text) m) (text_of c.in-Ok.lines.buffer left)) (λ run. WritesAs c.end_output.result first.written now run.output)) c.take_entry-entered.ensures.goes_on.0
    (each_some _ (λ (run : Run). PutsAs c.run_on-end.result first second run.output) (λ (run : Run). WritesAs c.end_output.result first.written now run.output)
    (λ run h. c.end_output.ensures.writes first run.output c.requires.none_waits h) c.run_on-end.ensures.writes))

pub returns-in-Ok-clause-last : goal.returns-in-Ok-clause-last
returns-in-Ok-clause-last g c =
    λ region same.
    let s = c.args.machine.state in
    let m = c.take_entry-entered.new.machine.state.machine in
    let entered = c.take_entry-entered.result in
    let left = g.I.Source.left c.args.input.now in
    let turns = c.args.turns in
    let first = output_of (g.O.Sink.written c.args.output.now) c.args.gathered.now in
    let second = output_of (g.O.Sink.written c.run_on-end.new.output) c.run_on-end.new.gathered in
    let last = c.end_output.new.gathered.last in
    let told : outcome_of (ops_of s.arith) start_entry (at_start (ops_of s.arith) region) [] ≡ Ok (entered, m) =
    subst (λ (x : Machine ℕ ℕ). outcome_of (ops_of s.arith) start_entry x [] ≡ Ok (entered, m)) same c.take_entry-entered.ensures.told in
    begun_run (λ run. KeepsLast c.end_output.result first.gathered.last last run.output) (ops_of s.arith) region c.in-Ok.lines.buffer c.in-Ok.lines.room turns entered m left c.in-Ok.ensures.buffer c.in-Ok.ensures.room told
    (subst (λ (a : Plain). IfSome (option_map (λ text. run_on whole_kernel (ops_of a) turns (course_within c.in-Ok.lines.room entered text) m) (text_of c.in-Ok.lines.buffer left)) (λ run. KeepsLast c.end_output.result first.gathered.last last run.output)) c.take_entry-entered.ensures.goes_on.0
    (each_some _ (λ (run : Run). PutsAs c.run_on-end.result first second run.output) (λ (run : Run). KeepsLast c.end_output.result first.gathered.last last run.output)
    (λ run h. c.end_output.ensures.last first run.output h) c.run_on-end.ensures.writes))

pub returns-in-Ok-clause-memory : goal.returns-in-Ok-clause-memory
returns-in-Ok-clause-memory g c = λ refused. absurd (no_refusal c.run_on-end.result c.end_output.result c.end_output.ensures.ended c.run_on-end.ensures.begun refused)

pub returns-clause-ends : goal.returns-clause-ends
returns-clause-ends g c =
    λ region same. for_each (g.I.Source.left c.args.input.now) (λ text. EndsAs NoMemory c.args.turns (runs.run whole_kernel (ops_of c.args.machine.state.arith) region text c.args.turns).end) (λ text. tt)

pub returns-clause-writes : goal.returns-clause-writes
returns-clause-writes g c =
    let before = g.O.Sink.written c.args.output.now in
    λ region same. for_each (g.I.Source.left c.args.input.now) (λ text. WritesAs NoMemory before before (runs.run whole_kernel (ops_of c.args.machine.state.arith) region text c.args.turns).output) (λ text. emits_none before)

pub returns-clause-last : goal.returns-clause-last
returns-clause-last g c =
    λ region same. for_each (g.I.Source.left c.args.input.now) (λ text. KeepsLast NoMemory c.args.gathered.now.last c.args.gathered.now.last (runs.run whole_kernel (ops_of c.args.machine.state.arith) region text c.args.turns).output) (λ text. refl)

pub returns-in-Ok-clause-wait : goal.returns-in-Ok-clause-wait
returns-in-Ok-clause-wait g c =
    λ region same fault.
    let s = c.args.machine.state in
    let m = c.take_entry-entered.new.machine.state.machine in
    let entered = c.take_entry-entered.result in
    let old = g.I.Source.left c.args.input.now in
    let left = g.I.Source.left c.run_on-end.new.input in
    let turns = c.args.turns in
    let first = output_of (g.O.Sink.written c.args.output.now) c.args.gathered.now in
    let second = output_of (g.O.Sink.written c.run_on-end.new.output) c.run_on-end.new.gathered in
    let now = g.O.Sink.written c.end_output.new.output in
    let told : outcome_of (ops_of s.arith) start_entry (at_start (ops_of s.arith) region) [] ≡ Ok (entered, m) =
    subst (λ (x : Machine ℕ ℕ). outcome_of (ops_of s.arith) start_entry x [] ≡ Ok (entered, m)) same c.take_entry-entered.ensures.told in
    let stops = subst (λ (a : Plain). StopsAs ReadFault (reading_of c.in-Ok.lines old) left (λ taken. run_on whole_kernel (ops_of a) turns (course_taken entered taken) m) first second) c.take_entry-entered.ensures.goes_on.0
    (subst (λ (x : RunEnd). StopsAs x (reading_of c.in-Ok.lines old) left (λ taken. run_on whole_kernel (ops_of c.take_entry-entered.new.machine.state.arith) turns (course_taken entered taken) m) first second)
    (still_read_fault c.run_on-end.result c.end_output.result c.end_output.ensures.ended fault) c.run_on-end.ensures.stops) in
    begun_stops (ops_of s.arith) region c.in-Ok.lines.buffer c.in-Ok.lines.room turns entered m old left first second now c.in-Ok.ensures.buffer c.in-Ok.ensures.room told
    (λ bytes p. c.end_output.ensures.whole first bytes c.requires.none_waits p (λ e. not_both_faults c.end_output.result e fault)) stops.1
