use Rattle.std.proofs.Common.{◌≡◌, false, List, ℕ, Ok, subst}
use Rattle.mi_model.specs.Kernel.{whole_kernel}
use Rattle.mi_model.specs.Lines.{lines_of, numbered}
use Rattle.mi_model.specs.Build.{advanced, lines_emitted, lines_of_prelude}
use Rattle.mi_build.specs.Course.{progress_of, Stops}
use Rattle.mi_build.specs.Puts.{PutsAll, output_of}
use Rattle.mi_build.specs.declared.course.Pause.TheVariants as pauses
use Rattle.mi_build.proofs.BuildLemmas.{prelude_emits, prelude_stops}
use Rattle.mi_build.proofs.building.run_prelude.Goals as goal

pub returns-in-Ok-Wanting-clause-puts : goal.returns-in-Ok-Wanting-clause-puts
returns-in-Ok-Wanting-clause-puts g c =
    let old = c.args.machine.now in
    let new = c.run_on.new.machine in
    let ops = g.A.Arith.ops old.state.arith in
    let turns = c.prelude_turns-turns.result in
    let q = progress_of turns c.run_on.new.at new in
    let first = output_of (g.O.Sink.written c.args.output.now) c.args.gathered.now in
    let second = output_of (g.O.Sink.written c.run_on.new.output) c.run_on.new.gathered in
    let third = output_of (g.O.Sink.written c.run_text.new.output) c.run_text.new.gathered in
    let stops : Stops (Ok pauses.Wanting) new turns c.run_on.new.at (advanced whole_kernel ops false turns (progress_of turns (record { left = turns; file = 0; line = 0 }) old)) =
    subst (λ (x : _). Stops (Ok x) new turns c.run_on.new.at (advanced whole_kernel ops false turns (progress_of turns (record { left = turns; file = 0; line = 0 }) old))) c.in-Ok-Wanting.field-0-is c.in-Ok-Wanting.ensures.stops in
    let lines : PutsAll c.run_text.result second third (lines_emitted whole_kernel ops (numbered 0 1 (lines_of c.prelude.result.now)) q) =
    subst (λ (a : _). PutsAll c.run_text.result second third (lines_emitted whole_kernel (g.A.Arith.ops a) (numbered 0 1 (lines_of c.prelude.result.now)) q)) c.in-Ok-Wanting.ensures.arith c.run_text.ensures.puts in
    let text : PutsAll c.run_text.result second third (lines_emitted whole_kernel ops (lines_of_prelude whole_kernel) q) =
    subst (λ (bytes : List ℕ). PutsAll c.run_text.result second third (lines_emitted whole_kernel ops (numbered 0 1 (lines_of bytes)) q)) c.prelude.ensures.text lines in
    prelude_emits ops c.run_text.result old.state.machine turns old.last q first second third c.prelude_turns-turns.ensures.value c.requires.first stops.0 c.in-Ok-Wanting.ensures.puts text

pub returns-in-Err-clause-puts : goal.returns-in-Err-clause-puts
returns-in-Err-clause-puts g c =
    let old = c.args.machine.now in
    prelude_stops ℕ ℕ (g.A.Arith.ops old.state.arith) c.in-Err.fault old.state.machine c.prelude_turns-turns.result old.last
    (output_of (g.O.Sink.written c.args.output.now) c.args.gathered.now) (output_of (g.O.Sink.written c.run_on.new.output) c.run_on.new.gathered)
    c.prelude_turns-turns.ensures.value c.requires.first c.in-Err.ensures.stops c.in-Err.ensures.puts
