use Rattle.std.proofs.Common.{ℕ, Ok, Err, subst}
use Rattle.mi_model.specs.Kernel.{whole_kernel}
use Rattle.mi_model.specs.Lines.{lines_of_all}
use Rattle.mi_model.specs.Build.{lines_emitted, with_budget, prelude_budget, prelude_done}
use Rattle.mi_build.specs.Course.{progress_of, Stops}
use Rattle.mi_build.specs.Puts.{Puts, PutsAll, output_of}
use Rattle.mi_build.specs.declared.course.Pause.TheVariants as pauses
use Rattle.mi_build.proofs.BuildLemmas.{sources_emit, sources_stop}
use Rattle.mi_build.proofs.PutLemmas.{any_puts}
use Rattle.mi_build.proofs.building.run_all.Goals as goal

pub returns-in-Err-run_sources-clause-puts : goal.returns-in-Err-run_sources-clause-puts
returns-in-Err-run_sources-clause-puts g c =
    let old = c.args.machine.now in
    let ops = g.A.Arith.ops old.state.arith in
    let q = progress_of prelude_budget c.run_prelude.new.at c.run_prelude.new.machine in
    let first = output_of (g.O.Sink.written c.args.output.now) c.args.gathered.now in
    let second = output_of (g.O.Sink.written c.run_prelude.new.output) c.run_prelude.new.gathered in
    let third = output_of (g.O.Sink.written c.run_sources.new.output) c.run_sources.new.gathered in
    let fault = c.in-Err-run_sources.fault in
    let stops : Stops (Ok pauses.Wanting) c.run_prelude.new.machine prelude_budget c.run_prelude.new.at (prelude_done whole_kernel ops prelude_budget old.state.machine) =
    subst (λ (x : _). Stops (Ok x) c.run_prelude.new.machine prelude_budget c.run_prelude.new.at (prelude_done whole_kernel ops prelude_budget old.state.machine)) c.in-Ok-Wanting.field-0-is c.in-Ok-Wanting.ensures.stops in
    let lines : PutsAll {X = ℕ} (Err fault) second third (lines_emitted whole_kernel ops (lines_of_all 1 c.args.sources.now) (with_budget c.args.turns q)) =
    subst (λ (a : _). PutsAll {X = ℕ} (Err fault) second third (lines_emitted whole_kernel (g.A.Arith.ops a) (lines_of_all 1 c.args.sources.now) (with_budget c.args.turns q))) c.in-Ok-Wanting.ensures.arith
    (any_puts ℕ ℕ fault second third _ c.in-Err-run_sources.ensures.puts) in
    any_puts ℕ ℕ fault first third _ (sources_emit {Y = ℕ} ops (Err fault) c.args.sources.now c.args.turns old.state.machine q first second third stops.0 c.in-Ok-Wanting.ensures.puts lines)

pub returns-in-Ok-clause-puts : goal.returns-in-Ok-clause-puts
returns-in-Ok-clause-puts g c =
    let old = c.args.machine.now in
    let ops = g.A.Arith.ops old.state.arith in
    let q = progress_of prelude_budget c.run_prelude.new.at c.run_prelude.new.machine in
    let first = output_of (g.O.Sink.written c.args.output.now) c.args.gathered.now in
    let second = output_of (g.O.Sink.written c.run_prelude.new.output) c.run_prelude.new.gathered in
    let third = output_of (g.O.Sink.written c.run_sources.new.output) c.run_sources.new.gathered in
    let stops : Stops (Ok pauses.Wanting) c.run_prelude.new.machine prelude_budget c.run_prelude.new.at (prelude_done whole_kernel ops prelude_budget old.state.machine) =
    subst (λ (x : _). Stops (Ok x) c.run_prelude.new.machine prelude_budget c.run_prelude.new.at (prelude_done whole_kernel ops prelude_budget old.state.machine)) c.in-Ok-Wanting.field-0-is c.in-Ok-Wanting.ensures.stops in
    let lines : Puts second third (lines_emitted whole_kernel ops (lines_of_all 1 c.args.sources.now) (with_budget c.args.turns q)) =
    subst (λ (a : _). Puts second third (lines_emitted whole_kernel (g.A.Arith.ops a) (lines_of_all 1 c.args.sources.now) (with_budget c.args.turns q))) c.in-Ok-Wanting.ensures.arith c.in-Ok.ensures.puts in
    sources_emit {Y = ℕ} ops (Ok 0) c.args.sources.now c.args.turns old.state.machine q first second third stops.0 c.in-Ok-Wanting.ensures.puts lines

pub returns-in-Err-clause-puts : goal.returns-in-Err-clause-puts
returns-in-Err-clause-puts g c =
    let old = c.args.machine.now in
    sources_stop ℕ ℕ (g.A.Arith.ops old.state.arith) c.in-Err.fault c.args.sources.now c.args.turns old.state.machine
    (output_of (g.O.Sink.written c.args.output.now) c.args.gathered.now) (output_of (g.O.Sink.written c.run_prelude.new.output) c.run_prelude.new.gathered)
    c.in-Err.ensures.stops c.in-Err.ensures.puts
