use Rattle.std.proofs.Common.{ℕ, true, Ok, Err, refl, subst}
use Rattle.mi_model.specs.Kernel.{whole_kernel}
use Rattle.mi_model.specs.Build.{end_emitted, emitted, prelude_budget, prelude_done, sources_done}
use Rattle.mi_build.specs.Course.{progress_of, Stops, emitted_before_end}
use Rattle.mi_build.specs.Puts.{PutsAll, output_of}
use Rattle.mi_build.specs.declared.course.Pause.TheVariants as pauses
use Rattle.mi_build.proofs.BuildLemmas.{end_emits_then}
use Rattle.mi_build.proofs.PutLemmas.{any_puts, fault_stops, puts_nothing}
use Rattle.mi_build.proofs.building.run_whole.Goals as goal

pub returns-in-Err-run_end-clause-puts : goal.returns-in-Err-run_end-clause-puts
returns-in-Err-run_end-clause-puts g c =
    let old = c.args.machine.now in
    let ops = g.A.Arith.ops old.state.arith in
    let texts = c.args.sources.now in
    let budget = c.in-Ok-Wanting-default.budget in
    let q = progress_of budget c.run_all.new.at c.run_all.new.machine in
    let first = output_of (g.O.Sink.written c.args.output.now) c.args.gathered.now in
    let second = output_of (g.O.Sink.written c.run_all.new.output) c.run_all.new.gathered in
    let third = output_of (g.O.Sink.written c.run_end.new.output) c.run_end.new.gathered in
    let fault = c.in-Err-run_end.fault in
    let done = sources_done whole_kernel ops texts c.args.turns (prelude_done whole_kernel ops prelude_budget old.state.machine) in
    let stops : Stops (Ok pauses.Wanting) c.run_all.new.machine budget c.run_all.new.at done =
    subst (λ (x : _). Stops (Ok x) c.run_all.new.machine budget c.run_all.new.at done) c.in-Ok-Wanting-default.field-0-0-is c.in-Ok-Wanting-default.ensures.stops in
    let last : PutsAll {X = ℕ} (Err fault) second third (end_emitted ops (emitted whole_kernel ops true q.left) q.machine) =
    subst (λ (a : _). PutsAll {X = ℕ} (Err fault) second third (end_emitted (g.A.Arith.ops a) (emitted whole_kernel (g.A.Arith.ops a) true q.left) q.machine)) c.in-Ok-Wanting-default.ensures.arith
    (any_puts ℕ ℕ fault second third _ c.in-Err-run_end.ensures.puts) in
    any_puts ℕ ℕ fault first third _ (end_emits_then {Y = ℕ} ops (Err fault) (emitted_before_end ops texts c.args.turns old.state.machine) _ q first second third stops.0 c.in-Ok-Wanting-default.ensures.puts last)

pub returns-in-Err-clause-puts : goal.returns-in-Err-clause-puts
returns-in-Err-clause-puts g c =
    let old = c.args.machine.now in
    let ops = g.A.Arith.ops old.state.arith in
    let texts = c.args.sources.now in
    let first = output_of (g.O.Sink.written c.args.output.now) c.args.gathered.now in
    let second = output_of (g.O.Sink.written c.run_all.new.output) c.run_all.new.gathered in
    fault_stops ℕ ℕ c.in-Err.fault first first second _ (emitted_before_end ops texts c.args.turns old.state.machine)
    (sources_done whole_kernel ops texts c.args.turns (prelude_done whole_kernel ops prelude_budget old.state.machine)) (λ p. end_emitted ops (emitted whole_kernel ops true p.left) p.machine)
    (puts_nothing first _ _ refl) c.in-Err.ensures.stops (any_puts ℕ ℕ c.in-Err.fault first second _ c.in-Err.ensures.puts)
