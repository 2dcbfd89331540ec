use Rattle.std.proofs.Common.{ℕ, true, Option, Ok, Err, subst}
use Rattle.mi_model.specs.Kernel.{whole_kernel}
use Rattle.mi_model.specs.Build.{emitted, end_emitted}
use Rattle.mi_build.specs.declared.course.Pause.{Pause}
use Rattle.mi_build.specs.Puts.{PutsOn, output_of}
use Rattle.mi_build.proofs.PutLemmas.{end_emits, any_puts}
use Rattle.mi_build.proofs.course.run_end.Goals as goal

pub returns-in-Ok-Some-clause-puts : goal.returns-in-Ok-Some-clause-puts
returns-in-Ok-Some-clause-puts g c =
    let ops = g.A.Arith.ops c.args.machine.now.state.arith in
    let out = output_of (g.O.Sink.written c.args.output.now) c.args.gathered.now in
    let end = c.end_input.new.machine in
    let all = end_emitted ops (emitted whole_kernel ops true c.args.at.now.left) c.args.machine.now.state.machine in
    subst (λ (pause : Option Pause). PutsOn (Ok pause) out out all (emitted whole_kernel ops true c.args.at.now.left end.state.machine)) c.in-Ok-Some.field-0-is
    (end_emits ops (Ok c.in-Ok-Some.field-0) end c.args.at.now all out c.in-Ok-Some.ensures.silent)

pub returns-in-Err-clause-puts : goal.returns-in-Err-clause-puts
returns-in-Err-clause-puts g c =
    let out = output_of (g.O.Sink.written c.args.output.now) c.args.gathered.now in
    any_puts ℕ ℕ c.in-Err.fault out out _ (end_emits (g.A.Arith.ops c.args.machine.now.state.arith) (Err c.in-Err.fault) c.end_input.new.machine c.args.at.now _ out c.in-Err.ensures.silent)
