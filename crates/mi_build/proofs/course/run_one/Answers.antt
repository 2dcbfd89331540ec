use Rattle.std.proofs.Common.{◌≡◌, ℕ, Bool, true, List, ◌-◌, refl, ap, sym, subst, ◌∙◌}
use Rattle.mi_model.specs.Kernel.{whole_kernel}
use Rattle.mi_model.specs.Build.{emitted, emitted_at_wait, emitted_by, end_emitted}
use Rattle.mi_build.specs.Course.{EmitsNone}
use Rattle.mi_build.specs.Puts.{PutsOn, output_of}
use Rattle.mi_build.proofs.CourseLemmas.{emitted_next}
use Rattle.mi_build.proofs.PutLemmas.{end_emits, failed_emits}
use Rattle.mi_build.proofs.course.run_one.Goals as goal

pub returns-then-ended-clause-puts : goal.returns-then-ended-clause-puts
returns-then-ended-clause-puts g c =
    let old = c.args.machine.now.state in
    let ops = g.A.Arith.ops old.arith in
    let left = c.args.at.now.left in
    let new = c.take_step.new.machine.state in
    let end = c.end_input.new.machine in
    let out = output_of (g.O.Sink.written c.args.output.now) c.args.gathered.now in
    let at = record c.args.at.now { left = left - 1 } in
    let all : emitted whole_kernel ops true left old.machine ≡ end_emitted ops (emitted whole_kernel ops true (left - 1)) new.machine =
    emitted_next ops true left old.machine c.requires.left ∙ ap (emitted_by (emitted whole_kernel ops true (left - 1)) (λ n. emitted_at_wait ops true (emitted whole_kernel ops true (left - 1)) n)) c.in-Wanting.ensures.0 in
    let silent : EmitsNone ops c.end_input.result end at (end_emitted ops (emitted whole_kernel ops true (left - 1)) new.machine) =
    subst (λ (a : _). EmitsNone (g.A.Arith.ops a) c.end_input.result end at (end_emitted (g.A.Arith.ops a) (emitted whole_kernel (g.A.Arith.ops a) true (left - 1)) new.machine)) c.in-Wanting.ensures.1.0 c.end_input.ensures.silent in
    subst (λ (b : Bool). PutsOn c.end_input.result out out (emitted whole_kernel ops b left old.machine) (emitted whole_kernel ops b (left - 1) end.state.machine)) (sym c.if-ended.true)
    (subst (λ (bytes : List ℕ). PutsOn c.end_input.result out out bytes (emitted whole_kernel ops true (left - 1) end.state.machine)) (sym all) (end_emits ops c.end_input.result end at _ out silent))

pub returns-in-Failed-clause-puts : goal.returns-in-Failed-clause-puts
returns-in-Failed-clause-puts g c =
    let old = c.args.machine.now.state in
    let ops = g.A.Arith.ops old.arith in
    let left = c.args.at.now.left in
    failed_emits ℕ _ c.in-Failed.failure _ _ _ (output_of (g.O.Sink.written c.args.output.now) c.args.gathered.now) (emitted_by (emitted whole_kernel ops c.args.ended (left - 1)) (λ n. emitted_at_wait ops c.args.ended (emitted whole_kernel ops c.args.ended (left - 1)) n)) _ _
    (λ f. refl) c.fault_of.ensures c.in-Failed.ensures (emitted_next ops c.args.ended left old.machine c.requires.left)
