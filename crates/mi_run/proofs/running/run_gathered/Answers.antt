use Rattle.std.proofs.Common.{◌≡◌, ℕ, Err, IfSome, sym, ◌∙◌, ap, subst}
use Rattle.mi_model.specs.Ops.{Ops}
use Rattle.mi_model.specs.Kernel.{whole_kernel}
use Rattle.mi_model.specs.Image.{loaded}
use Rattle.mi_model.specs.Plain.{plain_ops}
use Rattle.mi_model.specs.Run as runs
use Rattle.mi_machine.specs.Steps.{ops_of}
use Rattle.mi_reloc.specs.declared.ending.RunEnd.TheVariants.{PairNotAllowed, MadeFor}
use Rattle.mi_run.specs.Ending.{run_of, at_start, EndsAs, WritesAs, KeepsLast, IsRefusal}
use Rattle.mi_run.specs.Waits.{run_taken, StopsThere}
use Rattle.mi_run.proofs.Refusals.{emits_none, silent_where_same, for_each, refusal_ends, refusal_writes, refusal_keeps, no_pair, no_made_for, ok_is_no_error, same_error}
use Rattle.mi_run.proofs.running.run_gathered.Goals as goal

pub returns-in-Ok-clause-ends : goal.returns-in-Ok-clause-ends
returns-in-Ok-clause-ends g c =
    let region = loaded c.args.image.now c.args.pair in
    let same : ops_of c.in-Ok.machine.state.arith ≡ plain_ops c.args.pair c.args.image.now.size = ap ops_of c.in-Ok.ensures.arith in
    subst (λ (ops : Ops ℕ ℕ). IfSome (g.I.Source.left c.args.input.now) (λ text. EndsAs c.run_machine.result c.args.turns (runs.run whole_kernel ops region text c.args.turns).end)) same
    (c.run_machine.ensures.ends region (c.in-Ok.ensures.machine ∙ ap (λ (ops : Ops ℕ ℕ). at_start ops region) (sym same)))

pub returns-in-Ok-clause-writes : goal.returns-in-Ok-clause-writes
returns-in-Ok-clause-writes g c =
    let region = loaded c.args.image.now c.args.pair in
    let before = g.O.Sink.written c.args.output.now in
    let now = g.O.Sink.written c.run_machine.new.output in
    let same : ops_of c.in-Ok.machine.state.arith ≡ plain_ops c.args.pair c.args.image.now.size = ap ops_of c.in-Ok.ensures.arith in
    subst (λ (ops : Ops ℕ ℕ). IfSome (g.I.Source.left c.args.input.now) (λ text. WritesAs c.run_machine.result before now (runs.run whole_kernel ops region text c.args.turns).output)) same
    (c.run_machine.ensures.writes region (c.in-Ok.ensures.machine ∙ ap (λ (ops : Ops ℕ ℕ). at_start ops region) (sym same)))

pub returns-in-Ok-clause-pair_not_allowed : goal.returns-in-Ok-clause-pair_not_allowed
returns-in-Ok-clause-pair_not_allowed g c =
    (λ e. absurd (no_pair c.run_machine.result (λ k. (c.run_machine.ensures.memory k).0) e), λ n. absurd (ok_is_no_error c.in-Ok.machine PairNotAllowed (c.in-Ok.ensures.pair_not_allowed.1 n)))

pub returns-in-Ok-clause-made_for : goal.returns-in-Ok-clause-made_for
returns-in-Ok-clause-made_for g c =
    λ other. (λ e. absurd (no_made_for c.run_machine.result other (λ k. (c.run_machine.ensures.memory k).0) e), λ x. absurd (ok_is_no_error c.in-Ok.machine (MadeFor other) ((c.in-Ok.ensures.made_for other).1 x)))

pub returns-in-Err-clause-ends : goal.returns-in-Err-clause-ends
returns-in-Err-clause-ends g c =
    for_each (g.I.Source.left c.args.input.now) (λ text. EndsAs c.in-Err.end c.args.turns (run_of c.args.image.now c.args.pair text c.args.turns).end)
    (λ text. refusal_ends c.in-Err.end c.args.turns (run_of c.args.image.now c.args.pair text c.args.turns).end c.in-Err.ensures.refused)

pub returns-in-Err-clause-writes : goal.returns-in-Err-clause-writes
returns-in-Err-clause-writes g c =
    let before = g.O.Sink.written c.args.output.now in
    for_each (g.I.Source.left c.args.input.now) (λ text. WritesAs c.in-Err.end before before (run_of c.args.image.now c.args.pair text c.args.turns).output)
    (λ text. refusal_writes c.in-Err.end before (run_of c.args.image.now c.args.pair text c.args.turns).output c.in-Err.ensures.refused)

pub returns-in-Err-clause-pair_not_allowed : goal.returns-in-Err-clause-pair_not_allowed
returns-in-Err-clause-pair_not_allowed g c =
    (λ e. c.in-Err.ensures.pair_not_allowed.0 (ap (λ (x : _). Err x) e), λ n. same_error c.in-Err.end PairNotAllowed (c.in-Err.ensures.pair_not_allowed.1 n))

pub returns-in-Err-clause-made_for : goal.returns-in-Err-clause-made_for
returns-in-Err-clause-made_for g c =
    λ other. (λ e. (c.in-Err.ensures.made_for other).0 (ap (λ (x : _). Err x) e), λ x. same_error c.in-Err.end (MadeFor other) ((c.in-Err.ensures.made_for other).1 x))

pub returns-in-Err-clause-read_fault : goal.returns-in-Err-clause-read_fault
returns-in-Err-clause-read_fault g c = λ e. absurd (subst IsRefusal e c.in-Err.ensures.refused)

pub returns-in-Err-clause-write_fault : goal.returns-in-Err-clause-write_fault
returns-in-Err-clause-write_fault g c = λ e. absurd (subst IsRefusal e c.in-Err.ensures.refused)

pub returns-in-Ok-clause-last : goal.returns-in-Ok-clause-last
returns-in-Ok-clause-last g c =
    let region = loaded c.args.image.now c.args.pair in
    let same : ops_of c.in-Ok.machine.state.arith ≡ plain_ops c.args.pair c.args.image.now.size = ap ops_of c.in-Ok.ensures.arith in
    subst (λ (ops : Ops ℕ ℕ). IfSome (g.I.Source.left c.args.input.now) (λ text. KeepsLast c.run_machine.result c.args.gathered.now.last c.run_machine.new.gathered.last (runs.run whole_kernel ops region text c.args.turns).output)) same
    (c.run_machine.ensures.last region (c.in-Ok.ensures.machine ∙ ap (λ (ops : Ops ℕ ℕ). at_start ops region) (sym same)))

pub returns-in-Err-clause-last : goal.returns-in-Err-clause-last
returns-in-Err-clause-last g c =
    let last = c.args.gathered.now.last in
    for_each (g.I.Source.left c.args.input.now) (λ text. KeepsLast c.in-Err.end last last (run_of c.args.image.now c.args.pair text c.args.turns).output)
    (λ text. refusal_keeps c.in-Err.end last (run_of c.args.image.now c.args.pair text c.args.turns).output c.in-Err.ensures.refused)

pub returns-in-Ok-clause-silent : goal.returns-in-Ok-clause-silent
returns-in-Ok-clause-silent g c =
    λ refused. silent_where_same g.O.Sink.written c.args.output.now c.run_machine.new.output (c.run_machine.ensures.memory refused).2

pub returns-in-Err-clause-silent : goal.returns-in-Err-clause-silent
returns-in-Err-clause-silent g c = λ refused. emits_none (g.O.Sink.written c.args.output.now)

pub returns-in-Ok-clause-wait : goal.returns-in-Ok-clause-wait
returns-in-Ok-clause-wait g c =
    let region = loaded c.args.image.now c.args.pair in
    let before = g.O.Sink.written c.args.output.now in
    let now = g.O.Sink.written c.run_machine.new.output in
    let same : ops_of c.in-Ok.machine.state.arith ≡ plain_ops c.args.pair c.args.image.now.size = ap ops_of c.in-Ok.ensures.arith in
    λ fault. subst (λ (ops : Ops ℕ ℕ). StopsThere (run_taken whole_kernel ops region c.args.turns) (g.I.Source.left c.args.input.now) (g.I.Source.left c.run_machine.new.input) before now) same
    (c.run_machine.ensures.wait region (c.in-Ok.ensures.machine ∙ ap (λ (ops : Ops ℕ ℕ). at_start ops region) (sym same)) fault)

pub returns-in-Err-clause-wait : goal.returns-in-Err-clause-wait
returns-in-Err-clause-wait g c = λ e. absurd (subst IsRefusal e c.in-Err.ensures.refused)
