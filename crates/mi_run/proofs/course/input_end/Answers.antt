use Rattle.std.proofs.Common.{[], ℤ, Some, SFits, w64, to_z, of_z, to_z-of_z, sym, ap, ◌∙◌, rules}
use Rattle.mi_model.specs.Outcome.{outcome_of}
use Rattle.mi_model.specs.Input.{give_end}
use Rattle.mi_machine.specs.declared.machine.Stop.TheVariants.{Thrown as Stopped}
use Rattle.mi_machine.specs.Steps.{ops_of}
use Rattle.mi_outside.specs.Puts.{output_of}
use Rattle.mi_run.proofs.CourseLemmas.{end_passed, end_halted, end_thrown, same_fault}
use Rattle.mi_run.proofs.Pieces.{same_arith}
use Rattle.mi_run.proofs.course.input_end.Goals as goal

pub recover-requires : goal.recover-requires
recover-requires g c =
    let fits : SFits w64 c.in-Thrown.code = search rules in
    c.in-Thrown.ensures.1.1 ∙ ap (λ (z : ℤ). Some (Stopped z)) (sym (to_z-of_z fits))

pub returns-in-Passed-clause-goes : goal.returns-in-Passed-clause-goes
returns-in-Passed-clause-goes g c =
    let s = c.args.machine.now.state in
    λ rest d e. end_passed (ops_of s.arith) rest d s.machine c.take_end.new.machine.state.machine (outcome_of (ops_of s.arith) give_end s.machine []) c.args.at.now.turns (output_of (g.O.Sink.written c.args.output.now) c.args.gathered.now) c.in-Passed.ensures.0

pub returns-in-Halting-clause-goes : goal.returns-in-Halting-clause-goes
returns-in-Halting-clause-goes g c =
    let s = c.args.machine.now.state in
    let n = c.take_end.new.machine.state.machine in
    λ rest d e. end_halted (ops_of s.arith) rest d s.machine n (outcome_of (ops_of s.arith) give_end s.machine []) c.args.at.now.turns (rest d n) (output_of (g.O.Sink.written c.args.output.now) c.args.gathered.now) c.in-Halting.ensures.0

pub returns-in-Thrown-clause-goes : goal.returns-in-Thrown-clause-goes
returns-in-Thrown-clause-goes g c =
    let s = c.args.machine.now.state in
    let fits : SFits w64 c.in-Thrown.code = search rules in
    let n = c.recover.new.machine.state in
    let before = output_of (g.O.Sink.written c.args.output.now) c.args.gathered.now in
    let now = output_of (g.O.Sink.written c.recover.new.output) c.recover.new.gathered in
    λ rest d e. end_thrown c.recover.result (ops_of s.arith) rest d s.machine (outcome_of (ops_of s.arith) give_end s.machine []) c.in-Thrown.code c.args.at.now.turns (rest d n.machine) before now c.in-Thrown.ensures.0
    (same_fault c.recover.result rest d s c.take_end.new.machine.state (to_z w64 (of_z w64 c.in-Thrown.code)) c.in-Thrown.code c.args.at.now.turns (rest d n.machine) before now (to_z-of_z fits) c.in-Thrown.ensures.1.0 (c.recover.ensures.goes rest d e))

pub returns-in-Thrown-clause-arith : goal.returns-in-Thrown-clause-arith
returns-in-Thrown-clause-arith g c = same_arith c.recover.result c.args.machine.now.state c.take_end.new.machine.state c.recover.new.machine.state.arith c.recover.ensures.arith c.in-Thrown.ensures.1.0
