use Rattle.std.proofs.Common.{ℤ, Err, w64, to_z, of_z, to_z-of_z, sym, subst, ◌∙◌, ap}
use Rattle.mi_model.specs.declared.Fault.TheVariants.{Throw}
use Rattle.mi_model.specs.Recovery.{recovery_text}
use Rattle.mi_model.specs.Run.{after_fault}
use Rattle.mi_machine.specs.Engine.{has_thrown}
use Rattle.mi_machine.specs.Steps.{ops_of}
use Rattle.mi_reloc.specs.declared.ending.RunEnd.TheVariants.{Thrown}
use Rattle.mi_outside.specs.Puts.{output_of}
use Rattle.mi_run.specs.Course.{PutsPiece, Goes}
use Rattle.mi_run.proofs.CourseLemmas.{thrown, recovered}
use Rattle.mi_run.proofs.Pieces.{piece_begun, piece_reads, piece_fault, on_ok}
use Rattle.mi_run.proofs.course.recover.Goals as goal

pub returns-then-at-clause-goes : goal.returns-then-at-clause-goes
returns-then-at-clause-goes g c =
    λ rest d e.
    let s = c.args.machine.now.state in
    let before = output_of (g.O.Sink.written c.args.output.now) c.args.gathered.now in
    subst (λ (z : ℤ). Goes (Err (Thrown z)) c.args.at.now.turns (after_fault (ops_of s.arith) rest d s.machine (Throw c.args.code)) (rest d s.machine) before before) (sym (to_z-of_z c.ranges.code))
    (thrown (ops_of s.arith) rest d s.machine c.args.code c.args.at.now.turns (rest d s.machine) before (e ∙ c.if-at.true))

pub take_recovery-requires : goal.take_recovery-requires
take_recovery-requires g c = ap has_thrown c.requires

pub returns-clause-goes : goal.returns-clause-goes
returns-clause-goes g c =
    λ rest d e.
    let before = output_of (g.O.Sink.written c.args.output.now) c.args.gathered.now in
    let now = output_of (g.O.Sink.written c.write_recovery.new.output) c.write_recovery.new.gathered in
    recovered c.write_recovery.result (ops_of c.args.machine.now.state.arith) rest d c.args.machine.now.state.machine c.take_recovery.new.machine.state.machine c.args.code c.args.at.now.turns before now
    (e ∙ c.if-at.false) c.take_recovery.ensures.told
    (subst (λ (z : ℤ). PutsPiece c.write_recovery.result before now (recovery_text z)) (to_z-of_z c.ranges.code) c.write_recovery.ensures.emits)

pub returns-clause-going : goal.returns-clause-going
returns-clause-going g c = on_ok c.write_recovery.result c.take_recovery.ensures.goes_on.1

pub returns-clause-arith : goal.returns-clause-arith
returns-clause-arith g c = on_ok c.write_recovery.result c.take_recovery.ensures.goes_on.0

pub returns-clause-begun : goal.returns-clause-begun
returns-clause-begun g c =
    piece_begun c.write_recovery.result (output_of (g.O.Sink.written c.args.output.now) c.args.gathered.now) (output_of (g.O.Sink.written c.write_recovery.new.output) c.write_recovery.new.gathered) (recovery_text (to_z w64 (of_z w64 c.args.code))) c.write_recovery.ensures.emits

pub returns-clause-read : goal.returns-clause-read
returns-clause-read g c =
    piece_reads c.write_recovery.result (output_of (g.O.Sink.written c.args.output.now) c.args.gathered.now) (output_of (g.O.Sink.written c.write_recovery.new.output) c.write_recovery.new.gathered) (recovery_text (to_z w64 (of_z w64 c.args.code))) c.write_recovery.ensures.emits

pub returns-clause-fault : goal.returns-clause-fault
returns-clause-fault g c = piece_fault c.write_recovery.result c.write_recovery.ensures.fault
