use Rattle.std.proofs.Common.{◌-◌, ◌∷◌, [], ℤ, Some, SFits, w64, to_z, of_z, to_z-of_z, sym, ap, ◌∙◌, rules}
use Rattle.mi_machine.specs.declared.machine.Stop.TheVariants.{Thrown as Stopped}
use Rattle.mi_outside.specs.Puts.{output_of}
use Rattle.mi_run.specs.Lines.{text_of}
use Rattle.mi_run.proofs.CourseLemmas.{left_of, one_passed, one_emitted, one_waits, one_halted, one_thrown, same_fault}
use Rattle.mi_run.proofs.Pieces.{piece_begun, piece_reads, piece_fault, on_ok, same_arith}
use Rattle.mi_run.specs.Reading.{reading_of}
use Rattle.mi_run.proofs.TakingLemmas.{left_with, passed_taking, emitted_taking, wanted_taking, thrown_taking}
use Rattle.mi_run.proofs.course.run_one.Goals as goal

pub recover-requires : goal.recover-requires
recover-requires g c =
    let fits : SFits w64 c.in-Thrown.code = search rules in
    c.in-Thrown.ensures.1.1 ∙ ap (λ (z : ℤ). Some (Stopped z)) (sym (to_z-of_z fits))

pub returns-in-Passed-clause-goes : goal.returns-in-Passed-clause-goes
returns-in-Passed-clause-goes g c =
    let at = c.args.at.now in
    one_passed at.turns c.args.machine.now.state c.take_step.new.machine.state at.entered (text_of c.args.lines.now.buffer (g.I.Source.left c.args.input.now)) c.args.lines.now.room at.left (output_of (g.O.Sink.written c.args.output.now) c.args.gathered.now)
    c.requires.left c.in-Passed.ensures.1.0 c.in-Passed.ensures.0

pub returns-in-Emitted-clause-goes : goal.returns-in-Emitted-clause-goes
returns-in-Emitted-clause-goes g c =
    let at = c.args.at.now in
    one_emitted c.emit.result at.turns c.in-Emitted.byte c.args.machine.now.state c.take_step.new.machine.state at.entered (text_of c.args.lines.now.buffer (g.I.Source.left c.args.input.now)) c.args.lines.now.room at.left
    (output_of (g.O.Sink.written c.args.output.now) c.args.gathered.now) (output_of (g.O.Sink.written c.emit.new.output) c.emit.new.gathered)
    c.requires.left c.in-Emitted.ensures.1.0 c.in-Emitted.ensures.0 c.emit.ensures.emits

pub returns-in-Emitted-clause-going : goal.returns-in-Emitted-clause-going
returns-in-Emitted-clause-going g c = on_ok c.emit.result c.in-Emitted.ensures.1.1

pub returns-in-Emitted-clause-begun : goal.returns-in-Emitted-clause-begun
returns-in-Emitted-clause-begun g c = piece_begun c.emit.result (output_of (g.O.Sink.written c.args.output.now) c.args.gathered.now) (output_of (g.O.Sink.written c.emit.new.output) c.emit.new.gathered) (c.in-Emitted.byte ∷ []) c.emit.ensures.emits

pub returns-in-Emitted-clause-read_fault : goal.returns-in-Emitted-clause-read_fault
returns-in-Emitted-clause-read_fault g c = λ e. absurd (piece_reads c.emit.result (output_of (g.O.Sink.written c.args.output.now) c.args.gathered.now) (output_of (g.O.Sink.written c.emit.new.output) c.emit.new.gathered) (c.in-Emitted.byte ∷ []) c.emit.ensures.emits e)

pub returns-in-Emitted-clause-write_fault : goal.returns-in-Emitted-clause-write_fault
returns-in-Emitted-clause-write_fault g c = piece_fault c.emit.result c.emit.ensures.fault

pub returns-in-Wanting-clause-goes : goal.returns-in-Wanting-clause-goes
returns-in-Wanting-clause-goes g c =
    let at = c.args.at.now in
    let n = c.answer_wait.new.machine.state in
    one_waits c.answer_wait.result at.turns c.args.machine.now.state c.take_step.new.machine.state at.entered (text_of c.args.lines.now.buffer (g.I.Source.left c.args.input.now)) c.args.lines.now.room at.left
    (left_of n.arith (at.left - 1) at.entered n.machine c.answer_wait.new.lines.room (text_of c.answer_wait.new.lines.buffer (g.I.Source.left c.answer_wait.new.input)))
    (output_of (g.O.Sink.written c.args.output.now) c.args.gathered.now) (output_of (g.O.Sink.written c.answer_wait.new.output) c.answer_wait.new.gathered)
    c.requires.left c.in-Wanting.ensures.1.0 c.in-Wanting.ensures.0 c.answer_wait.ensures.goes

pub returns-in-Halting-clause-goes : goal.returns-in-Halting-clause-goes
returns-in-Halting-clause-goes g c =
    let at = c.args.at.now in
    let n = c.take_step.new.machine.state in
    let text = text_of c.args.lines.now.buffer (g.I.Source.left c.args.input.now) in
    one_halted at.turns c.args.machine.now.state n.machine at.entered text c.args.lines.now.room at.left
    (left_of n.arith (at.left - 1) at.entered n.machine c.args.lines.now.room text) (output_of (g.O.Sink.written c.args.output.now) c.args.gathered.now)
    c.requires.left c.in-Halting.ensures.0

pub returns-in-Thrown-clause-goes : goal.returns-in-Thrown-clause-goes
returns-in-Thrown-clause-goes g c =
    let at = c.args.at.now in
    let s = c.args.machine.now.state in
    let fits : SFits w64 c.in-Thrown.code = search rules in
    let n = c.recover.new.machine.state in
    let before = output_of (g.O.Sink.written c.args.output.now) c.args.gathered.now in
    let now = output_of (g.O.Sink.written c.recover.new.output) c.recover.new.gathered in
    one_thrown c.recover.result at.turns c.in-Thrown.code s n at.entered (text_of c.args.lines.now.buffer (g.I.Source.left c.args.input.now)) c.args.lines.now.room at.left before now
    c.requires.left (same_arith c.recover.result s c.take_step.new.machine.state n.arith c.recover.ensures.arith c.in-Thrown.ensures.1.0) c.in-Thrown.ensures.0
    (λ rest d e. same_fault c.recover.result rest d s c.take_step.new.machine.state (to_z w64 (of_z w64 c.in-Thrown.code)) c.in-Thrown.code at.turns (rest d n.machine) before now (to_z-of_z fits) c.in-Thrown.ensures.1.0 (c.recover.ensures.goes rest d e))

pub returns-in-Thrown-clause-read_fault : goal.returns-in-Thrown-clause-read_fault
returns-in-Thrown-clause-read_fault g c = λ e. absurd (c.recover.ensures.read e)

pub returns-in-Passed-clause-takes : goal.returns-in-Passed-clause-takes
returns-in-Passed-clause-takes g c =
    let at = c.args.at.now in
    let left = g.I.Source.left c.args.input.now in
    passed_taking c.args.machine.now.state c.take_step.new.machine.state at.entered (reading_of c.args.lines.now left) left at.left (output_of (g.O.Sink.written c.args.output.now) c.args.gathered.now)
    c.requires.left c.in-Passed.ensures.1.0 c.in-Passed.ensures.0

pub returns-in-Emitted-clause-takes : goal.returns-in-Emitted-clause-takes
returns-in-Emitted-clause-takes g c =
    let at = c.args.at.now in
    let left = g.I.Source.left c.args.input.now in
    let before = output_of (g.O.Sink.written c.args.output.now) c.args.gathered.now in
    let now = output_of (g.O.Sink.written c.emit.new.output) c.emit.new.gathered in
    emitted_taking c.emit.result c.in-Emitted.byte c.args.machine.now.state c.take_step.new.machine.state at.entered (reading_of c.args.lines.now left) left at.left before now
    c.requires.left c.in-Emitted.ensures.1.0 (piece_reads c.emit.result before now (c.in-Emitted.byte ∷ []) c.emit.ensures.emits) c.in-Emitted.ensures.0 c.emit.ensures.emits

pub returns-in-Wanting-clause-takes : goal.returns-in-Wanting-clause-takes
returns-in-Wanting-clause-takes g c =
    let at = c.args.at.now in
    let n = c.answer_wait.new.machine.state in
    let left = g.I.Source.left c.answer_wait.new.input in
    wanted_taking c.answer_wait.result c.args.machine.now.state c.take_step.new.machine.state at.entered (reading_of c.args.lines.now (g.I.Source.left c.args.input.now)) (reading_of c.answer_wait.new.lines left) left at.left
    (left_with n.arith (at.left - 1) at.entered n.machine)
    (output_of (g.O.Sink.written c.args.output.now) c.args.gathered.now) (output_of (g.O.Sink.written c.answer_wait.new.output) c.answer_wait.new.gathered)
    c.requires.left c.in-Wanting.ensures.1.0 c.in-Wanting.ensures.0 c.answer_wait.ensures.takes

pub returns-in-Thrown-clause-takes : goal.returns-in-Thrown-clause-takes
returns-in-Thrown-clause-takes g c =
    let at = c.args.at.now in
    let s = c.args.machine.now.state in
    let fits : SFits w64 c.in-Thrown.code = search rules in
    let n = c.recover.new.machine.state in
    let left = g.I.Source.left c.args.input.now in
    let before = output_of (g.O.Sink.written c.args.output.now) c.args.gathered.now in
    let now = output_of (g.O.Sink.written c.recover.new.output) c.recover.new.gathered in
    thrown_taking c.recover.result at.turns c.in-Thrown.code s n at.entered (reading_of c.args.lines.now left) left at.left before now
    c.requires.left (same_arith c.recover.result s c.take_step.new.machine.state n.arith c.recover.ensures.arith c.in-Thrown.ensures.1.0) (λ e. c.recover.ensures.read e) c.in-Thrown.ensures.0
    (λ rest d e. same_fault c.recover.result rest d s c.take_step.new.machine.state (to_z w64 (of_z w64 c.in-Thrown.code)) c.in-Thrown.code at.turns (rest d n.machine) before now (to_z-of_z fits) c.in-Thrown.ensures.1.0 (c.recover.ensures.goes rest d e))
