use Rattle.std.proofs.Common.{ℕ, List, sym, subst}
use Rattle.mi_model.specs.Kernel.{whole_kernel}
use Rattle.mi_model.specs.Run.{run_on}
use Rattle.mi_arith.specs.declared.plain.Plain.{Plain}
use Rattle.mi_machine.specs.Steps.{ops_of}
use Rattle.mi_outside.specs.Puts.{output_of}
use Rattle.mi_run.specs.declared.lines.Next.{Next}
use Rattle.mi_run.specs.declared.lines.Next.TheVariants.{Line, End, TooLong}
use Rattle.mi_run.specs.Lines.{text_of, TellsLine}
use Rattle.mi_run.proofs.CourseLemmas.{left_of, waiting_of, same_rest, wait_line, wait_end, wait_too_long, wait_failed}
use Rattle.mi_run.specs.Reading.{reading_of, TakesNext}
use Rattle.mi_run.proofs.TakingLemmas.{left_with, wait_with, rest_taking, line_taking, end_taking, failed_taking}
use Rattle.mi_run.proofs.course.give_input.Goals as goal

pub returns-in-Ok-Line-clause-goes : goal.returns-in-Ok-Line-clause-goes
returns-in-Ok-Line-clause-goes g c =
    let at = c.args.at.now in
    let s = c.args.machine.now.state in
    let n = c.input_line.new.machine.state in
    let old = text_of c.args.lines.now.buffer (g.I.Source.left c.args.input.now) in
    let new = text_of c.next.new.self.buffer (g.I.Source.left c.next.new.input) in
    let before = output_of (g.O.Sink.written c.args.output.now) c.args.gathered.now in
    let now = output_of (g.O.Sink.written c.input_line.new.output) c.input_line.new.gathered in
    let told : TellsLine Line old new c.args.lines.now.room c.next.new.self.room c.next.new.self.line =
    subst (λ (x : Next). TellsLine x old new c.args.lines.now.room c.next.new.self.room c.next.new.self.line) c.in-Ok-Line.field-0-is c.in-Ok-Line.ensures.tells in
    let tells : TellsLine Line old new c.args.lines.now.room c.next.new.self.room c.bytes.result.now =
    subst (λ (xs : List ℕ). TellsLine Line old new c.args.lines.now.room c.next.new.self.room xs) (sym c.bytes.ensures) told in
    same_rest c.input_line.result at.turns (waiting_of s.arith at.left at.entered s.machine c.args.lines.now.room old) (λ (p : Plain). left_of p at.left at.entered n.machine c.next.new.self.room new) s.arith n.arith before now c.input_line.ensures.arith
    (wait_line c.input_line.result at.turns (ops_of s.arith) (run_on whole_kernel (ops_of s.arith) at.left) s.machine n.machine at.entered old new c.args.lines.now.room c.next.new.self.room c.bytes.result.now before now tells
    (λ d e. c.input_line.ensures.goes (run_on whole_kernel (ops_of s.arith) at.left) d e))

pub returns-in-Ok-Line-clause-read_fault : goal.returns-in-Ok-Line-clause-read_fault
returns-in-Ok-Line-clause-read_fault g c = λ e. absurd (c.input_line.ensures.read e)

pub returns-in-Ok-End-clause-goes : goal.returns-in-Ok-End-clause-goes
returns-in-Ok-End-clause-goes g c =
    let at = c.args.at.now in
    let s = c.args.machine.now.state in
    let n = c.input_end.new.machine.state in
    let old = text_of c.args.lines.now.buffer (g.I.Source.left c.args.input.now) in
    let new = text_of c.next.new.self.buffer (g.I.Source.left c.next.new.input) in
    let before = output_of (g.O.Sink.written c.args.output.now) c.args.gathered.now in
    let now = output_of (g.O.Sink.written c.input_end.new.output) c.input_end.new.gathered in
    let told : TellsLine End old new c.args.lines.now.room c.next.new.self.room c.next.new.self.line =
    subst (λ (x : Next). TellsLine x old new c.args.lines.now.room c.next.new.self.room c.next.new.self.line) c.in-Ok-End.field-0-is c.in-Ok-End.ensures.tells in
    same_rest c.input_end.result at.turns (waiting_of s.arith at.left at.entered s.machine c.args.lines.now.room old) (λ (p : Plain). left_of p at.left at.entered n.machine c.next.new.self.room new) s.arith n.arith before now c.input_end.ensures.arith
    (wait_end c.input_end.result at.turns (ops_of s.arith) (run_on whole_kernel (ops_of s.arith) at.left) s.machine n.machine at.entered old new c.args.lines.now.room c.next.new.self.room c.next.new.self.line before now told
    (λ d e. c.input_end.ensures.goes (run_on whole_kernel (ops_of s.arith) at.left) d e))

pub returns-in-Ok-End-clause-read_fault : goal.returns-in-Ok-End-clause-read_fault
returns-in-Ok-End-clause-read_fault g c = λ e. absurd (c.input_end.ensures.read e)

pub returns-in-Ok-TooLong-clause-goes : goal.returns-in-Ok-TooLong-clause-goes
returns-in-Ok-TooLong-clause-goes g c =
    let at = c.args.at.now in
    let s = c.args.machine.now.state in
    let old = text_of c.args.lines.now.buffer (g.I.Source.left c.args.input.now) in
    let new = text_of c.next.new.self.buffer (g.I.Source.left c.next.new.input) in
    let told : TellsLine TooLong old new c.args.lines.now.room c.next.new.self.room c.next.new.self.line =
    subst (λ (x : Next). TellsLine x old new c.args.lines.now.room c.next.new.self.room c.next.new.self.line) c.in-Ok-TooLong.field-0-is c.in-Ok-TooLong.ensures.tells in
    wait_too_long at.turns (ops_of s.arith) (run_on whole_kernel (ops_of s.arith) at.left) s.machine at.entered old new c.args.lines.now.room c.next.new.self.room c.next.new.self.line
    (left_of s.arith at.left at.entered s.machine c.next.new.self.room new) (output_of (g.O.Sink.written c.args.output.now) c.args.gathered.now) told

pub returns-in-Err-clause-goes : goal.returns-in-Err-clause-goes
returns-in-Err-clause-goes g c =
    let at = c.args.at.now in
    let s = c.args.machine.now.state in
    wait_failed at.turns (waiting_of s.arith at.left at.entered s.machine c.args.lines.now.room (text_of c.args.lines.now.buffer (g.I.Source.left c.args.input.now)))
    (left_of s.arith at.left at.entered s.machine c.next.new.self.room (text_of c.next.new.self.buffer (g.I.Source.left c.next.new.input))) (output_of (g.O.Sink.written c.args.output.now) c.args.gathered.now)

pub returns-in-Ok-Line-clause-takes : goal.returns-in-Ok-Line-clause-takes
returns-in-Ok-Line-clause-takes g c =
    let at = c.args.at.now in
    let s = c.args.machine.now.state in
    let n = c.input_line.new.machine.state in
    let old = reading_of c.args.lines.now (g.I.Source.left c.args.input.now) in
    let left = g.I.Source.left c.next.new.input in
    let new = reading_of c.next.new.self left in
    let before = output_of (g.O.Sink.written c.args.output.now) c.args.gathered.now in
    let now = output_of (g.O.Sink.written c.input_line.new.output) c.input_line.new.gathered in
    let rest = run_on whole_kernel (ops_of s.arith) at.left in
    let told : TakesNext Line old new c.next.new.self.line = subst (λ (x : Next). TakesNext x old new c.next.new.self.line) c.in-Ok-Line.field-0-is c.in-Ok-Line.ensures.takes in
    let tells : TakesNext Line old new c.bytes.result.now = subst (λ (xs : List ℕ). TakesNext Line old new xs) (sym c.bytes.ensures) told in
    rest_taking c.input_line.result old new left (wait_with (ops_of s.arith) rest at.entered s.machine) (λ (p : Plain). left_with p at.left at.entered n.machine) s.arith n.arith before now c.input_line.ensures.arith
    (line_taking c.input_line.result at.turns (ops_of s.arith) rest s.machine n.machine at.entered old new left c.bytes.result.now before now (λ e. c.input_line.ensures.read e) tells (λ d e. c.input_line.ensures.goes rest d e))

pub returns-in-Ok-End-clause-takes : goal.returns-in-Ok-End-clause-takes
returns-in-Ok-End-clause-takes g c =
    let at = c.args.at.now in
    let s = c.args.machine.now.state in
    let n = c.input_end.new.machine.state in
    let old = reading_of c.args.lines.now (g.I.Source.left c.args.input.now) in
    let left = g.I.Source.left c.next.new.input in
    let new = reading_of c.next.new.self left in
    let before = output_of (g.O.Sink.written c.args.output.now) c.args.gathered.now in
    let now = output_of (g.O.Sink.written c.input_end.new.output) c.input_end.new.gathered in
    let told : TakesNext End old new c.next.new.self.line = subst (λ (x : Next). TakesNext x old new c.next.new.self.line) c.in-Ok-End.field-0-is c.in-Ok-End.ensures.takes in
    end_taking c.input_end.result old new left (wait_with (ops_of s.arith) (run_on whole_kernel (ops_of s.arith) at.left) at.entered s.machine) (left_with n.arith at.left at.entered n.machine) before now (λ e. c.input_end.ensures.read e) told

pub returns-in-Err-clause-takes : goal.returns-in-Err-clause-takes
returns-in-Err-clause-takes g c =
    let at = c.args.at.now in
    let s = c.args.machine.now.state in
    failed_taking (ops_of s.arith) (run_on whole_kernel (ops_of s.arith) at.left) s.machine at.entered (reading_of c.args.lines.now (g.I.Source.left c.args.input.now)) (g.I.Source.left c.next.new.input)
    (output_of (g.O.Sink.written c.args.output.now) c.args.gathered.now) c.in-Err.ensures.takes
