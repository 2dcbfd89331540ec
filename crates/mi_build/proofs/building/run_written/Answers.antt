use Rattle.std.proofs.Common.{◌≡◌, Bool, true, false, ℕ, sym, ◌∙◌}
use Rattle.mi_build.specs.Puts.{is_write_fault, output_of}
use Rattle.mi_build.proofs.PutLemmas.{answer_lost, answer_written, fault_lost, fault_written, write_fault}
use Rattle.mi_build.proofs.building.run_written.Goals as goal

pub returns-in-Err-write_waiting-clause-emits : goal.returns-in-Err-write_waiting-clause-emits
returns-in-Err-write_waiting-clause-emits g c =
    fault_written ℕ c.in-Err-write_waiting.field-0 (output_of (g.O.Sink.written c.args.output.now) c.args.gathered.now)
    (output_of (g.O.Sink.written c.run_build.new.output) c.run_build.new.gathered) (output_of (g.O.Sink.written c.write_waiting.new.output) c.write_waiting.new.gathered)
    _ c.requires.none_waits c.in-Err-write_waiting.ensures.fault.0 c.in-Ok.ensures.puts c.in-Err-write_waiting.ensures.puts

pub returns-then-is_write_fault-clause-emits : goal.returns-then-is_write_fault-clause-emits
returns-then-is_write_fault-clause-emits g c =
    fault_lost ℕ c.in-Err.fault (output_of (g.O.Sink.written c.args.output.now) c.args.gathered.now)
    (output_of (g.O.Sink.written c.run_build.new.output) c.run_build.new.gathered)
    _ c.requires.none_waits (write_fault c.in-Err.fault (sym c.is_write_fault.ensures ∙ c.if-is_write_fault.true)) c.in-Err.ensures.puts

pub returns-in-Ok-write_waiting-2-clause-emits : goal.returns-in-Ok-write_waiting-2-clause-emits
returns-in-Ok-write_waiting-2-clause-emits g c =
    answer_written ℕ c.in-Err.fault (output_of (g.O.Sink.written c.args.output.now) c.args.gathered.now)
    (output_of (g.O.Sink.written c.run_build.new.output) c.run_build.new.gathered) (output_of (g.O.Sink.written c.write_waiting-in-Err.new.output) c.write_waiting-in-Err.new.gathered)
    _ c.requires.none_waits c.in-Ok-write_waiting-2.ensures.none_waits (sym c.is_write_fault.ensures ∙ c.if-is_write_fault.false) c.in-Err.ensures.puts c.in-Ok-write_waiting-2.ensures.puts

pub returns-in-Err-write_waiting-2-clause-emits : goal.returns-in-Err-write_waiting-2-clause-emits
returns-in-Err-write_waiting-2-clause-emits g c =
    answer_lost ℕ ℕ c.in-Err.fault c.in-Err-write_waiting-2.field-0 (output_of (g.O.Sink.written c.args.output.now) c.args.gathered.now)
    (output_of (g.O.Sink.written c.run_build.new.output) c.run_build.new.gathered) (output_of (g.O.Sink.written c.write_waiting-in-Err.new.output) c.write_waiting-in-Err.new.gathered)
    _ c.requires.none_waits (sym c.is_write_fault.ensures ∙ c.if-is_write_fault.false) c.in-Err-write_waiting-2.ensures.fault.0 c.in-Err.ensures.puts c.in-Err-write_waiting-2.ensures.puts
