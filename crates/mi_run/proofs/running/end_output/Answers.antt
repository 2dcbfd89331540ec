use Rattle.std.proofs.Common.{◌≡◌, Result, sym, subst, refl, inr}
use Rattle.std.specs.Prelude.{IsErr}
use Rattle.mi_outside.specs.Puts.{output_of}
use Rattle.mi_reloc.specs.declared.ending.RunEnd.{RunEnd}
use Rattle.mi_reloc.specs.declared.ending.RunEnd.TheVariants.{WriteFault}
use Rattle.mi_run.specs.Ending.{WritesAs, KeepsLast}
use Rattle.mi_run.proofs.EndLemmas.{failed_end}
use Rattle.mi_run.proofs.running.end_output.Goals as goal

pub returns-in-Err : goal.returns-in-Err
returns-in-Err g c =
    let second = output_of (g.O.Sink.written c.args.output.now) c.args.gathered.now in
    let third = output_of (g.O.Sink.written c.write_waiting.new.output) c.write_waiting.new.gathered in
    let failed : c.in-Err.fault ≡ WriteFault = c.in-Err.ensures.emits.0 in
    record {
      ended = inr failed;
      writes = λ first bytes none p. subst (λ (r : RunEnd). WritesAs r first.written third.written bytes) (sym failed) (failed_end c.args.end first second third bytes (λ e. c.in_default.not-WriteFault e) none p c.in-Err.ensures.emits.1);
      whole = λ first bytes none p n. absurd (n failed);
      last = λ first bytes p. subst (λ (r : RunEnd). KeepsLast r first.gathered.last third.gathered.last bytes) (sym failed) tt;
      none_waits = λ n. absurd (n failed);
      fault = λ e. inr (c.write_waiting.ensures.fault (subst (λ (r : Result (Unit {0}) RunEnd). IsErr r) (sym c.in-Err.is) refl));
      later = c.write_waiting.ensures.later;
    }
