use Rattle.std.proofs.Common.{◌≡◌, ◌≤◌, false}
use Rattle.mi_run.specs.Lines.{text_of}
use Rattle.mi_run.proofs.Reading.{HasReadOf}
use Rattle.mi_run.proofs.lines.Lines.next.Given as goal

abbrev pub invariant-bytes : goal.invariant-bytes
invariant-bytes g l =
    record {
      read : HasReadOf (text_of l.fn.self.buffer (g.I.Source.left l.fn.input)) (text_of l.self.buffer (g.I.Source.left l.input)) l.fn.self.room l.self.room l.self.line;
      going : l.self.ended ≡ false;
      later : g.I.Source.faults l.fn.input ≤ g.I.Source.faults l.input;
    }

abbrev pub decreases-bytes : goal.decreases-bytes
decreases-bytes g l = l.self.room
