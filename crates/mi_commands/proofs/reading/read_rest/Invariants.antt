-- What was left of the file at first is the text and what is left now; the text grows to the limit.
use Rattle.std.proofs.Common.{◌<◌, ◌≤◌, ◌-◌, length, vec_len}
use Rattle.mi_outside.specs.Telling.{WhileTold}
use Rattle.mi_commands.specs.Limits.{source_limit}
use Rattle.mi_commands.proofs.ReadingSteps.{IsReadTo}
use Rattle.mi_commands.proofs.reading.read_rest.Given as goal

abbrev pub invariant-loop-text : goal.invariant-loop-text
invariant-loop-text g l =
    record {
      read : WhileTold (g.F.Files.held l.fn.files) (g.F.Files.held l.files) (IsReadTo l.text.items);
      short : vec_len l.text ≤ source_limit;
      room : 0 < length l.buffer;
      later : g.F.Files.faults l.fn.files ≤ g.F.Files.faults l.files;
    }

abbrev pub decreases-loop-text : goal.decreases-loop-text
decreases-loop-text g l = source_limit - vec_len l.text
