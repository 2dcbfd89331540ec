-- The texts so far and the sources that are left give what all sources give.
use Rattle.std.proofs.Common.{◌≡◌, ◌≤◌, ◌-◌, length, drop}
use Rattle.std.specs.Prelude.{IfSome}
use Rattle.mi_outside.specs.Holding.{SameFiles}
use Rattle.mi_outside.specs.Telling.{WhileTold}
use Rattle.mi_commands.specs.Limits.{source_count}
use Rattle.mi_commands.specs.Options.{words_of}
use Rattle.mi_commands.proofs.SourceLemmas.{GivesAll}
use Rattle.mi_commands.proofs.sources.read_all.Given as goal

abbrev pub invariant-names : goal.invariant-names
invariant-names g l =
    record {
      counted : length l.sources ≡ l.i;
      within : l.i ≤ length l.fn.names;
      few : length l.fn.names ≤ source_count;
      told : WhileTold (g.F.Files.held l.fn.files) (g.F.Files.held l.files) SameFiles;
      gives : IfSome (g.F.Files.held l.fn.files) (GivesAll (words_of l.fn.names) l.sources (drop l.i (words_of l.fn.names)));
      later : g.F.Files.faults l.fn.files ≤ g.F.Files.faults l.files;
    }

abbrev pub decreases-names : goal.decreases-names
decreases-names g l = length l.fn.names - l.i
