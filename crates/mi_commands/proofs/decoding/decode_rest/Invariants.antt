-- What was left of the file at first is what the decoder was fed and what is left now.
use Rattle.std.proofs.Common.{◌<◌, ◌≤◌, ◌-◌, ◌^◌, length}
use Rattle.std.specs.Prelude.{IsOk}
use Rattle.mi_outside.specs.Telling.{WhileTold}
use Rattle.mi_commands.specs.Decoding.{fed}
use Rattle.mi_commands.proofs.DecodingSteps.{IsFedTo}
use Rattle.mi_commands.proofs.decoding.decode_rest.Given as goal

abbrev pub invariant-pieces : goal.invariant-pieces
invariant-pieces g l =
    record {
      read : WhileTold (g.F.Files.held l.fn.files) (g.F.Files.held l.files) (IsFedTo (fed l.decoder));
      feeding : IsOk l.decoder;
      room : 0 < length l.buffer;
      later : g.F.Files.faults l.fn.files ≤ g.F.Files.faults l.files;
    }

abbrev pub decreases-pieces : goal.decreases-pieces
decreases-pieces g l = 2 ^ 24 - length (fed l.decoder)
