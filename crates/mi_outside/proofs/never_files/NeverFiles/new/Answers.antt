use Rattle.std.proofs.Common.{refl}
use Rattle.mi_outside.proofs.Places.{content-none, reading-none}
use Rattle.mi_outside.proofs.never_files.NeverFiles.new.Goals as goal

pub returns : goal.returns
returns c =
    record {
      file = λ q. content-none _ q c.new.ensures.entries;
      reading = reading-none _ _ c.new.ensures.reading;
      writing = refl;
    }
