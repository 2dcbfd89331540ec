use Rattle.std.proofs.Common.{refl}
use Rattle.mi_outside.proofs.Places.{content-none, reading-none}
use Rattle.mi_outside.proofs.mem_files.MemFiles.new.Goals as goal

pub returns-clause-held : goal.returns-clause-held
returns-clause-held c =
    record {
      file = λ q. content-none _ q c.new.ensures.entries;
      reading = reading-none _ _ c.new.ensures.reading;
      writing = refl;
    }
