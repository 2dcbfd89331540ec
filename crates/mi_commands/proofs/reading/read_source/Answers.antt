use Rattle.mi_outside.specs.Holding.{EndsRead}
use Rattle.mi_commands.specs.Reading.{ReadsSource}
use Rattle.mi_commands.proofs.Told.{while_then}
use Rattle.mi_commands.proofs.ReadingSteps.{source_ended, ended_reading, missing_no_text}
use Rattle.mi_commands.proofs.reading.read_source.Goals as goal

pub returns-clause-read : goal.returns-clause-read
returns-clause-read g c =
    let name = c.args.name.now in
    let answer = c.read_whole-answer.result in
    while_then (ReadsSource answer name) EndsRead (ReadsSource answer name) (source_ended answer name)
    _ _ _ c.read_whole-answer.ensures.read c.end_read.ensures.ended

pub returns-clause-ended : goal.returns-clause-ended
returns-clause-ended g c = ended_reading _ _ c.end_read.ensures.ended

pub returns-clause-missing : goal.returns-clause-missing
returns-clause-missing g c = missing_no_text _ _ _ _ c.read_whole-answer.ensures.read
