-- All that is said of a run.
use Rattle.mi_commands.proofs.MeantLemmas.{run_answered}
use Rattle.mi_commands.proofs.commands.run.run.Goals as goal

pub returns : goal.returns
returns g c =
    let done = c.run_image.ensures in
    run_answered c.args.image.now c.args.settings.now c.run_image.result (g.F.Files.held c.args.files.now) (g.F.Files.held c.run_image.new.files) (g.F.Files.faults c.args.files.now) (g.F.Files.faults c.run_image.new.files)
    (g.I.Source.left c.args.input.now) (g.I.Source.left c.run_image.new.input) (g.I.Source.faults c.args.input.now) (g.I.Source.faults c.run_image.new.input)
    (g.O.Sink.written c.args.output.now) (g.O.Sink.written c.run_image.new.output) (g.O.Sink.faults c.args.output.now) (g.O.Sink.faults c.run_image.new.output)
    done.cause done.possible done.kept done.writes done.writes_all done.written done.read_fault done.write_fault done.stops
