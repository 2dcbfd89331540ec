-- Nothing was written where the sources were refused.
use Rattle.mi_commands.specs.Settings.{settings_in_bytes}
use Rattle.mi_commands.specs.Options.{words_of}
use Rattle.mi_commands.proofs.LineLemmas.{refused_cut, refused_emits}
use Rattle.mi_commands.proofs.commands.build.make.Goals as goal

pub returns-clause-cut : goal.returns-clause-cut
returns-clause-cut g c = refused_cut (g.F.Files.held c.args.files.now) (settings_in_bytes c.args.settings.now) (words_of c.args.sources.now) (g.O.Sink.written c.args.output.now)

pub returns-clause-whole : goal.returns-clause-whole
returns-clause-whole g c =
    refused_emits c.in-Err.outcome (g.F.Files.held c.args.files.now) (settings_in_bytes c.args.settings.now) (words_of c.args.sources.now) (g.O.Sink.written c.args.output.now) c.in-Err.ensures.refusal
