-- The words are those that were found.
use Rattle.std.proofs.Common.{◌≡◌, ℕ, List, ap, ◌∙◌, subst}
use Rattle.mi_commands.specs.Answered.{IsAnswered}
use Rattle.mi_commands.specs.Command.{build_of}
use Rattle.mi_commands.specs.Options.{words_of}
use Rattle.mi_commands.specs.Outside.{outside_of}
use Rattle.mi_commands.specs.Settings.{settings_in_bytes}
use Rattle.mi_commands.proofs.commands.build.build.Goals as goal

pub returns-in-Ok : goal.returns-in-Ok
returns-in-Ok g c left input_faults =
    subst (λ (words : List (List ℕ)). IsAnswered (build_of words (settings_in_bytes c.args.settings.now)) c.build_named.result
    (outside_of (g.F.Files.held c.args.files.now) (g.F.Files.faults c.args.files.now) left input_faults (g.O.Sink.written c.args.output.now) (g.O.Sink.faults c.args.output.now))
    (outside_of (g.F.Files.held c.build_named.new.files) (g.F.Files.faults c.build_named.new.files) left input_faults (g.O.Sink.written c.build_named.new.output) (g.O.Sink.faults c.build_named.new.output)))
    (ap words_of c.as_slice.ensures.value ∙ c.in-Ok.ensures) (c.build_named.ensures left input_faults)
