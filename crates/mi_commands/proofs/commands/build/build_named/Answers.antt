-- The words are those of a build.
use Rattle.std.proofs.Common.{rules, ◌≡◌, ℕ, List, ◌∷◌, Option, sym, subst}
use Rattle.mi_commands.specs.Answered.{IsAnswered}
use Rattle.mi_commands.specs.Command.{Command}
use Rattle.mi_commands.specs.Options.{words_of}
use Rattle.mi_commands.specs.Outside.{outside_of}
use Rattle.mi_commands.specs.Settings.{settings_in_bytes}
use Rattle.mi_commands.proofs.MeantLemmas.{build_answered}
use Rattle.mi_commands.proofs.WordLemmas.{command_is}
use Rattle.mi_commands.proofs.commands.build.build_named.Goals as goal

pub returns : goal.returns
returns g c left input_faults =
    let done = c.build_sources.ensures in
    let words : words_of c.args.names.now ≡ c.in-Some.out.now.now ∷ words_of c.in-Some.sources.now = search rules in
    let held = g.F.Files.held c.args.files.now in
    let held_now = g.F.Files.held c.build_sources.new.files in
    let files = g.F.Files.faults c.args.files.now in
    let files_now = g.F.Files.faults c.build_sources.new.files in
    let written = g.O.Sink.written c.args.output.now in
    let written_now = g.O.Sink.written c.build_sources.new.output in
    let output = g.O.Sink.faults c.args.output.now in
    let output_now = g.O.Sink.faults c.build_sources.new.output in
    subst (λ (k : Option Command). IsAnswered k c.build_sources.result (outside_of held files left input_faults written output) (outside_of held_now files_now left input_faults written_now output_now))
    (sym (command_is (words_of c.args.names.now) (words_of c.in-Some.sources.now) c.in-Some.out.now.now (settings_in_bytes c.args.settings.now) words c.requires.enough))
    (build_answered c.in-Some.out.now.now (words_of c.in-Some.sources.now) (settings_in_bytes c.args.settings.now) c.build_sources.result held held_now files files_now left input_faults written written_now output output_now
    done.cause done.exact done.does done.part done.claims done.writes done.writes_all done.written done.read_fault done.write_fault)
