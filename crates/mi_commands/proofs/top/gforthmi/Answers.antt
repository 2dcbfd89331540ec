-- The command is the one that was read.
use Rattle.std.proofs.Common.{rules, ◌≡◌, Option, Global, false, map, string_bytes, subst}
use Rattle.mi_commands.specs.Answered.{IsAnswered}
use Rattle.mi_commands.specs.Command.{Command, build_of, command_of}
use Rattle.mi_commands.specs.Options.{positional_in}
use Rattle.mi_commands.specs.Outside.{outside_of}
use Rattle.mi_commands.specs.Settings.{settings_in_bytes}
use Rattle.mi_commands.proofs.MeantLemmas.{usage_answered}
use Rattle.mi_commands.proofs.top.gforthmi.Goals as goal

pub returns-in-None-clause-answered : goal.returns-in-None-clause-answered
returns-in-None-clause-answered g c =
    let held = g.F.Files.held c.args.files.now in
    let files = g.F.Files.faults c.args.files.now in
    let left = g.I.Source.left c.args.input.now in
    let input = g.I.Source.faults c.args.input.now in
    let before = outside_of held files left input (g.O.Sink.written c.args.output.now) (g.O.Sink.faults c.args.output.now) in
    let after = outside_of held files left input (g.O.Sink.written c.refuse_words.new.output) (g.O.Sink.faults c.refuse_words.new.output) in
    subst (λ (k : Option Command). IsAnswered k c.refuse_words.result before after) c.in-None.ensures.read
    (usage_answered c.refuse_words.result held files left input (g.O.Sink.written c.args.output.now) (g.O.Sink.written c.refuse_words.new.output) (g.O.Sink.faults c.args.output.now) (g.O.Sink.faults c.refuse_words.new.output)
    c.refuse_words.ensures.same c.refuse_words.ensures.front c.refuse_words.ensures.whole)

pub returns-in-Some-Build-clause-answered : goal.returns-in-Some-Build-clause-answered
returns-in-Some-Build-clause-answered g c =
    let left = g.I.Source.left c.args.input.now in
    let input = g.I.Source.faults c.args.input.now in
    let before = outside_of (g.F.Files.held c.args.files.now) (g.F.Files.faults c.args.files.now) left input (g.O.Sink.written c.args.output.now) (g.O.Sink.faults c.args.output.now) in
    let after = outside_of (g.F.Files.held c.build.new.files) (g.F.Files.faults c.build.new.files) left input (g.O.Sink.written c.build.new.output) (g.O.Sink.faults c.build.new.output) in
    let read : build_of (positional_in false (map (string_bytes {Z = Global}) c.in-Some-Build.words.now)) (settings_in_bytes c.in-Some-Build.settings) ≡ command_of (map (string_bytes {Z = Global}) c.args.words.now) = search rules in
    subst (λ (k : Option Command). IsAnswered k c.build.result before after) read (c.build.ensures left input)
