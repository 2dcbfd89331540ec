use Rattle.std.proofs.Common.{rules, ◌≡◌, [], length}
use Rattle.mi_model.specs.Throws.{throw_text_of}
use Rattle.mi_commands.specs.Report.{after_space}
use Rattle.mi_commands.proofs.Spaces.{after_space-empty}
use Rattle.mi_commands.proofs.report.entry_report.Goals as goal

pub returns-then-is_empty : goal.returns-then-is_empty
returns-then-is_empty c =
    let none : length c.throw_text-text.result.now ≡ 0 = search rules in
    let known : length (throw_text_of c.args.code) ≡ 0 = search rules in
    let empty : after_space (throw_text_of c.args.code) ≡ [] = after_space-empty _ known in
    rw empty (search rules)
