-- The name of a tag is a text.
use Rattle.std.proofs.Common.{◌<◌, List, ℕ, sym, subst, arith}
use Rattle.std.specs.Str.{IsUtf8}
use Rattle.mi_commands.proofs.TagNames.{name_is_text}
use Rattle.mi_commands.proofs.report.word_name.Goals as goal

pub returns-in-Err : goal.returns-in-Err
returns-in-Err c =
    let below : c.args.tag < 120 = omega (arith, c.if-tag-ge-TAGS.false) in
    absurd (c.in-Err.ensures.cases.0 (subst (λ (bs : List ℕ). IsUtf8 bs) (sym c.name.ensures.name) (name_is_text c.args.tag below)))
