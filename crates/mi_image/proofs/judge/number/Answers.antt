use Rattle.std.proofs.Common.{take, ap, ◌∙◌}
use Rattle.std.specs.Int.{w64, from_le_bytes}
use Rattle.mi_image.specs.Grammar.{number_at}
use Rattle.mi_image.proofs.judge.number.Goals as goal

pub returns : goal.returns
unfolding number_at
returns c =
    let chunk = rw c.unwrap.ensures at c.first_chunk.ensures.cases in
    c.from_le_bytes.ensures ∙ ap (from_le_bytes w64) (chunk.same ∙ ap (take 8) c.split_at.ensures.back)
