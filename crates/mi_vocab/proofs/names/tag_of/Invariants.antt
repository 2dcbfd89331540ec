-- No tag so far has the name.
use Rattle.std.proofs.Common.{ℕ, ◌<◌}
use Rattle.mi_model.specs.Tags.{name_of}
use Rattle.mi_vocab.specs.Names.{AreSame}
use Rattle.mi_vocab.proofs.names.tag_of.Given as goal

abbrev pub invariant-loop-tag : goal.invariant-loop-tag
invariant-loop-tag l = (k : ℕ) → k < l.tag → ¬ (AreSame l.name (name_of k))
