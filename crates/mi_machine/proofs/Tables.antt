-- What the instruction table says of numbers that are no tags.
use Rattle.std.proofs.Common.{◌≡◌, ℕ, ◌≤◌}
use Rattle.std.proofs.lemmas.List.{get_or_past}
use Rattle.mi_model.specs.Machine.{undefined_word}
use Rattle.mi_model.specs.Action.Action.{Throws}
use Rattle.mi_model.specs.Kernel.{whole_kernel}
use Rattle.mi_model.specs.Table.{action_of, table}

-- 120 and more are no tags
pub not_a_tag : (t : ℕ) → 120 ≤ t → action_of whole_kernel t ≡ Throws undefined_word
unfolding action_of table
not_a_tag t h = get_or_past table t (Throws undefined_word) h
