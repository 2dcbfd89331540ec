-- The positional words so far, and those that are left.
use Rattle.std.proofs.Common.{◌≡◌, ◌≤◌, ◌+◌, false, length, map, string_bytes}
use Rattle.mi_commands.specs.Options.{positional_in}
use Rattle.mi_commands.proofs.options.count_positional.Given as goal

abbrev pub invariant-words : goal.invariant-words
invariant-words l =
    record {
      same : l.count + length (positional_in l.value_next (map string_bytes l.left)) ≡ length (positional_in false (map string_bytes l.fn.words));
      within : l.count + length l.left ≤ length l.fn.words;
    }

abbrev pub decreases-words : goal.decreases-words
decreases-words l = length l.left
