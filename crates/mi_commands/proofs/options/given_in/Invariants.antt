-- What the words that are left give is what all words give.
use Rattle.std.proofs.Common.{◌≡◌, None, length, map, string_bytes}
use Rattle.mi_commands.specs.Options.{given_in, given_in_bytes, none_given, AreWithin}
use Rattle.mi_commands.proofs.options.given_in.Given as goal

abbrev pub invariant-words : goal.invariant-words
invariant-words l =
    record {
      same : given_in l.reading.awaited (map string_bytes l.left) (given_in_bytes l.reading.given) ≡ given_in None (map string_bytes l.fn.words) none_given;
      within : AreWithin l.reading.given;
    }

abbrev pub decreases-words : goal.decreases-words
decreases-words l = length l.left
