-- A word that may be the only one.
use Rattle.std.proofs.Common.{◌≡◌, ℕ, List, [], ◌∷◌, ◌++◌, Option, None, Some, ap, length, arith}
use Rattle.std.specs.Borrow.{Bor}
use Rattle.std.specs.Option.{option_copied}
use Rattle.mi_commands.specs.Options.{only_of}

-- the word that was found, as a list
abbrev pub found_words : Option (Bor (List ℕ)) → List (List ℕ)
found_words None = []
found_words (Some word) = word.now ∷ []

-- no word is left
pub all_found : (found : Option (Bor (List ℕ))) (left words : List (List ℕ)) → length left ≡ 0 → found_words found ++ left ≡ words → option_copied found ≡ only_of words
all_found None [] words none same = ap only_of same
all_found (Some word) [] words none same = ap only_of same
all_found found (word ∷ left) words none same = absurd (omega (arith, none))
