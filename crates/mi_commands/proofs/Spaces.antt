use Rattle.std.proofs.Common.{◌≡◌, ℕ, List, [], length, refl, ◌∷◌}
use Rattle.mi_commands.specs.Report.{after_space}

-- an empty text has no space before it
pub after_space-empty : (t : List ℕ) → length t ≡ 0 → after_space t ≡ []
after_space-empty [] e = refl
after_space-empty (x ∷ t) e = cc
