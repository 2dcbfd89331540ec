-- The words of a command.
use Rattle.std.proofs.Common.{◌≡◌, ◌≤◌, ◌<◌, ℕ, List, [], ◌∷◌, None, Some, refl, ap, arith, length}
use Rattle.mi_commands.specs.Settings.{Settings}
use Rattle.mi_commands.specs.Command.{build_of}
use Rattle.mi_commands.specs.Command.Command.{Build}

-- OUT or the source is missing
pub too_few : (words : List (List ℕ)) (settings : Settings) → length words < 2 → build_of words settings ≡ None
too_few [] settings h = refl
too_few (out ∷ []) settings h = refl
too_few (out ∷ (source ∷ sources)) settings h = absurd (omega (arith, h))

-- OUT and the sources
pub command_is : (words sources : List (List ℕ)) (out : List ℕ) (settings : Settings) → words ≡ out ∷ sources → 2 ≤ length words → build_of words settings ≡ Some (Build out sources settings)
command_is words [] out settings is enough = absurd (omega (arith, ap (λ (ws : List (List ℕ)). length ws) is, enough))
command_is words (source ∷ sources) out settings is enough = ap (λ (ws : List (List ℕ)). build_of ws settings) is
