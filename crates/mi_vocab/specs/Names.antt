-- Which names are the same.
use Rattle.std.specs.Prelude.{◌≡◌, ℕ, ◌<◌, List, map}
use Rattle.mi_model.specs.Characters.{folded}
use Rattle.mi_model.specs.Tags.{name_of}

-- two names are the same, letters folded
abbrev pub AreSame : List ℕ → List ℕ → Type 0
AreSame a b = map folded a ≡ map folded b

-- the word of this tag has that name
abbrev pub IsOf : ℕ → List ℕ → Type 0
IsOf t name = (t < 120) × AreSame name (name_of t)
