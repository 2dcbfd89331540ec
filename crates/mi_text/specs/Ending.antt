-- The end of a line.
use Rattle.std.specs.Prelude.{ℕ, ◌==◌, Bool, true, false, cond, ◌&&◌, List, [], ◌∷◌}

abbrev pub is_empty : List ℕ → Bool
is_empty [] = true
is_empty (c ∷ cs) = false

-- the bytes of a line, without a CR at their end
abbrev pub without_last_cr : List ℕ → List ℕ
without_last_cr [] = []
without_last_cr (c ∷ cs) = cond ((c == 13) && is_empty cs) [] (c ∷ without_last_cr cs)
