-- The actions of words that differ only in a tag or a flag.
use Rattle.std.specs.Prelude.{ℕ, [], ◌∷◌}
use Rattle.mi_model.specs.Action.{Action, ◌>>=◌, ◌>>◌, action_by, call}
use Rattle.mi_model.specs.Action.AnswerKind.{Effects}
use Rattle.mi_model.specs.Parts.{two_in, drop, room}
use Rattle.mi_model.specs.Branching.{dest, require_kind, lay_branch}
use Rattle.mi_model.specs.Defining.{set_flag}
use Rattle.mi_model.specs.Values.{assign}

-- ( d 2 -- ): compiles the word of a tag and d
abbrev pub branch_back : (tag : ℕ) → Action Effects
branch_back tag = action_by do
  (d, kind) ← two_in 0 0
  require_kind kind dest
  p ← call (room 2) []
  call (lay_branch tag p) (d ∷ [])
  drop 2

-- LATEST gets a flag
abbrev pub flag_newest : (flag : ℕ) → Action Effects
flag_newest flag = action_by (call (set_flag flag) [])

-- the next name of the source, a word with the code of this tag, is given an item
abbrev pub change : (tag : ℕ) → Action Effects
change tag = action_by (call (assign tag) [])
