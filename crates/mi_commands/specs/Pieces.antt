-- What reading a file piece by piece does.
use Rattle.std.specs.Prelude.{◌≡◌, ◌<◌, ℕ, List, ◌++◌, length, Bool, true, false, Option, Some, Result, Ok, Err}
use Rattle.mi_outside.specs.Holding.{Holding, SameFiles}
use Rattle.mi_commands.specs.declared.reading.ReadProblem.{ReadProblem}
use Rattle.mi_commands.specs.declared.reading.ReadProblem.TheVariants.{Missing, TooLong, Fault, NoMemory}
use Rattle.mi_commands.specs.Limits.{source_limit}
use Rattle.mi_commands.specs.Reading.{Answer, AnswersFor}

-- the text grew by what is no longer left, or nothing was left, or text and rest are too long
abbrev pub PieceFits : Result Bool ReadProblem → List ℕ → List ℕ → List ℕ → Option (List ℕ) → Type 0
PieceFits (Ok true) before after rest reading =
    (left : List ℕ) × (reading ≡ Some left) × (before ++ rest ≡ after ++ left)
PieceFits (Ok false) before after rest reading = before ++ rest ≡ after
PieceFits (Err Missing) before after rest reading = ⊥
PieceFits (Err TooLong) before after rest reading = source_limit < length (before ++ rest)
PieceFits (Err Fault) before after rest reading = Unit {0}
PieceFits (Err NoMemory) before after rest reading = Unit {0}

-- the next piece of the file being read went into the text; no file changed
pub record ReadsPiece (result : Result Bool ReadProblem) (before after : List ℕ) (old new : Holding) : Type 0 where
  pub piece : (rest : List ℕ) → old.reading ≡ Some rest → PieceFits result before after rest new.reading
  pub files : SameFiles old new
  pub writing : new.writing ≡ old.writing

-- the answer is right for what was left of the file being read; no file changed
pub record ReadsRest (result : Answer) (old new : Holding) : Type 0 where
  pub answer : (rest : List ℕ) → old.reading ≡ Some rest → AnswersFor result (Some rest)
  pub files : SameFiles old new
  pub writing : new.writing ≡ old.writing
