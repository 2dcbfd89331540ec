-- What reading a source file answers, and what it leaves.
use Rattle.std.specs.Prelude.{◌≡◌, ◌<◌, ◌+◌, ◌⊎◌, ℕ, List, ◌∷◌, ◌++◌, length, Option, Some, None, Result, Ok, Err, IfSome, IsSomeAnd, Vec}
use Rattle.std.specs.declared.alloc.Global.{Global}
use Rattle.mi_outside.specs.Holding.{Holding, SameFiles}
use Rattle.mi_commands.specs.declared.reading.ReadProblem.{ReadProblem}
use Rattle.mi_commands.specs.declared.reading.ReadProblem.TheVariants.{Missing, TooLong, Fault, NoMemory}
use Rattle.mi_commands.specs.declared.outcome.Outcome.{Outcome}
use Rattle.mi_commands.specs.declared.outcome.Outcome.TheVariants.{NoFile, SourceTooLong, ReadFault, NoMemory as OutOfMemory}
use Rattle.mi_commands.specs.Limits.{source_limit}
use Rattle.mi_commands.specs.Outcomes.{IsFault}
use Rattle.mi_commands.specs.commands.Build.{read_from}

-- the answer of reading a source file
abbrev pub Answer : Type 0
Answer = Result (Vec ℕ Global) ReadProblem

-- the answer is right for a file with this content, or for none
abbrev pub AnswersFor : Answer → Option (List ℕ) → Type 0
AnswersFor (Ok text) content = content ≡ Some text.items
AnswersFor (Err Missing) content = content ≡ None
AnswersFor (Err TooLong) content = IsSomeAnd content (λ bytes. source_limit < length bytes)
AnswersFor (Err Fault) content = Unit {0}
AnswersFor (Err NoMemory) content = Unit {0}

-- the answer is one that a file that is not there may have
abbrev pub HasNoText : Answer → Type 0
HasNoText (Ok text) = ⊥
HasNoText (Err Missing) = Unit {0}
HasNoText (Err TooLong) = ⊥
HasNoText (Err Fault) = Unit {0}
HasNoText (Err NoMemory) = Unit {0}

-- the answer is right for the named file; no file changed, and the same one is being written
pub record ReadsSource (result : Answer) (name : List ℕ) (old new : Holding) : Type 0 where
  pub answer : AnswersFor result (old.file name)
  pub files : SameFiles old new
  pub writing : new.writing ≡ old.writing

-- the outcome of a build where this file was not read
abbrev pub outcome_of_problem : (file : ℕ) → ReadProblem → Outcome
outcome_of_problem file Missing = NoFile file
outcome_of_problem file TooLong = SourceTooLong file
outcome_of_problem file Fault = ReadFault
outcome_of_problem file NoMemory = OutOfMemory

-- the texts so far, and those behind them
abbrev pub behind_texts : (texts : List (List ℕ)) → Result (List (List ℕ)) Outcome → Result (List (List ℕ)) Outcome
behind_texts texts (Ok rest) = Ok (texts ++ rest)
behind_texts texts (Err outcome) = Err outcome

-- the text of the named file was put behind the others, where the files tell
abbrev pub TakesSource : (name : List ℕ) → (old new : List (List ℕ)) → Holding → Type 0
TakesSource name old new held = (rest : List (Option (List ℕ))) →
    behind_texts old (read_from (length old + 1) (held.file name ∷ rest)) ≡ behind_texts new (read_from (length new + 1) rest)

-- a fault, or the refusal of the named file, with so many sources before it, where the files tell
abbrev pub RefusesSource : (name : List ℕ) → (before : ℕ) → Outcome → Option Holding → Type 0
RefusesSource name before outcome held = IsFault outcome ⊎ IfSome held (λ old. (rest : List (Option (List ℕ))) → read_from (before + 1) (old.file name ∷ rest) ≡ Err outcome)
