-- What a command means to do, and how far a call did it.
use Rattle.std.specs.Prelude.{ℕ, ◌≡◌, ◌≢◌, ◌⊎◌, Bool, true, List, Option, None, Some}
use Rattle.mi_outside.specs.Causes.{Rose}
use Rattle.mi_outside.specs.Holding.{Holding, SameFiles}
use Rattle.mi_outside.specs.Telling.{IfStillTold}
use Rattle.mi_outside.specs.Written.{Emits}
use Rattle.mi_commands.specs.declared.outcome.Outcome.{Outcome}
use Rattle.mi_commands.specs.declared.outcome.Outcome.TheVariants.{NoMemory}
use Rattle.mi_commands.specs.Outcomes.{status_of, IsFault}
use Rattle.mi_commands.specs.Outside.{Outside}
use Rattle.mi_commands.specs.Output.{with_report, AddsLines}
use Rattle.mi_commands.specs.Writing.{part_of, IsInPlace}

-- a file that is written by way of its part
pub record StoredFile : Type 0 where
  pub name : List ℕ
  pub bytes : List ℕ

-- What a command means to do, where no memory is refused and nothing outside fails: its outcome, what its sources or its run
-- emit, how each outcome is reported, the file that it stores, if it does, and whether it reads the input.
pub record Meant : Type 0 where
  pub outcome : Outcome
  pub emitted : List ℕ
  pub report : Outcome → List ℕ
  pub stored : Option StoredFile
  pub reads_input : Bool

-- all that it writes to the output: what is emitted, in whole lines where a report follows, and the report
abbrev pub bytes_of : Meant → List ℕ
bytes_of meant = with_report meant.emitted (meant.report meant.outcome)

-- the file has its bytes, its part is gone and no other file changed; without one, no file changed
abbrev pub Stores : Option StoredFile → Option Holding → Option Holding → Type 0
Stores None before after = IfStillTold before after SameFiles
Stores (Some file) before after = IfStillTold before after (IsInPlace (part_of file.name) file.name file.bytes)

-- a call answered, wrote and stored all that is meant
pub record DoesAll (meant : Meant) (outcome : Outcome) (before after : Outside) : Type 0 where
  pub answered : outcome ≡ meant.outcome
  pub written : Emits before.written after.written (bytes_of meant)
  pub stored : Stores meant.stored before.held after.held

-- a count of faults rose of what the command uses: files and output, and the input if it reads it
abbrev pub HasFailed : Meant → (before after : Outside) → Type 0
HasFailed meant before after =
    Rose before.file_faults after.file_faults ⊎ Rose before.output_faults after.output_faults ⊎ ((meant.reads_input ≡ true) × Rose before.input_faults after.input_faults)

-- What a call does whose command means this. It answers that outcome or a fault. With status 0 it did all that is meant,
-- whatever counts of faults rose; so it did where none rose and there was memory. Always it wrote a front of what is
-- meant, then at most one line feed, then a front of the report of what it answers.
pub record Does (meant : Meant) (outcome : Outcome) (before after : Outside) : Type 0 where
  pub answered : IsFault outcome ⊎ (outcome ≡ meant.outcome)
  pub succeeded : status_of outcome ≡ 0 → DoesAll meant outcome before after
  pub unfailed : outcome ≢ NoMemory → (HasFailed meant before after → ⊥) → DoesAll meant outcome before after
  pub front : IfStillTold before.written after.written (AddsLines (bytes_of meant) (meant.report outcome))
