-- What a run means to do: what the run of an image comes to, where no memory is refused and nothing outside fails.
use Rattle.std.specs.Prelude.{ℕ, ◌≡◌, ◌≤◌, ◌⊎◌, ◌++◌, ◌==◌, ◌&&◌, Bool, true, false, not, cond, List, [], ◌∷◌, length, Option, None, Some, Result, Ok, Err}
use Rattle.mi_model.specs.declared.Pair.{Pair}
use Rattle.mi_model.specs.declared.Kind.{Kind}
use Rattle.mi_model.specs.declared.Kind.TheVariants.{Relocatable, Fixed}
use Rattle.mi_model.specs.Pairs.{first_pair}
use Rattle.mi_model.specs.Image.{ImageRecord}
use Rattle.mi_model.specs.Origin.{is_data_base, is_code_base}
use Rattle.mi_model.specs.Run.{RunEnd, Run, input_limit}
use Rattle.mi_model.specs.Run.RunEnd.{Bye, Thrown, Spent as OutOfTurns, InputTooLong as TooLong, Broken}
use Rattle.mi_image.specs.declared.fault.ImageFault.{ImageFault}
use Rattle.mi_image.specs.declared.fault.ImageFault.TheVariants.{NotImage as PartBroken, Truncated as EndsEarly, TooLarge as NumberTooLarge, NoMemory as OutOfMemory}
use Rattle.mi_image.specs.Grammar.{first_broken, ends_early, spelled}
use Rattle.mi_outside.specs.Written.{EmitsFront}
use Rattle.mi_run.specs.Ending.{run_of}
use Rattle.mi_run.specs.Waits.{run_taken_of}
use Rattle.mi_commands.specs.declared.outcome.Outcome.{Outcome}
use Rattle.mi_commands.specs.declared.outcome.Outcome.TheVariants.{NoMemory, NoFile, Spent, Done, NotImage, Truncated, TooLarge, MadeFor, PairNotAllowed, EntryThrown, InputTooLong}
use Rattle.mi_commands.specs.declared.command_line.RunSettings.{RunSettings}
use Rattle.mi_commands.specs.Command.{given_or}
use Rattle.mi_commands.specs.Meant.{Meant}
use Rattle.mi_commands.specs.Output.{with_report, EmitsAndLine}
use Rattle.mi_commands.specs.Report.{report_of}

-- the outcome where the bytes of this file are refused as those of an image
abbrev pub outcome_of_image_fault : (file : ℕ) → ImageFault → Outcome
outcome_of_image_fault file (PartBroken place part) = NotImage file place part
outcome_of_image_fault file (EndsEarly place) = Truncated file place
outcome_of_image_fault file (NumberTooLarge part value) = TooLarge file part value
outcome_of_image_fault file OutOfMemory = NoMemory

-- a refusal for the first broken part, or else for bytes that end early, or else the image that they spell
abbrev pub image_or_fault : (bytes : List ℕ) → (broken : Option ImageFault) → Result ImageRecord Outcome
image_or_fault bytes (Some fault) = Err (outcome_of_image_fault 1 fault)
image_or_fault bytes None = cond (ends_early bytes) (Err (Truncated 1 (length bytes))) (Ok (spelled bytes))

-- the image of a file with this content
abbrev pub image_read : (content : Option (List ℕ)) → Result ImageRecord Outcome
image_read None = Err (NoFile 1)
image_read (Some bytes) = image_or_fault bytes (first_broken bytes)

-- a fixed image's own pair, and the usual one for an image that may stand at any
abbrev pub usual_pair : Kind → (own : Pair) → Pair
usual_pair Relocatable own = first_pair
usual_pair Fixed own = own

-- the pair of a run: a base that isn't given is that of the usual pair
abbrev pub pair_of_run : RunSettings → ImageRecord → Pair
pair_of_run settings image = record {
  d = given_or settings.data_base (usual_pair image.kind image.pair).d;
  k = given_or settings.code_base (usual_pair image.kind image.pair).k;
}

-- may an image stand at the pair
abbrev pub is_allowed : Pair → Bool
is_allowed pair = is_data_base pair.d && is_code_base pair.k

-- is the image a fixed one of another pair
abbrev pub is_of_other : Kind → (own pair : Pair) → Bool
is_of_other Relocatable own pair = false
is_of_other Fixed own pair = not (own.d == pair.d && own.k == pair.k)

-- the outcome of a run, and what it emits
pub record Ending : Type 0 where
  pub outcome : Outcome
  pub emitted : List ℕ

-- nothing is run
abbrev pub refusal : Outcome → Ending
refusal outcome = record { outcome = outcome; emitted = [] }

-- the outcome of a run that ends so; no operation on plain numbers is refused, so no run is broken
abbrev pub outcome_of_end : RunEnd → (turns : ℕ) → Outcome
outcome_of_end Bye turns = Done
outcome_of_end (Thrown code) turns = EntryThrown code
outcome_of_end OutOfTurns turns = Spent turns
outcome_of_end TooLong turns = InputTooLong
outcome_of_end (Broken fault) turns = NoMemory

-- the run of an image at a pair where it may stand
unfoldable pub ending_of : ImageRecord → Pair → (input : List ℕ) → (turns : ℕ) → Ending
ending_of image pair input turns =
    record { outcome = outcome_of_end (run_of image pair input turns).end turns; emitted = (run_of image pair input turns).output }

-- the run of an image at any pair: first it is judged whether an image may stand there, and then whether this one may
abbrev pub ending_at : ImageRecord → Pair → (input : List ℕ) → (turns : ℕ) → Ending
ending_at image pair input turns =
    cond (is_allowed pair)
    (cond (is_of_other image.kind image.pair pair) (refusal (MadeFor image.pair)) (ending_of image pair input turns))
    (refusal (PairNotAllowed pair))

-- the same, where there is an image
abbrev pub ending_of_image : RunSettings → Result ImageRecord Outcome → (input : List ℕ) → Ending
ending_of_image settings (Ok image) input = ending_at image (pair_of_run settings image) input settings.turns
ending_of_image settings (Err outcome) input = refusal outcome

-- the run of the image in a file with this content
abbrev pub ending_of_file : RunSettings → (content : Option (List ℕ)) → (input : List ℕ) → Ending
ending_of_file settings content input = ending_of_image settings (image_read content) input

-- what is to be written for it
abbrev pub run_bytes : (image : List ℕ) → Ending → List ℕ
run_bytes image ending = with_report ending.emitted (report_of [] (image ∷ []) ending.outcome)

-- `run IMG`, where that file has this content and the input these bytes
abbrev pub run_meant : (image : List ℕ) → RunSettings → (content : Option (List ℕ)) → (input : List ℕ) → Meant
run_meant image settings content input = record {
  outcome = (ending_of_file settings content input).outcome;
  emitted = (ending_of_file settings content input).emitted;
  report = report_of [] (image ∷ []);
  stored = None;
  reads_input = true;
}

-- The input failed. Of its bytes some were taken, and the rest is left; with those that were taken the run comes to the wait for
-- the first line whose LF isn't among them. What it emits up to that wait was written, and then at most one line feed.
pub record StopsInLines (run : List ℕ → Run) (text rest : List ℕ) (old new : Option (List ℕ)) : Type 0 where
  pub taken : List ℕ
  pub is : text ≡ taken ++ rest
  pub within : length taken ≤ input_limit
  pub reached : (run taken).end ≡ TooLong
  pub written : EmitsAndLine old new (run taken).output

-- and then a front of the report
abbrev pub BreaksOff : (run : List ℕ → Run) → (text rest report : List ℕ) → Option (List ℕ) → Option (List ℕ) → Type 0
BreaksOff run text rest report old new = (between : Option (List ℕ)) × StopsInLines run text rest old between × EmitsFront between new report

-- where a run of the file with this content ends by a read fault: the file wasn't read, so nothing was run, or its image was run
-- and the input failed
abbrev pub FailsToRead : RunSettings → (content : Option (List ℕ)) → (text rest report : List ℕ) → Option (List ℕ) → Option (List ℕ) → Type 0
FailsToRead settings content text rest report old new =
    ((rest ≡ text) × EmitsFront old new report)
    ⊎ ((image : ImageRecord) × (image_read content ≡ Ok image) × BreaksOff (run_taken_of image (pair_of_run settings image) settings.turns) text rest report old new)
