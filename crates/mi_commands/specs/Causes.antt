-- The cause of each answer.
use Rattle.std.specs.Prelude.{ℕ, ◌≡◌, ◌⊎◌, List, map, Option, None, Some, IfSome, Ok}
use Rattle.mi_outside.specs.Holding.{Holding}
use Rattle.mi_model.specs.declared.Pair.{Pair}
use Rattle.mi_reloc.specs.declared.ending.RunEnd.{RunEnd}
use Rattle.mi_reloc.specs.declared.ending.RunEnd.TheVariants as run_ends
use Rattle.mi_commands.specs.declared.outcome.Outcome.{Outcome}
use Rattle.mi_commands.specs.declared.outcome.Outcome.TheVariants.{NoMemory, ReadFault, WriteFault, Spent, Done, MadeFor, PairNotAllowed, EntryThrown, InputTooLong}
use Rattle.mi_commands.specs.declared.command_line.RunSettings.{RunSettings}
use Rattle.mi_commands.specs.Outcomes.{IsFault}
use Rattle.mi_commands.specs.Settings.{Settings}
use Rattle.mi_commands.specs.commands.Build.{contents_of, sources_read, outcome_of_texts, outcome_of_sources}
use Rattle.mi_commands.specs.commands.Run.{ending_of_file}

-- the sources have these texts where the files tell
abbrev pub HaveTexts : (sources texts : List (List ℕ)) → Option Holding → Type 0
HaveTexts sources texts held = IfSome held (λ old. contents_of old sources ≡ map (λ text. Some text) texts)

-- and none of them is refused
abbrev pub AreRead : (sources texts : List (List ℕ)) → Option Holding → Type 0
AreRead sources texts held = IfSome held (λ old. sources_read (contents_of old sources) ≡ Ok texts)

-- a fault, or what the texts come to
abbrev pub ComesOfTexts : Outcome → Settings → (texts : List (List ℕ)) → Type 0
ComesOfTexts outcome settings texts = IsFault outcome ⊎ (outcome ≡ outcome_of_texts settings texts)

-- a fault, or what the sources come to that the files hold as the call begins
abbrev pub ComesOfSources : Outcome → Settings → (sources : List (List ℕ)) → Option Holding → Type 0
ComesOfSources outcome settings sources held = IsFault outcome ⊎ IfSome held (λ old. outcome ≡ outcome_of_sources settings (contents_of old sources))

-- a fault, or what the run of the image comes to that the files hold as the call begins, with the input that is left then
abbrev pub ComesOfRun : Outcome → RunSettings → (image : List ℕ) → Option Holding → (left : Option (List ℕ)) → Type 0
ComesOfRun outcome settings image held left =
    IsFault outcome ⊎ IfSome held (λ old. IfSome left (λ input. outcome ≡ (ending_of_file settings (old.file image) input).outcome))

-- the outcome of a run at a pair that answers this
abbrev pub outcome_of_answer : RunEnd → Pair → Outcome
outcome_of_answer run_ends.Bye pair = Done
outcome_of_answer (run_ends.Thrown code) pair = EntryThrown code
outcome_of_answer (run_ends.Spent turns) pair = Spent turns
outcome_of_answer run_ends.ReadFault pair = ReadFault
outcome_of_answer run_ends.WriteFault pair = WriteFault
outcome_of_answer run_ends.InputTooLong pair = InputTooLong
outcome_of_answer run_ends.PairNotAllowed pair = PairNotAllowed pair
outcome_of_answer (run_ends.MadeFor other) pair = MadeFor other
outcome_of_answer run_ends.NoMemory pair = NoMemory
