-- What an answer claims of the fresh plain build of the texts at every base pair at which an image may stand.
use Rattle.std.specs.Prelude.{ℕ, ◌≡◌, List, Option, None, Some, Ok, IfSome}
use Rattle.mi_model.specs.declared.Fault.TheVariants.{Throw}
use Rattle.mi_model.specs.declared.Form.{Form}
use Rattle.mi_model.specs.declared.Found.TheVariants.{Form as AForm, Mixed}
use Rattle.mi_model.specs.declared.Pair.{Pair}
use Rattle.mi_model.specs.Pairs.{IsAllowedPair}
use Rattle.mi_model.specs.Forms.{value_at}
use Rattle.mi_model.specs.Build.{Build, RefusedStep}
use Rattle.mi_model.specs.Build.BuildEnd.{Failed, Refused, EntryMissing, Spent as OutOfTurns}
use Rattle.mi_model.specs.Image.{ImageRecord, IsImage, loaded}
use Rattle.mi_outside.specs.Holding.{Holding}
use Rattle.mi_reloc.specs.Cells.{cell_from}
use Rattle.mi_build.specs.EveryPair.{EmitsFirst}
use Rattle.mi_build.specs.Made.{IsDone}
use Rattle.mi_build.specs.Reached.{Reaches}
use Rattle.mi_commands.specs.declared.outcome.Outcome.{Outcome}
use Rattle.mi_commands.specs.declared.outcome.Outcome.TheVariants.{Built, NoMemory, Usage, ReadFault, NoFile, WriteFault, TooManySources, SourceTooLong, Thrown, Spent, NoEntry, Step, Cell, Done, NotImage, Truncated, TooLarge, MadeFor, PairNotAllowed, EntryThrown, InputTooLong}
use Rattle.mi_commands.specs.Command.{Command}
use Rattle.mi_commands.specs.Command.Command.{Build as BuildCommand, Run as RunCommand}
use Rattle.mi_commands.specs.Settings.{Settings}
use Rattle.mi_commands.specs.Builds.{build_at, build_over_origins}
use Rattle.mi_commands.specs.commands.Build.{contents_of, sources_read}

-- A fresh build at a pair ends as is answered, and emits these bytes, which are those that were written. Where an operation
-- had no answer for every pair, they are the first of what it emits; where a cell is no cell of an image, the build is done,
-- and has the value of the form in that cell. Other answers say nothing of the build.
abbrev pub HoldsAt : Outcome → (output : List ℕ) → Pair → Build ℕ ℕ → Type 0
HoldsAt (Built used turns) output pair build = IsDone build.end (λ m u t. (u ≡ used) × (t ≡ turns)) × (build.output ≡ output)
HoldsAt (Thrown code file line) output pair build = (build.end ≡ Failed (Throw code) file line) × (build.output ≡ output)
HoldsAt (Spent turns) output pair build = (build.end ≡ OutOfTurns turns) × (build.output ≡ output)
HoldsAt NoEntry output pair build = (build.end ≡ EntryMissing) × (build.output ≡ output)
HoldsAt (Step number offset tag first second why file line) output pair build = EmitsFirst output build
HoldsAt (Cell offset (AForm x)) output pair build = IsDone build.end (λ m u t. cell_from m.bytes offset ≡ value_at x pair) × (build.output ≡ output)
HoldsAt (Cell offset Mixed) output pair build = IsDone build.end (λ m u t. Unit {0}) × (build.output ≡ output)
HoldsAt NoMemory output pair build = Unit {0}
HoldsAt Usage output pair build = Unit {0}
HoldsAt ReadFault output pair build = Unit {0}
HoldsAt (NoFile file) output pair build = Unit {0}
HoldsAt WriteFault output pair build = Unit {0}
HoldsAt (TooManySources count) output pair build = Unit {0}
HoldsAt (SourceTooLong file) output pair build = Unit {0}
HoldsAt Done output pair build = Unit {0}
HoldsAt (NotImage file place part) output pair build = Unit {0}
HoldsAt (Truncated file place) output pair build = Unit {0}
HoldsAt (TooLarge file part value) output pair build = Unit {0}
HoldsAt (MadeFor other) output pair build = Unit {0}
HoldsAt (PairNotAllowed other) output pair build = Unit {0}
HoldsAt (EntryThrown code) output pair build = Unit {0}
HoldsAt InputTooLong output pair build = Unit {0}

-- loading the image gives the region of the fresh build at every pair
abbrev pub GivesEveryRegion : ImageRecord → Settings → (texts : List (List ℕ)) → Type 0
GivesEveryRegion r settings texts = (pair : Pair) → IsAllowedPair pair → IsDone (build_at pair settings texts).end (λ m u t. loaded r pair ≡ m.bytes)

-- the outcome where an operation was refused
abbrev pub outcome_of_step : RefusedStep → Outcome
outcome_of_step s = Step s.number s.token.offset s.token.tag s.first s.second s.why s.file s.line

-- An answer claims that of the fresh build at every pair. Where it names a cell with the form that stands there, no image gives
-- the regions of these builds. Where it names an instruction, each of these builds takes the instructions before it, and then
-- comes to the operation that was refused.
pub record Claims (outcome : Outcome) (settings : Settings) (texts : List (List ℕ)) : Type 0 where
  pub every_pair : (pair : Pair) → IsAllowedPair pair → HoldsAt outcome (build_over_origins settings texts).output pair (build_at pair settings texts)
  pub no_image : (offset : ℕ) (x : Form) → outcome ≡ Cell offset (AForm x) → (r : ImageRecord) → IsImage r → ¬ (GivesEveryRegion r settings texts)
  pub reached : (s : RefusedStep) (pair : Pair) → IsAllowedPair pair → outcome ≡ outcome_of_step s → (build_over_origins settings texts).end ≡ Refused s
      → Reaches s pair settings.size texts settings.turns (build_over_origins settings texts).output

-- the same of the texts that the sources have as the call begins, where the files tell that and no source is refused
abbrev pub ClaimsOfSources : Outcome → Settings → (sources : List (List ℕ)) → Option Holding → Type 0
ClaimsOfSources outcome settings sources held = IfSome held (λ old. (texts : List (List ℕ)) → sources_read (contents_of old sources) ≡ Ok texts → Claims outcome settings texts)

-- the same for the words of the command line; a run and words that are no command claim nothing of a build
abbrev pub MakesClaims : Option Command → Outcome → Option Holding → Type 0
MakesClaims None outcome held = Unit {0}
MakesClaims (Some (BuildCommand out sources settings)) outcome held = ClaimsOfSources outcome settings sources held
MakesClaims (Some (RunCommand image settings)) outcome held = Unit {0}
