-- What the program does to files and output.
use Rattle.std.specs.Prelude.{ℕ, ◌≡◌, ◌≢◌, ◌++◌, List, Option, None, Some, IfSome}
use Rattle.mi_model.specs.declared.Kind.TheVariants.{Relocatable}
use Rattle.mi_model.specs.declared.Pair.{Pair}
use Rattle.mi_model.specs.Pairs.{IsAllowedPair}
use Rattle.mi_model.specs.Image.{ImageRecord, IsImage, image_bytes, loaded}
use Rattle.mi_model.specs.Kernel.{whole_kernel}
use Rattle.mi_model.specs.Plain.{plain_ops}
use Rattle.mi_model.specs.Run.{run}
use Rattle.mi_outside.specs.Holding.{Holding, SameFiles, SameFilesBut}
use Rattle.mi_outside.specs.Telling.{IfStillTold}
use Rattle.mi_build.specs.Made.{IsDone}
use Rattle.mi_run.specs.Ending.{run_of}
use Rattle.mi_commands.specs.declared.outcome.Outcome.{Outcome}
use Rattle.mi_commands.specs.declared.outcome.Outcome.TheVariants.{Built, NoMemory, Usage, ReadFault, NoFile, WriteFault, TooManySources, SourceTooLong, Thrown, Spent, NoEntry, Step, Cell, Done, NotImage, Truncated, TooLarge, MadeFor, PairNotAllowed, EntryThrown, InputTooLong}
use Rattle.mi_commands.specs.Command.{Command}
use Rattle.mi_commands.specs.Command.Command.{Build as BuildCommand, Run as RunCommand}
use Rattle.mi_commands.specs.Settings.{Settings}
use Rattle.mi_commands.specs.Report.{report_of}
use Rattle.mi_commands.specs.Builds.{build_at, build_over_origins}
use Rattle.mi_commands.specs.Causes.{HaveTexts, AreRead}
use Rattle.mi_commands.specs.commands.Build.{contents_of, outcome_of_texts, image_of_texts, image_of_sources}
use Rattle.mi_commands.specs.Output.{in_lines}
use Rattle.mi_commands.specs.Writing.{part_of, LeavesNoPart, IsInPlace}

-- An image serves some texts at a pair: the fresh build there is done with what loading the image there gives, byte for
-- byte, so that a run of the loaded image is a run of that region, for every input and every number of turns. What is in use
-- and the turns are as told, and it emits what the build over origins does, which is what is written.
pub record ServesAt (image : ImageRecord) (used turns : ℕ) (settings : Settings) (texts : List (List ℕ)) (pair : Pair) : Type 0 where
  pub region : IsDone (build_at pair settings texts).end (λ m u t. (loaded image pair ≡ m.bytes) × (u ≡ used) × (t ≡ turns))
  pub runs : IsDone (build_at pair settings texts).end (λ m u t. (input : List ℕ) (n : ℕ) → run_of image pair input n ≡ run whole_kernel (plain_ops pair settings.size) m.bytes input n)
  pub emits : (build_at pair settings texts).output ≡ (build_over_origins settings texts).output

-- an image serves some texts at every pair at which an image may stand
pub record ServesEveryPair (image : ImageRecord) (used turns : ℕ) (settings : Settings) (texts : List (List ℕ)) : Type 0 where
  pub within_limits : IsImage image
  pub relocatable : image.kind ≡ Relocatable
  pub size : image.size ≡ settings.size
  pub in_use : image.used ≡ used
  pub every_pair : (pair : Pair) → IsAllowedPair pair → ServesAt image used turns settings texts pair

-- what the output has gained
abbrev pub Gains : Option (List ℕ) → Option (List ℕ) → List ℕ → Type 0
Gains old new bytes = IfStillTold old new (λ before now. now ≡ before ++ bytes)

-- the sources were read, and an image that serves them at every pair was made, as they are to be answered; the output has
-- gained what the build emits, in whole lines
pub record IsMade (sources texts : List (List ℕ)) (settings : Settings) (image : ImageRecord) (used turns : ℕ) (held_before : Option Holding) (written_before written_now : Option (List ℕ)) : Type 0 where
  pub read : AreRead sources texts held_before
  pub meant : outcome_of_texts settings texts ≡ Built used turns
  pub of_texts : image_of_texts settings texts ≡ Some image
  pub serves : ServesEveryPair image used turns settings texts
  pub emitted : Gains written_before written_now (in_lines (build_over_origins settings texts).output)

-- the file OUT holds an image that serves the sources at every pair, no other file changed, and the output has gained
-- what the build emits, in whole lines, and the report
pub record IsBuilt (out : List ℕ) (sources texts : List (List ℕ)) (settings : Settings) (image : ImageRecord) (used turns : ℕ) (held_before held_now : Option Holding) (written_before written_now : Option (List ℕ)) : Type 0 where
  pub read : HaveTexts sources texts held_before
  pub of_sources : IfSome held_before (λ old. image_of_sources settings (contents_of old sources) ≡ Some image)
  pub serves : ServesEveryPair image used turns settings texts
  pub stored : IfStillTold held_before held_now (IsInPlace (part_of out) out (image_bytes image))
  pub reported : Gains written_before written_now (in_lines (build_over_origins settings texts).output ++ report_of out sources (Built used turns))

-- no file changed; where memory was refused or the writing failed, the part of OUT may have
pub record KeepsFiles (outcome : Outcome) (out : List ℕ) (held_before held_now : Option Holding) : Type 0 where
  pub others : IfStillTold held_before held_now (SameFilesBut (part_of out))
  pub part : outcome ≢ NoMemory → outcome ≢ WriteFault → IfStillTold held_before held_now SameFiles

-- what is in use and the turns, where an image was built
abbrev pub built_of : Outcome → Option (ℕ × ℕ)
built_of (Built used turns) = Some (used, turns)
built_of NoMemory = None
built_of Usage = None
built_of ReadFault = None
built_of (NoFile file) = None
built_of WriteFault = None
built_of (TooManySources count) = None
built_of (SourceTooLong file) = None
built_of (Thrown code file line) = None
built_of (Spent turns) = None
built_of NoEntry = None
built_of (Step number offset tag first second why file line) = None
built_of (Cell offset found) = None
built_of Done = None
built_of (NotImage file place part) = None
built_of (Truncated file place) = None
built_of (TooLarge file part value) = None
built_of (MadeFor pair) = None
built_of (PairNotAllowed pair) = None
built_of (EntryThrown code) = None
built_of InputTooLong = None

-- there are texts and an image as told where an image was built, and else no file changed
abbrev pub BuildsOrKeeps : Option (ℕ × ℕ) → Outcome → (out : List ℕ) → (sources : List (List ℕ)) → Settings → Option Holding → Option Holding → Option (List ℕ) → Option (List ℕ) → Type 0
BuildsOrKeeps (Some b) outcome out sources settings ho hn wo wn = (texts : List (List ℕ)) × (image : ImageRecord) × IsBuilt out sources texts settings image b.0 b.1 ho hn wo wn
BuildsOrKeeps None outcome out sources settings ho hn wo wn = KeepsFiles outcome out ho hn

-- the same for the words of the command line; a run and words that are no command change no file
abbrev pub LeavesFiles : Option Command → Outcome → Option Holding → Option Holding → Option (List ℕ) → Option (List ℕ) → Type 0
LeavesFiles None outcome ho hn wo wn = IfStillTold ho hn SameFiles
LeavesFiles (Some (BuildCommand out sources settings)) outcome ho hn wo wn = BuildsOrKeeps (built_of outcome) outcome out sources settings ho hn wo wn
LeavesFiles (Some (RunCommand image settings)) outcome ho hn wo wn = IfStillTold ho hn SameFiles

-- no part of OUT is left behind
abbrev pub CleansUp : Option Command → Option Holding → Option Holding → Type 0
CleansUp None ho hn = Unit {0}
CleansUp (Some (BuildCommand out sources settings)) ho hn = IfStillTold ho hn (LeavesNoPart (part_of out))
CleansUp (Some (RunCommand image settings)) ho hn = Unit {0}

-- only a run takes bytes of the input
abbrev pub UnlessRun : Option Command → (unread : Type 0) → Type 0
UnlessRun None unread = unread
UnlessRun (Some (BuildCommand out sources settings)) unread = unread
UnlessRun (Some (RunCommand image settings)) unread = Unit {0}
