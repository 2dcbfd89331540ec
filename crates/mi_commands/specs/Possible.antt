-- The outcomes that a command may have, whatever files, input and output tell.
use Rattle.std.specs.Prelude.{ℕ, ◌≡◌, ◌<◌, ◌≤◌, List, length, Option, None, Some}
use Rattle.mi_commands.specs.declared.outcome.Outcome.{Outcome}
use Rattle.mi_commands.specs.declared.outcome.Outcome.TheVariants.{Built, NoMemory, Usage, ReadFault, NoFile, WriteFault, TooManySources, SourceTooLong, Thrown, Spent, NoEntry, Step, Cell, Done, NotImage, Truncated, TooLarge, MadeFor, PairNotAllowed, EntryThrown, InputTooLong}
use Rattle.mi_commands.specs.Command.{Command}
use Rattle.mi_commands.specs.Command.Command.{Build as BuildCommand, Run as RunCommand}
use Rattle.mi_commands.specs.Limits.{source_count}

-- the file is one of so many sources, which are not too many
abbrev pub IsSource : (file count : ℕ) → Type 0
IsSource file count = (1 ≤ file) × (file ≤ count) × (count ≤ source_count)

-- a build of so many sources may end so: where they are too many with their number, or for the want of memory, and else with
-- another outcome of a build
abbrev pub BuildMayEnd : Outcome → (count : ℕ) → Type 0
BuildMayEnd NoMemory count = Unit {0}
BuildMayEnd (TooManySources number) count = (source_count < count) × (number ≡ count)
BuildMayEnd (NoFile file) count = IsSource file count
BuildMayEnd (SourceTooLong file) count = IsSource file count
BuildMayEnd ReadFault count = count ≤ source_count
BuildMayEnd WriteFault count = count ≤ source_count
BuildMayEnd (Thrown code file line) count = count ≤ source_count
BuildMayEnd (Spent turns) count = count ≤ source_count
BuildMayEnd NoEntry count = count ≤ source_count
BuildMayEnd (Step number offset tag first second why file line) count = count ≤ source_count
BuildMayEnd (Cell offset found) count = count ≤ source_count
BuildMayEnd (Built used turns) count = count ≤ source_count
BuildMayEnd _ count = ⊥

-- the image of a run may be refused so; its file is the first
abbrev pub ImageMayEnd : Outcome → Type 0
ImageMayEnd NoMemory = Unit {0}
ImageMayEnd ReadFault = Unit {0}
ImageMayEnd (NoFile file) = file ≡ 1
ImageMayEnd (NotImage file place part) = file ≡ 1
ImageMayEnd (Truncated file place) = file ≡ 1
ImageMayEnd (TooLarge file part value) = file ≡ 1
ImageMayEnd _ = ⊥

-- a run may end so
abbrev pub RunMayEnd : Outcome → Type 0
RunMayEnd NoMemory = Unit {0}
RunMayEnd ReadFault = Unit {0}
RunMayEnd (NoFile file) = file ≡ 1
RunMayEnd (NotImage file place part) = file ≡ 1
RunMayEnd (Truncated file place) = file ≡ 1
RunMayEnd (TooLarge file part value) = file ≡ 1
RunMayEnd (MadeFor pair) = Unit {0}
RunMayEnd (PairNotAllowed pair) = Unit {0}
RunMayEnd WriteFault = Unit {0}
RunMayEnd (EntryThrown code) = Unit {0}
RunMayEnd (Spent turns) = Unit {0}
RunMayEnd InputTooLong = Unit {0}
RunMayEnd Done = Unit {0}
RunMayEnd _ = ⊥

-- Usage exactly for words that are no command, and else an outcome of their command
abbrev pub MayEnd : Option Command → Outcome → Type 0
MayEnd None outcome = outcome ≡ Usage
MayEnd (Some (BuildCommand out sources settings)) outcome = BuildMayEnd outcome (length sources)
MayEnd (Some (RunCommand image settings)) outcome = RunMayEnd outcome
