-- What the words of a command line say.
use Rattle.std.specs.Prelude.{ℕ, ◌≤◌, ◌^◌, false, length, List, [], ◌∷◌, map, Option, None, Some, codes, bytes_eq, string_bytes, if◌then◌else◌}
use Rattle.mi_model.specs.Image.{IsRegionSize}
use Rattle.mi_commands.specs.declared.command_line.Command.{Command as Read}
use Rattle.mi_commands.specs.declared.command_line.Command.TheVariants.{Build as ReadBuild, Run as ReadRun}
use Rattle.mi_commands.specs.declared.command_line.RunSettings.{RunSettings}
use Rattle.mi_commands.specs.Settings.{Settings, settings_in_bytes}
use Rattle.mi_commands.specs.Options.{Given, positional_in, only_of, given_in, none_given}

-- a command, with its words
pub data Command : Type 0 where
  Build : (out : List ℕ) → (sources : List (List ℕ)) → Settings → Command
  Run : (image : List ℕ) → RunSettings → Command

abbrev pub given_or : Option ℕ → ℕ → ℕ
given_or None other = other
given_or (Some n) other = n

-- the settings that the options give
abbrev pub settings_of : Given → Settings
settings_of given = record { entry = given.entry; size = given_or given.size 1048576; turns = given_or given.turns 20000000 }

abbrev pub run_settings_of : Given → RunSettings
run_settings_of given = record { data_base = given.data_base; code_base = given.code_base; turns = given_or given.turns 20000000 }

-- the command of the positional words: OUT, and one source or more
abbrev pub build_of : List (List ℕ) → Settings → Option Command
build_of [] settings = None
build_of (out ∷ []) settings = None
build_of (out ∷ (source ∷ sources)) settings = Some (Build out (source ∷ sources) settings)

-- the command of the positional word, the name of an image's file
abbrev pub run_named : Option (List ℕ) → RunSettings → Option Command
run_named None settings = None
run_named (Some image) settings = Some (Run image settings)

-- the command takes no such option
abbrev pub unless_given : Option ℕ → Option Command → Option Command
unless_given None command = command
unless_given (Some value) command = None

abbrev pub unless_named : Option (List ℕ) → Option Command → Option Command
unless_named None command = command
unless_named (Some name) command = None

-- a build takes no data base and no code base
abbrev pub build_given : List (List ℕ) → Option Given → Option Command
build_given words None = None
build_given words (Some given) = unless_given given.data_base (unless_given given.code_base (build_of (positional_in false words) (settings_of given)))

-- a run takes no entry name and no size
abbrev pub run_given : List (List ℕ) → Option Given → Option Command
run_given words None = None
run_given words (Some given) = unless_named given.entry (unless_given given.size (run_named (only_of (positional_in false words)) (run_settings_of given)))

-- the command that these words give: `build OUT SRC..` or `run IMG`, with options anywhere behind the first word
abbrev pub command_of : List (List ℕ) → Option Command
command_of [] = None
command_of (name ∷ words) =
    if bytes_eq name (codes "build") then build_given words (given_in None words none_given)
    else (if bytes_eq name (codes "run") then run_given words (given_in None words none_given) else None)

-- what the program read, as bytes
abbrev pub command_in_bytes : Option Read → Option Command
command_in_bytes None = None
command_in_bytes (Some (ReadBuild words settings)) = build_of (positional_in false (map string_bytes words.now)) (settings_in_bytes settings)
command_in_bytes (Some (ReadRun image settings)) = Some (Run image.now settings)

-- in a build there are OUT and a source, the size is one of a region, and the turns are within their bound
abbrev pub IsRight : Read → Type 0
IsRight (ReadBuild words settings) = (2 ≤ length (positional_in false (map string_bytes words.now))) × IsRegionSize settings.size × (settings.turns ≤ 2 ^ 40)
IsRight (ReadRun image settings) = Unit {0}
