-- What the program answers and does, for the words of its command line.
use Rattle.std.specs.Prelude.{ℕ, ◌≡◌, ◌⊎◌, false, List, [], ◌∷◌, Option, None, Some, IfSome, IsSomeAnd}
use Rattle.mi_outside.specs.Causes.{Rose}
use Rattle.mi_outside.specs.Holding.{Holding}
use Rattle.mi_outside.specs.Written.{EmitsFront}
use Rattle.mi_commands.specs.declared.outcome.Outcome.{Outcome}
use Rattle.mi_commands.specs.declared.outcome.Outcome.TheVariants.{Usage, ReadFault, WriteFault}
use Rattle.mi_commands.specs.declared.command_line.RunSettings.{RunSettings}
use Rattle.mi_commands.specs.Claims.{MakesClaims}
use Rattle.mi_commands.specs.Command.{Command}
use Rattle.mi_commands.specs.Command.Command.{Build as BuildCommand, Run as RunCommand}
use Rattle.mi_commands.specs.commands.Build.{contents_of, build_meant}
use Rattle.mi_commands.specs.commands.Run.{run_meant, FailsToRead}
use Rattle.mi_commands.specs.Contract.{LeavesFiles, CleansUp}
use Rattle.mi_commands.specs.Meant.{Meant, Does}
use Rattle.mi_commands.specs.Outside.{Outside}
use Rattle.mi_commands.specs.Possible.{MayEnd}
use Rattle.mi_commands.specs.Report.{report_of}
use Rattle.mi_commands.specs.Settings.{Settings}

-- words that are no command are reported, and nothing else is done
abbrev pub usage_meant : Meant
usage_meant = record { outcome = Usage; emitted = []; report = report_of [] []; stored = None; reads_input = false }

-- what a run of this file means to do, where files and input tell
abbrev pub run_told : (image : List ℕ) → RunSettings → Option Holding → (left : Option (List ℕ)) → Option Meant
run_told image settings None left = None
run_told image settings (Some old) None = None
run_told image settings (Some old) (Some input) = Some (run_meant image settings (old.file image) input)

-- the same of a build
abbrev pub build_told : (out : List ℕ) → (sources : List (List ℕ)) → Settings → Option Holding → Option Meant
build_told out sources settings None = None
build_told out sources settings (Some old) = Some (build_meant out sources settings (contents_of old sources))

-- what the words of the command line mean to do, by what files and input tell as the call begins
abbrev pub meant_of : Option Command → Option Holding → (left : Option (List ℕ)) → Option Meant
meant_of None held left = Some usage_meant
meant_of (Some (BuildCommand out sources settings)) held left = build_told out sources settings held
meant_of (Some (RunCommand image settings)) held left = run_told image settings held left

-- a count of faults rose that a read fault may come of: that of the files, or in a run that of the input
abbrev pub MayFailToRead : Option Command → (before after : Outside) → Type 0
MayFailToRead None before after = Rose before.file_faults after.file_faults
MayFailToRead (Some (BuildCommand out sources settings)) before after = Rose before.file_faults after.file_faults
MayFailToRead (Some (RunCommand image settings)) before after = Rose before.file_faults after.file_faults ⊎ Rose before.input_faults after.input_faults

-- where the words are no command, a front of the one report was written
abbrev pub ReportsUsage : Option Command → (old new : Option (List ℕ)) → Type 0
ReportsUsage None old new = EmitsFront old new (report_of [] [] Usage)
ReportsUsage (Some command) old new = Unit {0}

-- where a run ends by a read fault: at which wait, where files and input tell
abbrev pub StopsRun : Option Command → Outcome → (before after : Outside) → Type 0
StopsRun None outcome before after = Unit {0}
StopsRun (Some (BuildCommand out sources settings)) outcome before after = Unit {0}
StopsRun (Some (RunCommand image settings)) outcome before after =
    outcome ≡ ReadFault → IfSome before.held (λ old. IfSome before.left (λ text. IsSomeAnd after.left (λ rest.
    FailsToRead settings (old.file image) text rest (report_of [] (image ∷ []) ReadFault) before.written after.written)))

-- What holds of each call, in this order: it does what its words mean; its outcome is one that its command may have, also where
-- nothing tells; an image that it stores is right at every pair, and else no file changes; what its answer claims of the fresh
-- builds holds; no part of OUT is left behind; why it may answer that reading or writing failed; and at which wait a run's
-- input failed.
pub record IsAnswered (command : Option Command) (outcome : Outcome) (before after : Outside) : Type 0 where
  pub does : IfSome (meant_of command before.held before.left) (λ meant. Does meant outcome before after)
  pub possible : MayEnd command outcome
  pub files : LeavesFiles command outcome before.held after.held before.written after.written
  pub claims : MakesClaims command outcome before.held
  pub part : (Rose before.file_faults after.file_faults → ⊥) → CleansUp command before.held after.held
  pub read_fault : outcome ≡ ReadFault → MayFailToRead command before after
  pub write_fault : outcome ≡ WriteFault → Rose before.file_faults after.file_faults ⊎ Rose before.output_faults after.output_faults
  pub stops : StopsRun command outcome before after
  pub usage : ReportsUsage command before.written after.written
