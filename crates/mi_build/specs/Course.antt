-- How a build under way follows the definition of a fresh build, over any arithmetic.
use Rattle.std.specs.Prelude.{ℕ, ◌≡◌, ◌++◌, Bool, false, true, List, [], Option, None, Some, Result, Ok, Err}
use Rattle.mi_model.specs.declared.Fault.{Fault}
use Rattle.mi_model.specs.declared.Fault.TheVariants.{Throw, Refused as IsRefused}
use Rattle.mi_model.specs.declared.Effect.{Effect}
use Rattle.mi_model.specs.declared.Effect.TheVariants.{Went, Emit, Want, Halt}
use Rattle.mi_model.specs.declared.Token.{Token}
use Rattle.mi_model.specs.Ops.{Ops}
use Rattle.mi_model.specs.Machine.{Machine}
use Rattle.mi_model.specs.Kernel.{whole_kernel}
use Rattle.mi_model.specs.Build.{Progress, Stopped, BuildEnd, advanced, emitted, prelude_budget, prelude_done, prelude_emitted, sources_emitted}
use Rattle.mi_model.specs.Build.Stopped.{Wants, Halts}
use Rattle.mi_model.specs.Build.BuildEnd.{Done}
use Rattle.mi_machine.specs.Engine.{Engine}
use Rattle.mi_machine.specs.declared.machine.Stop.{Stop}
use Rattle.mi_machine.specs.declared.machine.Stop.TheVariants.{Halted, WantLine, Emit as StoppedEmitting, Thrown as StoppedThrowing, Refused as StoppedRefused, Spent as StoppedSpent, NoMemory as StoppedWithoutMemory}
use Rattle.mi_reloc.specs.declared.building.BuildFault.{BuildFault}
use Rattle.mi_reloc.specs.declared.building.BuildFault.TheVariants.{Thrown as FaultThrown, Spent as OutOfTurns, Step as FaultStep, NoEntry, Cell, WriteFault, NoMemory as FaultNoMemory}
use Rattle.mi_build.specs.declared.steps.Failure.{Failure}
use Rattle.mi_build.specs.declared.steps.Failure.TheVariants.{Thrown, Refused, NoMemory}
use Rattle.mi_build.specs.declared.steps.Step.{Step}
use Rattle.mi_build.specs.declared.steps.Step.TheVariants.{Passed, Emitted, Wanting as StepWanting, Halting as StepHalting, Failed}
use Rattle.mi_build.specs.declared.course.Position.{Position}
use Rattle.mi_build.specs.declared.course.Pause.{Pause}
use Rattle.mi_build.specs.declared.course.Pause.TheVariants.{Wanting, Halting}
use Rattle.mi_build.specs.Faults.{fault_of, fault_of_end, IsTold}

-- the failure that a stop is
abbrev pub failure_of_stop : Stop → Failure
failure_of_stop (StoppedThrowing code) = Thrown code
failure_of_stop (StoppedRefused offset tag first second why) = Refused (record { offset = offset; tag = tag }) first second why
failure_of_stop Halted = NoMemory
failure_of_stop WantLine = NoMemory
failure_of_stop (StoppedEmitting b) = NoMemory
failure_of_stop StoppedSpent = NoMemory
failure_of_stop StoppedWithoutMemory = NoMemory

-- an action fails so; a refusal stands at this token, and want of memory says nothing
abbrev pub IsFailure : {X : Type 0} → Failure → (last : Token) → Result X Fault → Type 0
IsFailure (Thrown code) last told = told ≡ Err (Throw code)
IsFailure (Refused at first second why) last told = (told ≡ Err (IsRefused first second why)) × (at ≡ last)
IsFailure NoMemory last told = Unit {0}

-- the engine goes on over the same arithmetic, with this stop and this last token
abbrev pub GoesOn : {A C B : Type 0} → Engine A C B → Engine A C B → Option Stop → (last : Token) → Type 0
GoesOn old new stop last = (new.state.arith ≡ old.state.arith) × (new.stop ≡ stop) × (new.last ≡ last)

-- an instruction, or the end of the input, with this outcome was taken
abbrev pub Took : {A C B : Type 0} → Step → Engine A C B → Engine A C B → (last : Token) → Result (Effect × Machine C B) Fault → Type 0
Took Passed old new last told = (told ≡ Ok (Went, new.state.machine)) × GoesOn old new None last
Took (Emitted b) old new last told = (told ≡ Ok (Emit b, new.state.machine)) × GoesOn old new None last
Took StepWanting old new last told = (told ≡ Ok (Want, new.state.machine)) × GoesOn old new (Some WantLine) last
Took StepHalting old new last told = (told ≡ Ok (Halt, new.state.machine)) × GoesOn old new (Some Halted) last
Took (Failed failure) old new last told = IsFailure failure last told

-- a call that gives a value or fails was made, and leaves the engine with this stop; a failure stands at that token
abbrev pub Called : {X A C B : Type 0} → Result X Failure → Engine A C B → Engine A C B → Option Stop → (at : Token) → Result (X × Machine C B) Fault → Type 0
Called (Ok x) old new stop at told = (told ≡ Ok (x, new.state.machine)) × GoesOn old new stop old.last
Called (Err failure) old new stop at told = IsFailure failure at told

-- how far a build has come
abbrev pub progress_of : {A C B : Type 0} → (budget : ℕ) → Position → Engine A C B → Progress C B
progress_of budget at engine = record { machine = engine.state.machine; budget = budget; left = at.left; file = at.file; line = at.line; last = engine.last }

-- a failure as it is answered, in an instruction of that number
abbrev pub fault_at : Failure → Position → (number : ℕ) → BuildFault
fault_at (Thrown code) at number = FaultThrown code at.file at.line
fault_at (Refused token first second why) at number = FaultStep number token.offset token.tag first second why at.file at.line
fault_at NoMemory at number = FaultNoMemory

-- the answer says where the build has stopped
abbrev pub Stops : {A C B : Type 0} → Result Pause BuildFault → Engine A C B → (budget : ℕ) → Position → Stopped C B → Type 0
Stops (Ok Wanting) engine budget at told = (told ≡ Wants (progress_of budget at engine)) × (engine.stop ≡ Some WantLine)
Stops (Ok Halting) engine budget at told = (told ≡ Halts (progress_of budget at engine)) × (engine.stop ≡ Some Halted)
Stops (Err e) engine budget at told = IsTold e (fault_of told)

-- the answer says where the build has stopped, or that it goes on from here
abbrev pub StopsOrGoes : {A C B : Type 0} → Ops C B → Result (Option Pause) BuildFault → Engine A C B → (ended : Bool) → (budget : ℕ) → Position → Stopped C B → Type 0
StopsOrGoes ops (Ok None) engine ended budget at told = (told ≡ advanced whole_kernel ops ended at.left (progress_of budget at engine)) × (engine.stop ≡ None)
StopsOrGoes ops (Ok (Some pause)) engine ended budget at told = Stops (Ok pause) engine budget at told
StopsOrGoes ops (Err e) engine ended budget at told = Stops (Err e) engine budget at told

-- where the input has ended, there is no wait
abbrev pub IsNoWait : (ended : Bool) → Result (Option Pause) BuildFault → Type 0
IsNoWait ended (Ok (Some Wanting)) = ended ≡ false
IsNoWait ended (Ok (Some Halting)) = Unit {0}
IsNoWait ended (Ok None) = Unit {0}
IsNoWait ended (Err e) = Unit {0}

abbrev pub IsNoWaitAfter : (ended : Bool) → Result Pause BuildFault → Type 0
IsNoWaitAfter ended (Ok pause) = IsNoWait ended (Ok (Some pause))
IsNoWaitAfter ended (Err e) = Unit {0}

-- what is emitted is what the rest of the instructions emit, if the build goes on
abbrev pub EmitsNone : {A C B : Type 0} → Ops C B → Result (Option Pause) BuildFault → Engine A C B → Position → (all : List ℕ) → Type 0
EmitsNone ops (Ok None) engine at all = all ≡ emitted whole_kernel ops true at.left engine.state.machine
EmitsNone ops (Ok (Some pause)) engine at all = all ≡ []
EmitsNone ops (Err (FaultThrown code file line)) engine at all = all ≡ []
EmitsNone ops (Err (OutOfTurns turns)) engine at all = all ≡ []
EmitsNone ops (Err (FaultStep number offset tag first second why file line)) engine at all = all ≡ []
EmitsNone ops (Err NoEntry) engine at all = all ≡ []
EmitsNone ops (Err (Cell offset found)) engine at all = all ≡ []
EmitsNone ops (Err WriteFault) engine at all = Unit {0}
EmitsNone ops (Err FaultNoMemory) engine at all = Unit {0}

-- what the prelude and the sources emit
unfoldable pub emitted_before_end : {C B : Type 0} → Ops C B → (texts : List (List ℕ)) → (turns : ℕ) → Machine C B → List ℕ
emitted_before_end ops texts turns m = prelude_emitted whole_kernel ops prelude_budget m ++ sources_emitted whole_kernel ops texts turns (prelude_done whole_kernel ops prelude_budget m)

-- the answer says that the build has halted here, or how else it has stopped
abbrev pub HaltsAt : {A C B : Type 0} → Result (Unit {0}) BuildFault → Engine A C B → (budget : ℕ) → Position → Stopped C B → Type 0
HaltsAt (Ok x) engine budget at told = Stops (Ok Halting) engine budget at told
HaltsAt (Err e) engine budget at told = Stops (Err e) engine budget at told

-- the same where the answer has the budget that runs, too
abbrev pub StopsWith : {A C B : Type 0} → Result (Pause × ℕ) BuildFault → Engine A C B → Position → Stopped C B → Type 0
StopsWith (Ok r) engine at told = Stops (Ok r.0) engine r.1 at told
StopsWith (Err e) engine at told = IsTold e (fault_of told)

abbrev pub HaltsWith : {A C B : Type 0} → (budget : Result ℕ BuildFault) → Engine A C B → Position → Stopped C B → Type 0
HaltsWith (Ok budget) engine at told = Stops (Ok Halting) engine budget at told
HaltsWith (Err e) engine at told = IsTold e (fault_of told)

-- the answer says how the build ends, with what is in use and the turns
abbrev pub Ends : {A C B : Type 0} → Result (ℕ × ℕ) BuildFault → Engine A C B → BuildEnd C B → Type 0
Ends (Ok r) engine end = end ≡ Done engine.state.machine r.0 r.1
Ends (Err e) engine end = IsTold e (fault_of_end end)

-- the same where the answer has the engine, too
abbrev pub EndsWith : {A C B : Type 0} → Result (Engine A C B × ℕ × ℕ) BuildFault → BuildEnd C B → Type 0
EndsWith (Ok r) end = end ≡ Done r.0.state.machine r.1 r.2
EndsWith (Err e) end = IsTold e (fault_of_end end)
