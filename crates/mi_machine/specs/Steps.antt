-- What the calls of a machine over plain numbers come to: nothing is refused, and no memory is missing.
use Rattle.std.specs.Prelude.{ℕ, ℤ, ◌≡◌, Option, None, Some, Result, Ok, Err}
use Rattle.mi_model.specs.declared.Fault.{Fault}
use Rattle.mi_model.specs.declared.Fault.TheVariants.{Throw}
use Rattle.mi_model.specs.declared.Effect.{Effect}
use Rattle.mi_model.specs.declared.Effect.TheVariants.{Went, Emit, Want, Halt}
use Rattle.mi_model.specs.Ops.{Ops}
use Rattle.mi_model.specs.Plain.{plain_ops}
use Rattle.mi_model.specs.Machine.{Machine}
use Rattle.mi_arith.specs.declared.plain.Plain.{Plain}
use Rattle.mi_region.specs.View.{StateView}
use Rattle.mi_machine.specs.Engine.{Engine}
use Rattle.mi_machine.specs.declared.machine.Stop.{Stop}
use Rattle.mi_machine.specs.declared.machine.Stop.TheVariants.{Halted, WantLine, Emit as StoppedEmitting, Thrown as StoppedThrowing, Refused as StoppedRefused, Spent, NoMemory}
use Rattle.mi_machine.specs.declared.steps.Step.{Step}
use Rattle.mi_machine.specs.declared.steps.Step.TheVariants.{Passed, Emitted, Wanting, Halting, Thrown}

abbrev pub ops_of : Plain → Ops ℕ ℕ
ops_of arith = plain_ops arith.pair arith.size

-- the engine goes on with this machine, over the same arithmetic, and with this stop
abbrev pub GoesOn : StateView Plain ℕ ℕ → Engine Plain ℕ ℕ → Option Stop → Type 0
GoesOn old new stop = (new.state.arith ≡ old.arith) × (new.stop ≡ stop)

-- the engine is stopped by a throw, and its state is as it was
abbrev pub StopsThrown : StateView Plain ℕ ℕ → Engine Plain ℕ ℕ → (code : ℤ) → Type 0
StopsThrown old new code = (new.state ≡ old) × (new.stop ≡ Some (StoppedThrowing code))

-- an instruction with this outcome was taken
abbrev pub Took : Step → StateView Plain ℕ ℕ → Engine Plain ℕ ℕ → Result (Effect × Machine ℕ ℕ) Fault → Type 0
Took Passed old new told = (told ≡ Ok (Went, new.state.machine)) × GoesOn old new None
Took (Emitted b) old new told = (told ≡ Ok (Emit b, new.state.machine)) × GoesOn old new None
Took Wanting old new told = (told ≡ Ok (Want, new.state.machine)) × GoesOn old new (Some WantLine)
Took Halting old new told = (told ≡ Ok (Halt, new.state.machine)) × GoesOn old new (Some Halted)
Took (Thrown code) old new told = (told ≡ Err (Throw code)) × StopsThrown old new code

-- a call that gives a value or throws was made, and leaves the engine with this stop
abbrev pub Called : {X : Type 0} → Result X ℤ → StateView Plain ℕ ℕ → Engine Plain ℕ ℕ → Option Stop → Result (X × Machine ℕ ℕ) Fault → Type 0
Called (Ok x) old new stop told = (told ≡ Ok (x, new.state.machine)) × GoesOn old new stop
Called (Err code) old new stop told = (told ≡ Err (Throw code)) × StopsThrown old new code

-- the code of a throw
abbrev pub thrown_code_of : Stop → Option ℤ
thrown_code_of (StoppedThrowing code) = Some code
thrown_code_of (StoppedEmitting b) = None
thrown_code_of WantLine = None
thrown_code_of Halted = None
thrown_code_of (StoppedRefused offset tag a b why) = None
thrown_code_of Spent = None
thrown_code_of NoMemory = None
