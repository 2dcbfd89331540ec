-- What a machine answers follows what its actions come to.
use Rattle.std.proofs.Common.{[], ℕ, ◌≡◌, inl, inr, refl, sym, subst, Bool, IsTrue, Result, Ok, Err, Option, None, Some}
use Rattle.mi_model.specs.declared.Fault.{Fault}
use Rattle.mi_model.specs.declared.Fault.TheVariants.{Throw, Refused as IsRefused, NoMemory as OutOfMemory}
use Rattle.mi_model.specs.declared.Effect.{Effect}
use Rattle.mi_model.specs.declared.Effect.TheVariants.{Went, Emit, Want, Halt}
use Rattle.mi_model.specs.declared.Token.{Token}
use Rattle.mi_model.specs.declared.Wait.{Wait}
use Rattle.mi_model.specs.declared.Wait.TheVariants.{Idle, Line, Refill, Accept}
use Rattle.mi_model.specs.Ops.{Ops}
use Rattle.mi_model.specs.Machine.{Machine, after}
use Rattle.mi_model.specs.Action.{part_of}
use Rattle.mi_model.specs.Outcome.{outcome_of, named_wait, wait_cells}
use Rattle.mi_model.specs.Input.{give_end, end_to, push_none}
use Rattle.mi_region.specs.View.{StateView, leading}
use Rattle.mi_machine.specs.Engine.{Engine, Moves, stepped, lined, finished, answer_of, lasting, stop_of_fault}
use Rattle.mi_machine.specs.declared.machine.Stop.{Stop}
use Rattle.mi_machine.specs.declared.machine.Stop.TheVariants.{Halted, WantLine, Emit as StoppedEmitting, Thrown as StoppedThrowing, Refused as StoppedRefused, Spent as StoppedSpent, NoMemory as StoppedWithoutMemory}
use Rattle.mi_build.specs.declared.steps.Failure.{Failure}
use Rattle.mi_build.specs.declared.steps.Failure.TheVariants.{Thrown, Refused, NoMemory}
use Rattle.mi_build.specs.declared.steps.Step.{Step}
use Rattle.mi_build.specs.declared.steps.Step.TheVariants.{Passed, Emitted, Wanting, Halting, Failed}
use Rattle.mi_model.specs.Tokens.{first_token}
use Rattle.mi_build.specs.Course.{failure_of_stop, IsFailure, GoesOn, Took, Called}

-- what the answer of an instruction says
abbrev pub step_of : Result (Unit {0}) Stop → Step
step_of (Ok x) = Passed
step_of (Err (StoppedEmitting b)) = Emitted b
step_of (Err WantLine) = Wanting
step_of (Err Halted) = Halting
step_of (Err (StoppedThrowing code)) = Failed (failure_of_stop (StoppedThrowing code))
step_of (Err (StoppedRefused offset tag a b why)) = Failed (failure_of_stop (StoppedRefused offset tag a b why))
step_of (Err StoppedSpent) = Failed (failure_of_stop StoppedSpent)
step_of (Err StoppedWithoutMemory) = Failed (failure_of_stop StoppedWithoutMemory)

-- a fault is the failure that its stop is
failed_so : (X : Type 0) (last : Token) (f : Fault) → IsFailure {X = X} (failure_of_stop (stop_of_fault last f)) last (Err f)
failed_so X last (Throw code) = refl
failed_so X last (IsRefused a b why) = (refl, refl)
failed_so X last OutOfMemory = tt

took_fault : {A C B : Type 0} (old new : Engine A C B) (last : Token) (f : Fault) → Took (step_of (Err (stop_of_fault last f))) old new last (Err f)
took_fault old new last (Throw code) = refl
took_fault old new last (IsRefused a b why) = (refl, refl)
took_fault old new last OutOfMemory = tt

took_effect : {A C B : Type 0} (old : Engine A C B) (last : Token) (effect : Effect) (m : Machine C B)
    → Took (step_of (answer_of effect)) old (record { state = record old.state { machine = m }; stop = lasting effect; last = last }) last (Ok (effect, m))
took_effect old last Went m = (refl, (refl, refl, refl))
took_effect old last (Emit b) m = (refl, (refl, refl, refl))
took_effect old last Want m = (refl, (refl, refl, refl))
took_effect old last Halt m = (refl, (refl, refl, refl))

took_told : {A C B : Type 0} (old : Engine A C B) (last : Token) (told : Result (Effect × Machine C B) Fault)
    → Took (step_of (stepped old.state last (leading old.state told)).0) old (stepped old.state last (leading old.state told)).1 last told
took_told old last (Ok x) = took_effect old last x.0 x.1
took_told old last (Err f) = took_fault old _ last f

pub took : {A C B : Type 0} (grows : Bool) (result : Result (Unit {0}) Stop) (old new : Engine A C B) (last : Token) (told : Result (Effect × Machine C B) Fault)
    → Moves grows result new (stepped old.state last (leading old.state told)) → Took (step_of result) old new last told
took {A} {C} {B} grows result old new last told (inl h) =
    subst (λ (r : Result (Unit {0}) Stop). Took (step_of r) old new last told) (sym h.0)
    (subst (λ (n : Engine A C B). Took (step_of (stepped old.state last (leading old.state told)).0) old n last told) (sym h.1) (took_told old last told))
took grows result old new last told (inr h) =
    subst (λ (r : Result (Unit {0}) Stop). Took (step_of r) old new last told) (sym h.0) tt

-- what the answer of a call says that leaves the engine with a stop
abbrev pub call_of : {X : Type 0} → Result X Stop → Result X Failure
call_of (Ok x) = Ok x
call_of (Err stop) = Err (failure_of_stop stop)

lined_told : {A C B : Type 0} (old : Engine A C B) (told : Result (Unit {0} × Machine C B) Fault)
    → Called (call_of (lined old.state old.last (leading old.state told)).0) old (lined old.state old.last (leading old.state told)).1 None old.last told
lined_told old (Ok x) = (refl, (refl, refl, refl))
lined_told old (Err f) = failed_so _ old.last f

pub line_taken : {A C B : Type 0} (grows : Bool) (result : Result (Unit {0}) Stop) (old new : Engine A C B) (told : Result (Unit {0} × Machine C B) Fault)
    → Moves grows result new (lined old.state old.last (leading old.state told)) → Called (call_of result) old new None old.last told
line_taken {A} {C} {B} grows result old new told (inl h) =
    subst (λ (r : Result (Unit {0}) Stop). Called (call_of r) old new None old.last told) (sym h.0)
    (subst (λ (n : Engine A C B). Called (call_of (lined old.state old.last (leading old.state told)).0) old n None old.last told) (sym h.1) (lined_told old told))
line_taken grows result old new told (inr h) =
    subst (λ (r : Result (Unit {0}) Stop). Called (call_of r) old new None old.last told) (sym h.0) tt

finished_told : {X A C B : Type 0} (old : Engine A C B) (told : Result (X × Machine C B) Fault)
    → Called (call_of (finished old.state old.last (leading old.state told)).0) old (finished old.state old.last (leading old.state told)).1 (Some Halted) first_token told
finished_told old (Ok x) = (refl, (refl, refl, refl))
finished_told old (Err f) = failed_so _ first_token f

pub finish_taken : {X A C B : Type 0} (grows : Bool) (result : Result X Stop) (old new : Engine A C B) (told : Result (X × Machine C B) Fault)
    → Moves grows result new (finished old.state old.last (leading old.state told)) → Called (call_of result) old new (Some Halted) first_token told
finish_taken {X} {A} {C} {B} grows result old new told (inl h) =
    subst (λ (r : Result X Stop). Called (call_of r) old new (Some Halted) first_token told) (sym h.0)
    (subst (λ (n : Engine A C B). Called (call_of (finished old.state old.last (leading old.state told)).0) old n (Some Halted) first_token told) (sym h.1) (finished_told old told))
finish_taken {X} grows result old new told (inr h) =
    subst (λ (r : Result X Stop). Called (call_of r) old new (Some Halted) first_token told) (sym h.0) tt

-- the end of the input emits nothing, and no line is wanted after it
abbrev pub IsQuiet : {C B : Type 0} → Result (Effect × Machine C B) Fault → Type 0
IsQuiet (Ok (Went, m)) = Unit {0}
IsQuiet (Ok (Emit b, m)) = ⊥
IsQuiet (Ok (Want, m)) = ⊥
IsQuiet (Ok (Halt, m)) = Unit {0}
IsQuiet (Err f) = Unit {0}

quiet_after : {C B : Type 0} (r : Result (Unit {0} × Machine C B) Fault) → IsQuiet (after r (λ x. Ok (Went, x.1)))
quiet_after (Ok x) = tt
quiet_after (Err f) = tt

quiet_by : {C B : Type 0} (ops : Ops C B) (w : Wait C) (m : Machine C B) → IsQuiet (outcome_of ops (part_of (end_to (named_wait 0 w))) m (wait_cells w))
quiet_by ops Idle m = tt
quiet_by ops Line m = tt
quiet_by ops Refill m = quiet_after (outcome_of ops push_none m [])
quiet_by ops (Accept a n) m = quiet_after (outcome_of ops push_none m [])

pub end_is_quiet : {C B : Type 0} (ops : Ops C B) (m : Machine C B) → IsQuiet (outcome_of ops give_end m [])
unfolding give_end
end_is_quiet ops m = quiet_by ops m.wait (record m { wait = Idle })
