-- What a machine over plain numbers answers follows what its actions come to, which is never a refusal.
use Rattle.std.proofs.Common.{[], ℕ, ◌≡◌, inl, inr, false, refl, sym, subst, IsTrue, Result, Ok, Err, Option, None, Some}
use Rattle.mi_model.specs.declared.Fault.{Fault}
use Rattle.mi_model.specs.declared.Fault.TheVariants.{Throw}
use Rattle.mi_model.specs.declared.Effect.{Effect}
use Rattle.mi_model.specs.declared.Effect.TheVariants.{Went, Emit, Want, Halt}
use Rattle.mi_model.specs.declared.Token.{Token}
use Rattle.mi_model.specs.declared.Wait.{Wait}
use Rattle.mi_model.specs.declared.Wait.TheVariants.{Idle, Line, Refill, Accept}
use Rattle.mi_model.specs.Ops.{Ops}
use Rattle.mi_model.specs.Machine.{Machine, after}
use Rattle.mi_model.specs.Action.{part_of}
use Rattle.mi_model.specs.Outcome.{outcome_of, named_wait, wait_cells}
use Rattle.mi_model.specs.Input.{give_end, end_to, push_none}
use Rattle.mi_model.specs.Answers.{ThrowsAtMost}
use Rattle.mi_model.specs.Answers.ThrowsAtMost.{gives, throws}
use Rattle.mi_arith.specs.declared.plain.Plain.{Plain}
use Rattle.mi_region.specs.View.{StateView, leading}
use Rattle.mi_machine.specs.Engine.{Engine, Moves, stepped, lined, finished, answer_of, lasting}
use Rattle.mi_machine.specs.declared.machine.Stop.{Stop}
use Rattle.mi_machine.specs.declared.machine.Stop.TheVariants.{Halted, WantLine, Emit as StoppedEmitting, Thrown as StoppedThrowing, Refused as StoppedRefused, Spent, NoMemory}
use Rattle.mi_machine.specs.declared.steps.Step.TheVariants.{Passed, Emitted, Wanting, Halting, Thrown}
use Rattle.mi_machine.specs.Steps.{Took, Called, StopsThrown, thrown_code_of}

pub not_true : IsTrue false → ⊥
not_true h = cc

-- what the answer of an instruction says
abbrev pub TookBy : Result (Unit {0}) Stop → StateView Plain ℕ ℕ → Engine Plain ℕ ℕ → Result (Effect × Machine ℕ ℕ) Fault → Type 0
TookBy (Ok x) old new told = Took Passed old new told
TookBy (Err (StoppedEmitting b)) old new told = Took (Emitted b) old new told
TookBy (Err WantLine) old new told = Took Wanting old new told
TookBy (Err Halted) old new told = Took Halting old new told
TookBy (Err (StoppedThrowing code)) old new told = Took (Thrown code) old new told
TookBy (Err (StoppedRefused offset tag a b why)) old new told = ⊥
TookBy (Err Spent) old new told = ⊥
TookBy (Err NoMemory) old new told = ⊥

-- the engine after an instruction with this effect
abbrev engine_after : StateView Plain ℕ ℕ → (last : Token) → Effect → Machine ℕ ℕ → Engine Plain ℕ ℕ
engine_after old last effect m = record { state = record old { machine = m }; stop = lasting effect; last = last }

took_effect : (old : StateView Plain ℕ ℕ) (last : Token) (effect : Effect) (m : Machine ℕ ℕ) → TookBy (answer_of effect) old (engine_after old last effect m) (Ok (effect, m))
took_effect old last Went m = (refl, (refl, refl))
took_effect old last (Emit b) m = (refl, (refl, refl))
took_effect old last Want m = (refl, (refl, refl))
took_effect old last Halt m = (refl, (refl, refl))

pub took_by : (result : Result (Unit {0}) Stop) (old : StateView Plain ℕ ℕ) (last : Token) (new : Engine Plain ℕ ℕ) (told : Result (Effect × Machine ℕ ℕ) Fault)
    → ThrowsAtMost told → Moves false result new (stepped old last (leading old told)) → TookBy result old new told
took_by result old last new _ (gives x) (inl h) =
    subst (λ (r : Result (Unit {0}) Stop). TookBy r old new (Ok x)) (sym h.0) (subst (λ (n : Engine Plain ℕ ℕ). TookBy (answer_of x.0) old n (Ok x)) (sym h.1) (took_effect old last x.0 x.1))
took_by result old last new _ (throws code) (inl h) =
    subst (λ (r : Result (Unit {0}) Stop). TookBy r old new (Err (Throw code))) (sym h.0)
    (subst (λ (n : Engine Plain ℕ ℕ). TookBy (Err (StoppedThrowing code)) old n (Err (Throw code))) (sym h.1) (refl, (refl, refl)))
took_by result old last new _ t (inr h) = absurd (not_true h.2)

-- what the answer of a call says that leaves the engine with this stop
abbrev pub CalledBy : {X : Type 0} → Result X Stop → StateView Plain ℕ ℕ → Engine Plain ℕ ℕ → Option Stop → Result (X × Machine ℕ ℕ) Fault → Type 0
CalledBy (Ok x) old new stop told = Called (Ok x) old new stop told
CalledBy (Err (StoppedThrowing code)) old new stop told = (told ≡ Err (Throw code)) × StopsThrown old new code
CalledBy (Err (StoppedEmitting b)) old new stop told = ⊥
CalledBy (Err WantLine) old new stop told = ⊥
CalledBy (Err Halted) old new stop told = ⊥
CalledBy (Err (StoppedRefused offset tag a b why)) old new stop told = ⊥
CalledBy (Err Spent) old new stop told = ⊥
CalledBy (Err NoMemory) old new stop told = ⊥

pub lined_by : (result : Result (Unit {0}) Stop) (old : StateView Plain ℕ ℕ) (last : Token) (new : Engine Plain ℕ ℕ) (told : Result (Unit {0} × Machine ℕ ℕ) Fault)
    → ThrowsAtMost told → Moves false result new (lined old last (leading old told)) → CalledBy result old new None told
lined_by result old last new _ (gives x) (inl h) =
    subst (λ (r : Result (Unit {0}) Stop). CalledBy r old new None (Ok x)) (sym h.0)
    (subst (λ (n : Engine Plain ℕ ℕ). CalledBy (Ok tt) old n None (Ok x)) (sym h.1) (refl, (refl, refl)))
lined_by result old last new _ (throws code) (inl h) =
    subst (λ (r : Result (Unit {0}) Stop). CalledBy r old new None (Err (Throw code))) (sym h.0)
    (subst (λ (n : Engine Plain ℕ ℕ). CalledBy {X = Unit {0}} (Err (StoppedThrowing code)) old n None (Err (Throw code))) (sym h.1) (refl, (refl, refl)))
lined_by result old last new _ t (inr h) = absurd (not_true h.2)

pub finished_by : {X : Type 0} (result : Result X Stop) (old : StateView Plain ℕ ℕ) (last : Token) (new : Engine Plain ℕ ℕ) (told : Result (X × Machine ℕ ℕ) Fault)
    → ThrowsAtMost told → Moves false result new (finished old last (leading old told)) → CalledBy result old new (Some Halted) told
finished_by {X = X} result old last new _ (gives x) (inl h) =
    subst (λ (r : Result X Stop). CalledBy r old new (Some Halted) (Ok x)) (sym h.0)
    (subst (λ (n : Engine Plain ℕ ℕ). CalledBy (Ok x.0) old n (Some Halted) (Ok x)) (sym h.1) (refl, (refl, refl)))
finished_by {X = X} result old last new _ (throws code) (inl h) =
    subst (λ (r : Result X Stop). CalledBy r old new (Some Halted) (Err (Throw code))) (sym h.0)
    (subst (λ (n : Engine Plain ℕ ℕ). CalledBy {X = X} (Err (StoppedThrowing code)) old n (Some Halted) (Err (Throw code))) (sym h.1) (refl, (refl, refl)))
finished_by result old last new _ t (inr h) = absurd (not_true h.2)

-- the end of the input emits nothing, and no line is wanted after it
abbrev pub IsQuiet : Result (Effect × Machine ℕ ℕ) Fault → Type 0
IsQuiet (Ok (Went, m)) = Unit {0}
IsQuiet (Ok (Emit b, m)) = ⊥
IsQuiet (Ok (Want, m)) = ⊥
IsQuiet (Ok (Halt, m)) = Unit {0}
IsQuiet (Err f) = Unit {0}

quiet_after : (r : Result (Unit {0} × Machine ℕ ℕ) Fault) → IsQuiet (after r (λ x. Ok (Went, x.1)))
quiet_after (Ok x) = tt
quiet_after (Err f) = tt

quiet_by : (ops : Ops ℕ ℕ) (w : Wait ℕ) (m : Machine ℕ ℕ) → IsQuiet (outcome_of ops (part_of (end_to (named_wait 0 w))) m (wait_cells w))
quiet_by ops Idle m = tt
quiet_by ops Line m = tt
quiet_by ops Refill m = quiet_after (outcome_of ops push_none m [])
quiet_by ops (Accept a n) m = quiet_after (outcome_of ops push_none m [])

pub end_is_quiet : (ops : Ops ℕ ℕ) (m : Machine ℕ ℕ) → IsQuiet (outcome_of ops give_end m [])
unfolding give_end
end_is_quiet ops m = quiet_by ops m.wait (record m { wait = Idle })

-- a call is answered by no other stop than a throw
pub throws_alone : {X : Type 0} (s : Stop) (old : StateView Plain ℕ ℕ) (new : Engine Plain ℕ ℕ) (stop : Option Stop) (told : Result (X × Machine ℕ ℕ) Fault)
    → CalledBy {X = X} (Err s) old new stop told → thrown_code_of s ≡ None → ⊥
throws_alone (StoppedThrowing code) old new stop told h e = cc
throws_alone (StoppedEmitting b) old new stop told h e = h
throws_alone WantLine old new stop told h e = h
throws_alone Halted old new stop told h e = h
throws_alone (StoppedRefused offset tag a b why) old new stop told h e = h
throws_alone Spent old new stop told h e = h
throws_alone NoMemory old new stop told h e = h
