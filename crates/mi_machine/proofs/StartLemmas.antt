-- A run over plain numbers starts and a recovery goes on, whatever the machine is.
use Rattle.std.proofs.Common.{[], ◌∷◌, ℕ, ◌≡◌, inl, inr, Bool, true, false, refl, sym, ap, subst, Result, Ok, Err, Option, None}
use Rattle.std.specs.Option.{is_some}
use Rattle.mi_model.specs.declared.Fault.{Fault}
use Rattle.mi_model.specs.declared.Pair.{Pair}
use Rattle.mi_model.specs.declared.Token.{Token}
use Rattle.mi_model.specs.Layout.{interpreter_loop, after_entry}
use Rattle.mi_model.specs.Region.{fetch_at}
use Rattle.mi_model.specs.Plain.{plain_ops}
use Rattle.mi_model.specs.Machine.{Machine}
use Rattle.mi_model.specs.Action.{◌>>◌, give, part_of}
use Rattle.mi_model.specs.Action.Operand.{Named, Address}
use Rattle.mi_model.specs.Action.AnswerKind.{Truths}
use Rattle.mi_model.specs.Parts.{choose, set_due, set_ip}
use Rattle.mi_model.specs.Outcome.{outcome_of}
use Rattle.mi_model.specs.Sources.{restart}
use Rattle.mi_model.specs.Recovery.{recover}
use Rattle.mi_model.specs.Run.{start_entry}
use Rattle.mi_arith.specs.declared.plain.Plain.{Plain}
use Rattle.mi_region.specs.View.{StateView, leading}
use Rattle.mi_machine.specs.Engine.{Engine, Moves, started}
use Rattle.mi_machine.specs.declared.machine.Stop.{Stop}
use Rattle.mi_machine.specs.declared.machine.Stop.TheVariants.{Halted, WantLine, Emit as StoppedEmitting, Thrown as StoppedThrowing, Refused as StoppedRefused, Spent, NoMemory}
use Rattle.mi_machine.specs.Steps.{GoesOn}
use Rattle.mi_machine.proofs.Recovered.{recovered}
use Rattle.mi_machine.proofs.StepLemmas.{CalledBy, not_true}

-- the start of a run is answered by whether a token is due after it
abbrev pub IsStart : Result (Bool × Machine ℕ ℕ) Fault → Type 0
IsStart (Ok r) = r.0 ≡ is_some r.1.due
IsStart (Err f) = ⊥

-- where the cell ENTRY was read, and the look at it was answered
start_by : (pair : Pair) (size : ℕ) (m : Machine ℕ ℕ) (entry : ℕ) (none : Bool) → m.due ≡ None
    → IsStart (outcome_of (plain_ops pair size) (part_of {j = Truths} (choose none (set_ip (Address interpreter_loop) >> give false) (set_due (Named 0) >> set_ip (Address after_entry) >> give true))) m (entry ∷ []))
start_by pair size m entry true fresh = rw fresh refl
start_by pair size m entry false fresh = refl

pub start_is_told : (pair : Pair) (size : ℕ) (m : Machine ℕ ℕ) → m.due ≡ None → IsStart (outcome_of (plain_ops pair size) start_entry m [])
unfolding start_entry plain_ops fetch_at
start_is_told pair size m fresh = start_by pair size m _ _ fresh

-- what the answer of a start says
abbrev pub StartedBy : Result (Unit {0}) Stop → StateView Plain ℕ ℕ → Engine Plain ℕ ℕ → Result (Bool × Machine ℕ ℕ) Fault → Type 0
StartedBy (Ok x) old new told = (told ≡ Ok (is_some new.state.machine.due, new.state.machine)) × GoesOn old new None
StartedBy (Err s) old new told = ⊥

pub started_by : (result : Result (Unit {0}) Stop) (old : StateView Plain ℕ ℕ) (last : Token) (new : Engine Plain ℕ ℕ) (told : Result (Bool × Machine ℕ ℕ) Fault)
    → IsStart told → Moves false result new (started old last (leading old told)) → StartedBy result old new told
started_by result old last new (Ok r) is (inl h) =
    subst (λ (a : Result (Unit {0}) Stop). StartedBy a old new (Ok r)) (sym h.0)
    (subst (λ (n : Engine Plain ℕ ℕ). StartedBy (Ok tt) old n (Ok r)) (sym h.1) (ap (λ (b : Bool). Ok (b, r.1)) is, (refl, refl)))
started_by result old last new (Err f) is (inl h) = absurd is
started_by result old last new told is (inr h) = absurd (not_true h.2)

-- a recovery gives a machine
pub recovery_is_told : (pair : Pair) (size : ℕ) (m : Machine ℕ ℕ) → (n : Machine ℕ ℕ) × (outcome_of (plain_ops pair size) recover m [] ≡ Ok (tt, n))
unfolding restart
recovery_is_told pair size m = (_, recovered (plain_ops pair size) m)

-- a call that gives a value is answered by no stop
pub gives_alone : {X : Type 0} (s : Stop) (old : StateView Plain ℕ ℕ) (new : Engine Plain ℕ ℕ) (stop : Option Stop) (told : Result (X × Machine ℕ ℕ) Fault) (r : X × Machine ℕ ℕ)
    → CalledBy {X = X} (Err s) old new stop told → told ≡ Ok r → ⊥
gives_alone (StoppedThrowing code) old new stop told r h e = cc
gives_alone (StoppedEmitting b) old new stop told r h e = h
gives_alone WantLine old new stop told r h e = h
gives_alone Halted old new stop told r h e = h
gives_alone (StoppedRefused offset tag a b why) old new stop told r h e = h
gives_alone Spent old new stop told r h e = h
gives_alone NoMemory old new stop told r h e = h
