-- Runs that aren't begun.
use Rattle.std.proofs.Common.{◌≡◌, ℕ, List, [], Option, None, Some, Result, Ok, Err, IfSome, refl, sym, ◌∙◌, ap, subst, append-nil}
use Rattle.std.specs.Prelude.{◌↔◌, IsErrOf}
use Rattle.mi_model.specs.declared.Pair.{Pair}
use Rattle.mi_model.specs.Run.{RunEnd as ModelEnd}
use Rattle.mi_outside.specs.Written.{Emits}
use Rattle.mi_reloc.specs.declared.loading.LoadFault.{LoadFault}
use Rattle.mi_reloc.specs.declared.loading.LoadFault.TheVariants as faults
use Rattle.mi_reloc.specs.declared.ending.RunEnd.{RunEnd}
use Rattle.mi_reloc.specs.declared.ending.RunEnd.TheVariants.{Bye, Thrown, Spent, ReadFault, WriteFault, InputTooLong, PairNotAllowed, MadeFor, NoMemory}
use Rattle.mi_run.specs.Ending.{EndsAs, WritesAs, KeepsLast, IsRefusal}

pub refusal_ends : (end : RunEnd) (turns : ℕ) (told : ModelEnd) → IsRefusal end → EndsAs end turns told
refusal_ends Bye turns told h = absurd h
refusal_ends (Thrown code) turns told h = absurd h
refusal_ends (Spent taken) turns told h = absurd h
refusal_ends InputTooLong turns told h = absurd h
refusal_ends ReadFault turns told h = absurd h
refusal_ends WriteFault turns told h = absurd h
refusal_ends PairNotAllowed turns told h = tt
refusal_ends (MadeFor pair) turns told h = tt
refusal_ends NoMemory turns told h = tt

pub emits_none : (first : Option (List ℕ)) → Emits first first []
emits_none None = tt
emits_none (Some b) = sym (append-nil b)

pub refusal_writes : (end : RunEnd) (old : Option (List ℕ)) (bytes : List ℕ) → IsRefusal end → WritesAs end old old bytes
refusal_writes Bye old bytes h = absurd h
refusal_writes (Thrown code) old bytes h = absurd h
refusal_writes (Spent taken) old bytes h = absurd h
refusal_writes InputTooLong old bytes h = absurd h
refusal_writes ReadFault old bytes h = absurd h
refusal_writes WriteFault old bytes h = absurd h
refusal_writes PairNotAllowed old bytes h = emits_none old
refusal_writes (MadeFor pair) old bytes h = emits_none old
refusal_writes NoMemory old bytes h = emits_none old

pub refusal_keeps : (end : RunEnd) (last : ℕ) (bytes : List ℕ) → IsRefusal end → KeepsLast end last last bytes
refusal_keeps Bye last bytes h = absurd h
refusal_keeps (Thrown code) last bytes h = absurd h
refusal_keeps (Spent taken) last bytes h = absurd h
refusal_keeps InputTooLong last bytes h = absurd h
refusal_keeps ReadFault last bytes h = absurd h
refusal_keeps WriteFault last bytes h = absurd h
refusal_keeps PairNotAllowed last bytes h = refl
refusal_keeps (MadeFor pair) last bytes h = refl
refusal_keeps NoMemory last bytes h = refl

pub silent_where_same : {O : Type 0} (written : O → Option (List ℕ)) (old new : O) → new ≡ old → Emits (written old) (written new) []
silent_where_same {O} written old new e = subst (λ (x : O). Emits (written old) (written x) []) (sym e) (emits_none (written old))

pub for_each : {A : Type 0} (o : Option A) (P : A → Type 0) → ((x : A) → P x) → IfSome o P
for_each None P h = tt
for_each (Some x) P h = h x

-- the only refusal of a run on a machine is that there is no memory
pub no_pair : (r : RunEnd) → (IsRefusal r → r ≡ NoMemory) → r ≡ PairNotAllowed → ⊥
no_pair r h e = let k : PairNotAllowed ≡ NoMemory = sym e ∙ h (subst IsRefusal (sym e) tt) in cc

pub no_made_for : (r : RunEnd) (pair : Pair) → (IsRefusal r → r ≡ NoMemory) → r ≡ MadeFor pair → ⊥
no_made_for r pair h e = let k : MadeFor pair ≡ NoMemory = sym e ∙ h (subst IsRefusal (sym e) tt) in cc

pub ok_is_no_error : {S E : Type 0} (s : S) (e : E) → ◌≡◌ {A = Result S E} (Ok s) (Err e) → ⊥
ok_is_no_error s e h = cc

error_or : {S : Type 0} → RunEnd → Result S RunEnd → RunEnd
error_or d (Ok s) = d
error_or d (Err e) = e

pub same_error : {S : Type 0} (a b : RunEnd) → ◌≡◌ {A = Result S RunEnd} (Err a) (Err b) → a ≡ b
unfolding error_or
same_error {S = S} a b h = ap (error_or {S = S} a) h

made_for_or : Pair → RunEnd → Pair
made_for_or d (MadeFor pair) = pair
made_for_or d e = d

loaded_or : Pair → LoadFault → Pair
loaded_or d (faults.MadeFor pair) = pair
loaded_or d e = d

error_of : {S : Type 0} → LoadFault → Result S LoadFault → LoadFault
error_of d (Ok s) = d
error_of d (Err e) = e

-- what loading refuses, the run does
pub made_for_other : {S T X : Type 0} (r : Result S LoadFault) (o other : Pair) → r ≡ Err (faults.MadeFor o) → (IsErrOf r (faults.MadeFor other) ↔ X) → (IsErrOf {T = T} (Err (MadeFor o)) (MadeFor other) ↔ X)
unfolding error_or made_for_or loaded_or error_of
made_for_other {S = S} {T = T} r o other is h = (
  λ e. h.0 (is ∙ ap (λ (p : Pair). let x : Result S LoadFault = Err (faults.MadeFor p) in x) (ap (λ (x : Result T RunEnd). made_for_or o (error_or (MadeFor o) x)) e)),
  λ x. let k : ◌≡◌ {A = Result S LoadFault} (Err (faults.MadeFor o)) (Err (faults.MadeFor other)) = sym is ∙ h.1 x in ap (λ (p : Pair). let x : Result T RunEnd = Err (MadeFor p) in x) (ap (λ (y : Result S LoadFault). loaded_or o (error_of (faults.MadeFor o) y)) k),
)

pub made_for_none : {S T X : Type 0} (r : Result S LoadFault) (other : Pair) → r ≡ Err faults.NoMemory → (IsErrOf r (faults.MadeFor other) ↔ X) → (IsErrOf {T = T} (Err NoMemory) (MadeFor other) ↔ X)
made_for_none {S = S} r other is h = (λ e. cc, λ x. let k : ◌≡◌ {A = Result S LoadFault} (Err faults.NoMemory) (Err (faults.MadeFor other)) = sym is ∙ h.1 x in cc)

pub made_for_ok : {S T X : Type 0} (r : Result S LoadFault) (s : S) (t : T) (other : Pair) → r ≡ Ok s → (IsErrOf r (faults.MadeFor other) ↔ X) → (IsErrOf (Ok t) (MadeFor other) ↔ X)
made_for_ok {S = S} r s t other is h = (λ e. cc, λ x. let k : ◌≡◌ {A = Result S LoadFault} (Ok s) (Err (faults.MadeFor other)) = sym is ∙ h.1 x in cc)
