-- The operation for which an action is refused is met on every machine that this one stands for.
use Rattle.std.proofs.Common.{ℕ, ◌≡◌, List, [], ◌∷◌, ◌++◌, Option, Some, Result, Ok, Err, refl, sym, ◌∙◌, ap, subst}
use Rattle.mi_model.specs.declared.Fault.{Fault}
use Rattle.mi_model.specs.declared.Fault.TheVariants.{Throw, Refused, NoMemory}
use Rattle.mi_model.specs.declared.Refusal.{Refusal}
use Rattle.mi_model.specs.declared.Form.{Form}
use Rattle.mi_model.specs.declared.Why.{Why}
use Rattle.mi_model.specs.declared.Why.TheVariants.{Byte}
use Rattle.mi_model.specs.Ops.{Ops}
use Rattle.mi_model.specs.Machine.{Machine}
use Rattle.mi_model.specs.Action.{AnswerKind, Action}
use Rattle.mi_model.specs.Outcome.{outcome_of}
use Rattle.mi_model.specs.Stands.{Each, Simulates, MachineStands}
use Rattle.mi_model.specs.Met.{Operation, operations_met, Begins}
use Rattle.mi_model.specs.Met.Begins.{next}
use Rattle.mi_model.specs.Refusals.{refusal_of, EndsRefused, RefusesBytes, Includes}
use Rattle.mi_model.proofs.Meets.{meets, meets_begins}
use Rattle.mi_model.proofs.Refused.{Traced, refused_action}
use Rattle.mi_model.proofs.Refused.Traced.{answered, thrown, no_memory, of_byte, refused_last}

same_refusal : (e : Refusal) (a b : Form) (why : Why) → e.first ≡ a → e.second ≡ b → e.why ≡ why → e ≡ record { first = a; second = b; why = why }
same_refusal e a b why p q r = rw (← p) (rw (← q) (rw (← r) refl))

-- the last operation is the refused one, where the reason isn't Byte
last_refused : {C B X : Type 0} {ops : Ops C B} {xs : List (Operation C)} {r : Result X Fault} (a b : Form) (why : Why) → Traced ops xs r → r ≡ Err (Refused a b why) → (why ≡ Byte → ⊥) → EndsRefused ops xs (record { first = a; second = b; why = why })
last_refused a b why (answered x) h other = absurd (cc)
last_refused a b why (thrown code) h other = absurd (cc)
last_refused a b why no_memory h other = absurd (cc)
last_refused a b why (of_byte c d) h other = absurd (other (cc))
last_refused {ops} {xs} a b why (refused_last e g) h other =
    let P : Refusal → Type 0 = λ (f : Refusal). EndsRefused ops xs f in subst P (same_refusal e a b why (cc) (cc) (cc)) g

-- the last of the operations that begin others is among them
begun_includes : {C D : Type 0} {cell : C → D → Type 0} (front : List (Operation C)) (x : Operation C) {ys : List (Operation D)} → Begins cell (front ++ x ∷ []) ys → Includes cell x ys
begun_includes [] x (next {y} {ys} h b) = record { before = []; same = y; later = ys; split = refl; stands = h }
begun_includes (f ∷ fs) x (next {y} h b) =
    let i = begun_includes fs x b in
    record { before = y ∷ i.before; same = i.same; later = i.later; split = ap (λ zs. y ∷ zs) i.split; stands = i.stands }

module _ {C B D E : Type 0} (cell : C → D → Type 0) (byte : B → E → Type 0) (O : Ops C B) (P : Ops D E) (laws : Simulates cell byte O P) (of_bytes : RefusesBytes O) where
  pub refused_is_met : {i : AnswerKind} (action : Action i) (m : Machine C B) (n : Machine D E) (names : List C) (names' : List D) (a b : Form) (why : Why)
      → MachineStands cell byte m n → Each cell names names' → outcome_of O action m names ≡ Err (Refused a b why) → (why ≡ Byte → ⊥)
      → (x : Operation C) × (refusal_of O x ≡ Some (record { first = a; second = b; why = why })) × Includes cell x (operations_met P action n names')
  refused_is_met action m n names names' a b why h e refused other =
      let last = last_refused a b why (refused_action O of_bytes action m names) refused other in
      let begun = meets_begins _ (meets cell byte O P laws action m n names names' h e) in
      let Begun : List (Operation C) → Type 0 = λ (xs : List (Operation C)). Begins cell xs (operations_met P action n names') in
      (last.last, last.refused, begun_includes last.front last.last (subst Begun last.ends begun))
