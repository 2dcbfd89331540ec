-- What an arithmetic of forms refuses: bytes for the reason Byte alone, and each operation with its operands.
use Rattle.std.proofs.Common.{ℕ, ◌≡◌, Bool, true, false, cond, List, [], Option, None, Some, Result, Ok, Err, refl, sym, ◌∙◌, ap}
use Rattle.mi_model.specs.declared.Form.{Form}
use Rattle.mi_model.specs.declared.Pair.{Pair}
use Rattle.mi_model.specs.declared.OriginByte.{OriginByte}
use Rattle.mi_model.specs.declared.OriginByte.TheVariants.{Plain, Part}
use Rattle.mi_model.specs.declared.Eight.{Eight}
use Rattle.mi_model.specs.declared.Refusal.{Refusal}
use Rattle.mi_model.specs.declared.Why.{Why}
use Rattle.mi_model.specs.declared.Why.TheVariants.{Byte}
use Rattle.mi_model.specs.declared.Fault.TheVariants.{Refused}
use Rattle.mi_model.specs.Pairs.{IsAllowedPair}
use Rattle.mi_model.specs.Plain.{plain_ops}
use Rattle.mi_model.specs.Machine.{Machine}
use Rattle.mi_model.specs.Action.{AnswerKind, Action}
use Rattle.mi_model.specs.Outcome.{outcome_of}
use Rattle.mi_model.specs.Stands.{MachineStands}
use Rattle.mi_model.specs.Stands.Each.{none}
use Rattle.mi_model.specs.Forms.{plain_form, IsSize}
use Rattle.mi_model.specs.OriginOps.{origin_ops, with_operands, value_of, low_byte_of, joined, joined_from, FormStands, ByteStands}
use Rattle.mi_model.specs.Met.{Operation, operations_met}
use Rattle.mi_model.specs.Met.Operation.{OnTwo, OnOne, OnTest, OnProduct, OnDivide, OnPlace, OnTag, OnNumber}
use Rattle.mi_model.specs.Refusals.{refusal_in, refusal_of, RefusesBytes, first_operand, second_operand, MeetsRefused}
use Rattle.mi_model.proofs.RefusedMet.{refused_is_met}
use Rattle.mi_form.proofs.Stand.{origin_stands}

refusal_is : {A : Type 0} (e f : Refusal) → (let r : Result A Refusal = Err e in r) ≡ Err f → e ≡ f
refusal_is e f h = cc

-- a reason is Byte where the answer has no other
byte_alone : {A : Type 0} (b : Bool) (v : A) (why : Why) → cond b (Ok v) (Err Byte) ≡ Err why → why ≡ Byte
byte_alone true v why h = absurd (cc)
byte_alone false v why h = cc

with_byte : {A : Type 0} (x y : Form) (r : Result A Why) (e : Refusal) → ((why : Why) → r ≡ Err why → why ≡ Byte) → with_operands x y r ≡ Err e → e.why ≡ Byte
with_byte x y (Ok v) e k h = absurd (cc)
with_byte {A} x y (Err why) e k h = ap (λ (f : Refusal). f.why) (sym (refusal_is {A = A} _ e h)) ∙ k why refl

value_byte : (b : OriginByte) (e : Refusal) → value_of b ≡ Err e → e.why ≡ Byte
value_byte (Plain n) e h = absurd (cc)
value_byte (Part form i) e h = with_byte form (plain_form 0) _ e (λ why g. byte_alone _ _ why g) h

joined_byte : (b : OriginByte) (bytes : Eight OriginByte) (why : Why) → joined_from b bytes ≡ Err why → why ≡ Byte
joined_byte (Plain n) bytes why h = byte_alone _ _ why h
joined_byte (Part form i) bytes why h = byte_alone _ _ why h

pub refuses_bytes : (size : ℕ) → RefusesBytes (origin_ops size)
unfolding origin_ops
refuses_bytes size = record {
  value = value_byte;
  low_byte = λ a e h. with_byte a (plain_form 0) (low_byte_of a) e (λ why g. byte_alone _ _ why g) h;
  join = λ b e h. with_byte (plain_form 0) (plain_form 0) (joined b) e (λ why g. joined_byte b.b0 b why g) h;
}

-- the operands of a refusal
operands : {A : Type 0} (x y : Form) (r : Result A Why) (e : Refusal) → refusal_in (with_operands x y r) ≡ Some e → (x ≡ e.first) × (y ≡ e.second)
operands x y (Ok v) e h = absurd (cc)
operands x y (Err why) e h = let same : record { first = x; second = y; why = why } ≡ e = cc in (ap (λ (f : Refusal). f.first) same, ap (λ (f : Refusal). f.second) same)

pub refused_operands : (size : ℕ) (x : Operation Form) (e : Refusal) → refusal_of (origin_ops size) x ≡ Some e → (first_operand x ≡ e.first) × (second_operand x ≡ e.second)
unfolding origin_ops
refused_operands size (OnTwo op a b) e h = operands a b _ e h
refused_operands size (OnOne op a) e h = operands a (plain_form 0) _ e h
refused_operands size (OnTest op a b) e h = operands a b _ e h
refused_operands size (OnProduct a b) e h = operands a b _ e h
refused_operands size (OnDivide division a b c) e h = operands a c _ e h
refused_operands size (OnPlace a) e h = operands a (plain_form 0) _ e h
refused_operands size (OnTag a) e h = operands a (plain_form 0) _ e h
refused_operands size (OnNumber a) e h = operands a (plain_form 0) _ e h

-- a refused operation is met at each allowed pair, on the values of the forms that the refusal names
pub meets_refused : (size : ℕ) (pair : Pair) (kind : AnswerKind) (action : Action kind) (m : Machine Form OriginByte) (n : Machine ℕ ℕ) (first second : Form) (why : Why) → IsSize size → IsAllowedPair pair
    → MachineStands (FormStands pair) (ByteStands pair) m n → outcome_of (origin_ops size) action m [] ≡ Err (Refused first second why) → (why ≡ Byte → ⊥)
    → MeetsRefused size (FormStands pair) (record { first = first; second = second; why = why }) (operations_met (plain_ops pair size) action n [])
meets_refused size pair kind action m n first second why is_size allowed stands refused other =
    let met = refused_is_met (FormStands pair) (ByteStands pair) (origin_ops size) (plain_ops pair size) (origin_stands size pair is_size allowed) (refuses_bytes size) action m n [] [] first second why stands none refused other in
    let named = refused_operands size met.0 (record { first = first; second = second; why = why }) met.1 in
    record { operation = met.0; refused = met.1; first = named.0; second = named.1; met = met.2 }
