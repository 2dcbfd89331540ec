-- Which operation it is that an arithmetic refuses.
use Rattle.std.specs.Prelude.{ℕ, ◌≡◌, List, [], ◌∷◌, ◌++◌, Option, None, Some, Result, Ok, Err}
use Rattle.mi_model.specs.declared.Form.{Form}
use Rattle.mi_model.specs.declared.Refusal.{Refusal}
use Rattle.mi_model.specs.declared.Eight.{Eight}
use Rattle.mi_model.specs.declared.Why.TheVariants.{Byte}
use Rattle.mi_model.specs.Ops.{Ops}
use Rattle.mi_model.specs.Forms.{plain_form}
use Rattle.mi_model.specs.OriginOps.{origin_ops}
use Rattle.mi_model.specs.Met.{Operation, OperationStands}
use Rattle.mi_model.specs.Met.Operation.{OnTwo, OnOne, OnTest, OnProduct, OnDivide, OnPlace, OnTag, OnNumber}

abbrev pub refusal_in : {X : Type 0} → Result X Refusal → Option Refusal
refusal_in (Ok x) = None
refusal_in (Err e) = Some e

-- the refusal of an operation, if the arithmetic refuses it
abbrev pub refusal_of : {C B : Type 0} → Ops C B → Operation C → Option Refusal
refusal_of ops (OnTwo op a b) = refusal_in (ops.two op a b)
refusal_of ops (OnOne op a) = refusal_in (ops.one op a)
refusal_of ops (OnTest op a b) = refusal_in (ops.test op a b)
refusal_of ops (OnProduct a b) = refusal_in (ops.product a b)
refusal_of ops (OnDivide division a b c) = refusal_in (ops.divide division a b c)
refusal_of ops (OnPlace a) = refusal_in (ops.place a)
refusal_of ops (OnTag a) = refusal_in (ops.tag a)
refusal_of ops (OnNumber a) = refusal_in (ops.number a)

-- of these operations the last one is refused so
pub record EndsRefused {C B : Type 0} (ops : Ops C B) (operations : List (Operation C)) (refusal : Refusal) : Type 0 where
  pub front : List (Operation C)
  pub last : Operation C
  pub ends : operations ≡ front ++ last ∷ []
  pub refused : refusal_of ops last ≡ Some refusal

-- bytes, and what is made of them, are refused for the reason Byte alone
pub record RefusesBytes {C B : Type 0} (ops : Ops C B) : Type 0 where
  pub value : (b : B) (e : Refusal) → ops.value b ≡ Err e → e.why ≡ Byte
  pub low_byte : (a : C) (e : Refusal) → ops.low_byte a ≡ Err e → e.why ≡ Byte
  pub join : (b : Eight B) (e : Refusal) → ops.join b ≡ Err e → e.why ≡ Byte

-- the two forms that the refusal of an operation names: for a division the low cell and the divisor, for an operation of
-- one form that form and 0
abbrev pub first_operand : Operation Form → Form
first_operand (OnTwo op a b) = a
first_operand (OnOne op a) = a
first_operand (OnTest op a b) = a
first_operand (OnProduct a b) = a
first_operand (OnDivide division a b c) = a
first_operand (OnPlace a) = a
first_operand (OnTag a) = a
first_operand (OnNumber a) = a

abbrev pub second_operand : Operation Form → Form
second_operand (OnTwo op a b) = b
second_operand (OnOne op a) = plain_form 0
second_operand (OnTest op a b) = b
second_operand (OnProduct a b) = b
second_operand (OnDivide division a b c) = c
second_operand (OnPlace a) = plain_form 0
second_operand (OnTag a) = plain_form 0
second_operand (OnNumber a) = plain_form 0

-- among these operations is one that an operation stands for
pub record Includes {C D : Type 0} (cell : C → D → Type 0) (x : Operation C) (operations : List (Operation D)) : Type 0 where
  pub before : List (Operation D)
  pub same : Operation D
  pub later : List (Operation D)
  pub split : operations ≡ before ++ same ∷ later
  pub stands : OperationStands cell x same

-- an operation on forms that is refused so, and whose two operands the refusal names, stands for one of these on numbers
pub record MeetsRefused (size : ℕ) (cell : Form → ℕ → Type 0) (refusal : Refusal) (operations : List (Operation ℕ)) : Type 0 where
  pub operation : Operation Form
  pub refused : refusal_of (origin_ops size) operation ≡ Some refusal
  pub first : first_operand operation ≡ refusal.first
  pub second : second_operand operation ≡ refusal.second
  pub met : Includes cell operation operations
