-- An arithmetic that refuses nothing.
use Rattle.std.specs.Prelude.{ℤ, Result, Ok, Err}
use Rattle.mi_model.specs.declared.Fault.{Fault}
use Rattle.mi_model.specs.declared.Fault.TheVariants.{Throw}
use Rattle.mi_model.specs.declared.Refusal.{Refusal}
use Rattle.mi_model.specs.declared.Eight.{Eight}
use Rattle.mi_model.specs.Ops.{Ops, Two, One, Test, Division}

-- an operation was answered
pub data IsAnswered {X : Type 0} : Result X Refusal → Type 0 where
  answered : (x : X) → IsAnswered (Ok x)

-- each operation that an action may name has an answer
pub record Answers {C B : Type 0} (ops : Ops C B) : Type 0 where
  pub two : (op : Two) (x y : C) → IsAnswered (ops.two op x y)
  pub one : (op : One) (x : C) → IsAnswered (ops.one op x)
  pub test : (op : Test) (x y : C) → IsAnswered (ops.test op x y)
  pub product : (x y : C) → IsAnswered (ops.product x y)
  pub divide : (division : Division) (low high by : C) → IsAnswered (ops.divide division low high by)
  pub place : (x : C) → IsAnswered (ops.place x)
  pub tag : (x : C) → IsAnswered (ops.tag x)
  pub number : (x : C) → IsAnswered (ops.number x)
  pub value : (b : B) → IsAnswered (ops.value b)
  pub low_byte : (x : C) → IsAnswered (ops.low_byte x)
  pub join : (b : Eight B) → IsAnswered (ops.join b)

-- there is an answer or a throw, but no refusal and no want of memory
pub data ThrowsAtMost {X : Type 0} : Result X Fault → Type 0 where
  gives : (x : X) → ThrowsAtMost (Ok x)
  throws : (code : ℤ) → ThrowsAtMost (Err (Throw code))
