-- The actions of words that differ only in an operation.
use Rattle.std.specs.Prelude.{ℕ, ◌+◌, Bool}
use Rattle.mi_model.specs.Ops.{Two, One, Test, Division}
use Rattle.mi_model.specs.Ops.Two.{Add, Sub, Mul, And, Or, Xor, LeftShift, RightShift}
use Rattle.mi_model.specs.Ops.One.{Negate, Invert, Half}
use Rattle.mi_model.specs.Ops.Test.{Equal, Less, Below}
use Rattle.mi_model.specs.Ops.Division.{Unsigned, Symmetric, Floored}
use Rattle.mi_model.specs.Action.{Action, ◌>>=◌, ◌>>◌, action_by}
use Rattle.mi_model.specs.Action.AnswerKind.{Effects}
use Rattle.mi_model.specs.Action.Action.{Check}
use Rattle.mi_model.specs.Action.Operand.{Plain, Of}
use Rattle.mi_model.specs.Parts.{needs, one_in, two_in, three_in, return_item, drop, push, single, divide, name, flag}
use Rattle.mi_prims.specs.declared.arithmetic.TwoCells.{TwoCells}
use Rattle.mi_prims.specs.declared.arithmetic.TwoCells.TheVariants as of_two
use Rattle.mi_prims.specs.declared.arithmetic.OneCell.{OneCell}
use Rattle.mi_prims.specs.declared.arithmetic.OneCell.TheVariants as of_one
use Rattle.mi_prims.specs.declared.arithmetic.Comparison.{Comparison}
use Rattle.mi_prims.specs.declared.arithmetic.Comparison.TheVariants as comparison
use Rattle.mi_prims.specs.declared.arithmetic.Rounding.{Rounding}
use Rattle.mi_prims.specs.declared.arithmetic.Rounding.TheVariants as rounding

-- the operations that the code names
abbrev pub two_of : TwoCells → Two
two_of of_two.Add = Add
two_of of_two.Sub = Sub
two_of of_two.Mul = Mul
two_of of_two.And = And
two_of of_two.Or = Or
two_of of_two.Xor = Xor
two_of of_two.LeftShift = LeftShift
two_of of_two.RightShift = RightShift

abbrev pub one_of : OneCell → One
one_of of_one.Negate = Negate
one_of of_one.Invert = Invert
one_of of_one.Half = Half

abbrev pub test_of : Comparison → Test
test_of comparison.Equal = Equal
test_of comparison.Less = Less
test_of comparison.Below = Below

abbrev pub division_of : Rounding → Division
division_of rounding.Unsigned = Unsigned
division_of rounding.Symmetric = Symmetric
division_of rounding.Floored = Floored

-- ( x y -- z )
abbrev pub on_two : Two → Action Effects
on_two op = action_by do
  (x, y) ← two_in 1 0
  z ← name (Of op x y)
  drop 2
  push z

-- ( x -- z )
abbrev pub on_one : One → Action Effects
on_one op = action_by do
  x ← one_in 1 0
  z ← single op x
  drop 1
  push z

-- ( x y -- f )
abbrev pub on_test : Test → Action Effects
on_test op = action_by do
  (x, y) ← two_in 1 0
  is_so ← λ (k : Bool → Action Effects). Check op x y k
  drop 2
  push (flag is_so)

-- ( x -- f ): a test of x and 0
abbrev pub on_zero_test : Test → Action Effects
on_zero_test op = action_by do
  x ← one_in 1 0
  is_so ← λ (k : Bool → Action Effects). Check op x (Plain 0) k
  drop 1
  push (flag is_so)

-- ( low high n -- r q )
abbrev pub on_division : Division → Action Effects
on_division division = action_by do
  (low, high, n) ← three_in 2 0
  (r, q) ← divide division low high n
  drop 3
  push r
  push q

-- ( -- index ): the item of the return stack with n above it
abbrev pub loop_index : (n : ℕ) → Action Effects
loop_index n = action_by do
  needs 0 1 (n + 1) (n + 1)
  index ← return_item n
  push index
