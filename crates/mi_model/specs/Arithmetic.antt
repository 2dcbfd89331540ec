-- The actions on numbers.
use Rattle.mi_model.specs.Ops.One.{Negate, Invert, Half}
use Rattle.mi_model.specs.Ops.Division.{Unsigned, Symmetric, Floored}
use Rattle.mi_model.specs.Action.{Action, ◌>>=◌, ◌>>◌, action_by}
use Rattle.mi_model.specs.Action.Operand.{Plain}
use Rattle.mi_model.specs.Action.AnswerKind.{Effects}
use Rattle.mi_model.specs.Parts.{one_in, two_in, three_in, drop, push, single, product, divide, equal, less, below, name, flag, ◌add◌, ◌subtract◌, ◌multiply◌, ◌and◌, ◌or◌, ◌xor◌, ◌left_shift◌, ◌right_shift◌}

-- + ( x y -- z )
abbrev pub do_plus : Action Effects
do_plus = action_by do
  (x, y) ← two_in 1 0
  z ← name (x add y)
  drop 2
  push z

-- - ( x y -- z )
abbrev pub do_minus : Action Effects
do_minus = action_by do
  (x, y) ← two_in 1 0
  z ← name (x subtract y)
  drop 2
  push z

-- * ( x y -- z )
abbrev pub do_times : Action Effects
do_times = action_by do
  (x, y) ← two_in 1 0
  z ← name (x multiply y)
  drop 2
  push z

-- NEGATE ( x -- z )
abbrev pub do_negate : Action Effects
do_negate = action_by do
  x ← one_in 1 0
  z ← single Negate x
  drop 1
  push z

-- INVERT ( x -- z ): every bit of x turned over
abbrev pub do_invert : Action Effects
do_invert = action_by do
  x ← one_in 1 0
  z ← single Invert x
  drop 1
  push z

-- AND ( x y -- z )
abbrev pub do_and : Action Effects
do_and = action_by do
  (x, y) ← two_in 1 0
  z ← name (x and y)
  drop 2
  push z

-- OR ( x y -- z )
abbrev pub do_or : Action Effects
do_or = action_by do
  (x, y) ← two_in 1 0
  z ← name (x or y)
  drop 2
  push z

-- XOR ( x y -- z )
abbrev pub do_xor : Action Effects
do_xor = action_by do
  (x, y) ← two_in 1 0
  z ← name (x xor y)
  drop 2
  push z

-- LSHIFT ( x u -- z )
abbrev pub do_lshift : Action Effects
do_lshift = action_by do
  (x, u) ← two_in 1 0
  z ← name (x left_shift u)
  drop 2
  push z

-- RSHIFT ( x u -- z ): the bits that come in are 0
abbrev pub do_rshift : Action Effects
do_rshift = action_by do
  (x, u) ← two_in 1 0
  z ← name (x right_shift u)
  drop 2
  push z

-- 2/ ( x -- z ): half of a signed number, rounded down
abbrev pub do_two_slash : Action Effects
do_two_slash = action_by do
  x ← one_in 1 0
  z ← single Half x
  drop 1
  push z

-- UM* ( x y -- low high ): the product of unsigned numbers, as a double cell
abbrev pub do_um_times : Action Effects
do_um_times = action_by do
  (x, y) ← two_in 2 0
  (low, high) ← product x y
  drop 2
  push low
  push high

-- UM/MOD ( low high u -- r q ): remainder and quotient of unsigned numbers; throw -10 where u is 0, -11 where the
-- quotient doesn't fit a cell
abbrev pub do_um_slash_mod : Action Effects
do_um_slash_mod = action_by do
  (low, high, u) ← three_in 2 0
  (r, q) ← divide Unsigned low high u
  drop 3
  push r
  push q

-- SM/REM ( low high n -- r q ): the same of signed numbers, the quotient cut towards zero; throws as UM/MOD
abbrev pub do_sm_slash_rem : Action Effects
do_sm_slash_rem = action_by do
  (low, high, n) ← three_in 2 0
  (r, q) ← divide Symmetric low high n
  drop 3
  push r
  push q

-- FM/MOD ( low high n -- r q ): the same of signed numbers, the quotient rounded down; throws as UM/MOD
abbrev pub do_fm_slash_mod : Action Effects
do_fm_slash_mod = action_by do
  (low, high, n) ← three_in 2 0
  (r, q) ← divide Floored low high n
  drop 3
  push r
  push q

-- = ( x y -- f )
abbrev pub do_equal : Action Effects
do_equal = action_by do
  (x, y) ← two_in 1 0
  same ← equal x y
  drop 2
  push (flag same)

-- < ( x y -- f ): of signed numbers
abbrev pub do_less : Action Effects
do_less = action_by do
  (x, y) ← two_in 1 0
  smaller ← less x y
  drop 2
  push (flag smaller)

-- U< ( x y -- f ): of unsigned numbers
abbrev pub do_u_less : Action Effects
do_u_less = action_by do
  (x, y) ← two_in 1 0
  smaller ← below x y
  drop 2
  push (flag smaller)

-- 0= ( x -- f )
abbrev pub do_zero_equal : Action Effects
do_zero_equal = action_by do
  x ← one_in 1 0
  is_zero ← equal x (Plain 0)
  drop 1
  push (flag is_zero)

-- 0< ( x -- f )
abbrev pub do_zero_less : Action Effects
do_zero_less = action_by do
  x ← one_in 1 0
  negative ← less x (Plain 0)
  drop 1
  push (flag negative)
