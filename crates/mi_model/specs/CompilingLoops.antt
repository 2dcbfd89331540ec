-- The actions of the words that compile counted loops. The cell LEAVES has the chain of the branches that leave the
-- innermost loop, or 1 where there is no loop.
use Rattle.std.specs.Prelude.{ℕ, ◌+◌, not, [], ◌∷◌}
use Rattle.mi_model.specs.Layout.{dp_cell, leaves_cell}
use Rattle.mi_model.specs.Machine.{control_mismatch}
use Rattle.mi_model.specs.Action.{Action, ◌>>=◌, ◌>>◌, action_by, call}
use Rattle.mi_model.specs.Action.Operand.{At, Plain, Address}
use Rattle.mi_model.specs.Action.AnswerKind.{Effects}
use Rattle.mi_model.specs.Parts.{require, needs, three_in, drop, push, equal, name, put_cell, room, token_of}
use Rattle.mi_model.specs.Branching.{require_kind, lay_branch}
use Rattle.mi_model.specs.Chains.{chain_length, resolve}

-- the kind of a loop, on top; under it the address of its body, and under that LEAVES as it was outside the loop
abbrev pub loop_sys : ℕ
loop_sys = 3

-- DO ( -- v d 3 ): compiles (DO); v is LEAVES, which becomes 0, and d is HERE behind it
abbrev pub do_do : Action Effects
do_do = action_by do
  needs 0 3 0 0
  leaves ← name (At leaves_cell)
  p ← call (room 1) []
  put_cell leaves_cell (Plain 0)
  put_cell p (token_of 12)  -- (DO)
  put_cell dp_cell (Address (p + 8))
  push leaves
  push (Address (p + 8))
  push (Plain loop_sys)

-- ?DO ( -- v d 3 ): compiles (?DO) and 0 at o; v is LEAVES, which becomes o, and d is HERE behind them
abbrev pub do_question_do : Action Effects
do_question_do = action_by do
  needs 0 3 0 0
  leaves ← name (At leaves_cell)
  p ← call (room 2) []
  call (lay_branch 13 p) (Plain 0 ∷ [])  -- (?DO)
  put_cell leaves_cell (Address (p + 8))
  push leaves
  push (Address (p + 16))
  push (Plain loop_sys)

-- the end of a loop that is compiled with the word of this tag: ( v d 3 -- )
abbrev pub end_loop : (tag : ℕ) → Action Effects
end_loop tag = action_by do
  (outer, body, kind) ← three_in 0 0
  require_kind kind loop_sys
  p ← call (room 2) []
  leaves ← name (At leaves_cell)
  count ← call chain_length (leaves ∷ [])
  call (resolve count) (leaves ∷ Address (p + 16) ∷ [])
  call (lay_branch tag p) (body ∷ [])
  put_cell leaves_cell outer
  drop 3

-- LOOP ( v d 3 -- ): compiles (LOOP) and d; the chain of LEAVES goes behind them, and LEAVES becomes v
abbrev pub do_loop : Action Effects
do_loop = end_loop 14  -- (LOOP)

-- +LOOP ( v d 3 -- ): the same with (+LOOP)
abbrev pub do_plus_loop : Action Effects
do_plus_loop = end_loop 15  -- (+LOOP)

-- LEAVE ( -- ): compiles UNLOOP, (BRANCH) and LEAVES at o; LEAVES becomes o
abbrev pub do_leave : Action Effects
do_leave = action_by do
  leaves ← name (At leaves_cell)
  outside ← equal leaves (Plain 1)
  require (not outside) control_mismatch
  p ← call (room 3) []
  put_cell p (token_of 16)  -- UNLOOP
  put_cell (p + 8) (token_of 10)  -- (BRANCH)
  put_cell (p + 16) leaves
  put_cell dp_cell (Address (p + 24))
  put_cell leaves_cell (Address (p + 16))
