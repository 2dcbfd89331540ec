-- The actions of the words that compile a choice by a value.
use Rattle.std.specs.Prelude.{ℕ, ◌+◌, [], ◌∷◌}
use Rattle.mi_model.specs.Layout.{dp_cell}
use Rattle.mi_model.specs.Action.{Action, ◌>>=◌, ◌>>◌, action_by, call}
use Rattle.mi_model.specs.Action.Operand.{Plain, Address}
use Rattle.mi_model.specs.Action.AnswerKind.{Effects}
use Rattle.mi_model.specs.Parts.{needs, two_in, four_in, drop, push, cell_place, put_cell, room, token_of}
use Rattle.mi_model.specs.Branching.{require_kind, lay_branch}
use Rattle.mi_model.specs.Chains.{chain_length, resolve}

-- the kind of a choice: the chain of the branches that leave it
abbrev pub case_sys : ℕ
case_sys = 4

-- the kind of a case in it: the place of the branch to the next case
abbrev pub of_sys : ℕ
of_sys = 5

-- CASE ( -- 0 4 ): a choice begins, with an empty chain
abbrev pub do_case : Action Effects
do_case = action_by do
  needs 0 2 0 0
  push (Plain 0)
  push (Plain case_sys)

-- OF ( c 4 -- c 4 o 5 ): compiles OVER, =, (0BRANCH), 0 at o, and DROP
abbrev pub do_of : Action Effects
do_of = action_by do
  (chain, kind) ← two_in 4 0
  require_kind kind case_sys
  p ← call (room 5) []
  put_cell p (token_of 31)  -- OVER
  put_cell (p + 8) (token_of 57)  -- =
  put_cell (p + 16) (token_of 11)  -- (0BRANCH)
  put_cell (p + 24) (Plain 0)
  put_cell (p + 32) (token_of 29)  -- DROP
  put_cell dp_cell (Address (p + 40))
  push (Address (p + 24))
  push (Plain of_sys)

-- ENDOF ( c 4 o 5 -- q 4 ): compiles (BRANCH) and c at q, and the branch at o goes behind them
abbrev pub do_endof : Action Effects
do_endof = action_by do
  (chain, first, o, second) ← four_in 2 0
  require_kind first case_sys
  require_kind second of_sys
  p ← call (room 2) []
  place ← cell_place o
  call (lay_branch 10 p) (chain ∷ [])  -- (BRANCH)
  put_cell place (Address (p + 16))
  drop 4
  push (Address (p + 8))
  push (Plain case_sys)

-- ENDCASE ( c 4 -- ): compiles DROP, and the chain c goes behind it
abbrev pub do_endcase : Action Effects
do_endcase = action_by do
  (chain, kind) ← two_in 0 0
  require_kind kind case_sys
  p ← call (room 1) []
  count ← call chain_length (chain ∷ [])
  call (resolve count) (chain ∷ Address (p + 8) ∷ [])
  put_cell p (token_of 29)  -- DROP
  put_cell dp_cell (Address (p + 8))
  drop 2
