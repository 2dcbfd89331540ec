-- The actions of the words that compile branches, and control items: on the stack, an address and its kind on top.
use Rattle.std.specs.Prelude.{ℕ, ◌+◌, [], ◌∷◌}
use Rattle.mi_model.specs.Layout.{dp_cell}
use Rattle.mi_model.specs.Machine.{control_mismatch}
use Rattle.mi_model.specs.Action.{Operand, Action, AnswerKind, Piece, ◌>>=◌, ◌>>◌, action_by, call, part_of}
use Rattle.mi_model.specs.Action.Operand.{Named, Plain, Address}
use Rattle.mi_model.specs.Action.AnswerKind.{Effects, Nothing}
use Rattle.mi_model.specs.Parts.{require, needs, two_in, four_in, drop, push, equal, cell_place, put_cell, here, room, token_of}

-- the kind of a place whose cell is given the address that a branch goes to later
abbrev pub orig : ℕ
orig = 1

-- the kind of a place that a branch goes back to
abbrev pub dest : ℕ
dest = 2

-- the kind of a control item is this one, else throw -22
abbrev pub require_kind : {i : AnswerKind} → Operand → ℕ → Piece i (Unit {0})
require_kind kind wanted = do
  same ← equal kind (Plain wanted)
  require same control_mismatch

-- lays the token of a branching word at HERE, whose offset is p, and behind it the cell that it is called with; HERE goes
-- behind both
unfoldable pub lay_branch : (tag p : ℕ) → Action Nothing
lay_branch tag p = part_of do
  put_cell p (token_of tag)
  put_cell (p + 8) (Named 0)
  put_cell dp_cell (Address (p + 16))

-- IF ( -- o 1 ): compiles (0BRANCH) and 0 at o
abbrev pub do_if : Action Effects
do_if = action_by do
  needs 0 2 0 0
  p ← call (room 2) []
  call (lay_branch 11 p) (Plain 0 ∷ [])  -- (0BRANCH)
  push (Address (p + 8))
  push (Plain orig)

-- ELSE ( o 1 -- q 1 ): compiles (BRANCH) and 0 at q, and the branch at o goes behind it
abbrev pub do_else : Action Effects
do_else = action_by do
  (o, kind) ← two_in 2 0
  require_kind kind orig
  p ← call (room 2) []
  place ← cell_place o
  call (lay_branch 10 p) (Plain 0 ∷ [])  -- (BRANCH)
  put_cell place (Address (p + 16))
  drop 2
  push (Address (p + 8))
  push (Plain orig)

-- THEN ( o 1 -- ): the branch at o goes to HERE
abbrev pub do_then : Action Effects
do_then = action_by do
  (o, kind) ← two_in 0 0
  require_kind kind orig
  place ← cell_place o
  p ← call here []
  put_cell place (Address p)
  drop 2

-- BEGIN ( -- d 2 ): d is HERE
abbrev pub do_begin : Action Effects
do_begin = action_by do
  needs 0 2 0 0
  p ← call here []
  push (Address p)
  push (Plain dest)

-- AGAIN ( d 2 -- ): compiles (BRANCH) and d
abbrev pub do_again : Action Effects
do_again = action_by do
  (d, kind) ← two_in 0 0
  require_kind kind dest
  p ← call (room 2) []
  call (lay_branch 10 p) (d ∷ [])  -- (BRANCH)
  drop 2

-- UNTIL ( d 2 -- ): compiles (0BRANCH) and d
abbrev pub do_until : Action Effects
do_until = action_by do
  (d, kind) ← two_in 0 0
  require_kind kind dest
  p ← call (room 2) []
  call (lay_branch 11 p) (d ∷ [])  -- (0BRANCH)
  drop 2

-- WHILE ( d 2 -- o 1 d 2 ): compiles (0BRANCH) and 0 at o
abbrev pub do_while : Action Effects
do_while = action_by do
  (d, kind) ← two_in 4 0
  require_kind kind dest
  p ← call (room 2) []
  call (lay_branch 11 p) (Plain 0 ∷ [])  -- (0BRANCH)
  drop 2
  push (Address (p + 8))
  push (Plain orig)
  push d
  push (Plain dest)

-- REPEAT ( o 1 d 2 -- ): compiles (BRANCH) and d, and the branch at o goes behind it
abbrev pub do_repeat : Action Effects
do_repeat = action_by do
  (o, first, d, second) ← four_in 0 0
  require_kind first orig
  require_kind second dest
  p ← call (room 2) []
  place ← cell_place o
  call (lay_branch 10 p) (d ∷ [])  -- (BRANCH)
  put_cell place (Address (p + 16))
  drop 4
