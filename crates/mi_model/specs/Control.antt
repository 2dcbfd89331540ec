-- The actions on control, and those of code fields.
use Rattle.std.specs.Prelude.{ℕ, ◌+◌, ◌^◌, Bool, cond, nat_lt, nat_le, ◌==◌}
use Rattle.std.specs.Int.{w64, cast_signed}
use Rattle.mi_model.specs.declared.Effect.TheVariants.{Halt}
use Rattle.mi_model.specs.Plain.{is_negative, magnitude}
use Rattle.mi_model.specs.Action.{Action, ◌>>=◌, ◌>>◌, action_by, give, part_of}
use Rattle.mi_model.specs.Action.Operand.{Ip, Plain}
use Rattle.mi_model.specs.Action.AnswerKind.{Effects}
use Rattle.mi_model.specs.Parts.{require, choose, needs, one_in, two_in, one_rin, two_rin, one_in_two_rin, return_item, drop, rdrop, push, rpush, equal, number, fetch, name, set_ip, set_due, skip, branch, running_token, aligned_cell, ◌add◌, ◌subtract◌}

-- BYE ( -- ): the machine halts
abbrev pub do_bye : Action Effects
do_bye = part_of do
  give Halt

-- (DOCOL) ( -- ) R ( -- ip ): ip becomes the address of the body, 16 bytes behind the token
abbrev pub do_docol : Action Effects
do_docol = action_by do
  needs 0 0 0 1
  next ← name (running_token add Plain 16)
  rpush Ip
  set_ip next

-- (DOVAR) ( -- a ): the address of the body, 16 bytes behind the token
abbrev pub do_dovar : Action Effects
do_dovar = action_by do
  needs 0 1 0 0
  a ← name (running_token add Plain 16)
  push a

-- (DOCON) ( -- x ): the first cell of the body
abbrev pub do_docon : Action Effects
do_docon = action_by do
  needs 0 1 0 0
  x ← fetch (running_token add Plain 16)
  push x

-- (DOVALUE) ( -- x ): the first cell of the body
abbrev pub do_dovalue : Action Effects
do_dovalue = action_by do
  needs 0 1 0 0
  x ← fetch (running_token add Plain 16)
  push x

-- (DODEFER) ( -- ): the token in the first cell of the body is due
abbrev pub do_dodefer : Action Effects
do_dodefer = action_by do
  token ← fetch (running_token add Plain 16)
  set_due token

-- (DODOES) ( -- a ) R ( -- ip ): the address of the body; ip becomes the second cell of the header, 8 bytes behind the token
abbrev pub do_dodoes : Action Effects
do_dodoes = action_by do
  needs 0 1 0 1
  a ← name (running_token add Plain 16)
  next ← fetch (running_token add Plain 8)
  push a
  rpush Ip
  set_ip next

-- EXIT R ( ip -- )
abbrev pub do_exit : Action Effects
do_exit = action_by do
  next ← one_rin 0 0
  rdrop 1
  set_ip next

-- (LIT) ( -- x ): the cell at ip
abbrev pub do_lit : Action Effects
do_lit = action_by do
  needs 0 1 0 0
  x ← fetch Ip
  skip
  push x

-- (BRANCH) ( -- ): ip becomes the cell at ip
abbrev pub do_branch : Action Effects
do_branch = action_by branch

-- (0BRANCH) ( x -- ): ip becomes the cell at ip where x is 0, else it goes on behind it
abbrev pub do_zero_branch : Action Effects
do_zero_branch = action_by do
  x ← one_in 0 0
  zero ← equal x (Plain 0)
  choose zero branch skip
  drop 1

-- (DO) ( limit index -- ) R ( -- limit index )
abbrev pub do_paren_do : Action Effects
do_paren_do = action_by do
  (limit, index) ← two_in 0 2
  drop 2
  rpush limit
  rpush index

-- (?DO) ( limit index -- ) R ( -- limit index ): where they are equal there is no loop: nothing goes to the return
-- stack, and ip becomes the cell at ip; else ip goes on behind it
abbrev pub do_paren_question_do : Action Effects
do_paren_question_do = action_by do
  (limit, index) ← two_in 0 2
  none ← equal limit index
  choose none (do
    branch
    drop 2) do
      skip
      drop 2
      rpush limit
      rpush index

-- (LOOP) R ( limit index -- limit index+1 ): where the two are then equal the loop ends: both are dropped, and ip goes
-- on behind the cell at ip; else ip becomes that cell
abbrev pub do_paren_loop : Action Effects
do_paren_loop = action_by do
  (limit, index) ← two_rin 0 2
  next ← name (index add Plain 1)
  done ← equal next limit
  choose done (do
    skip
    rdrop 2) do
      branch
      rdrop 1
      rpush next

-- does an index that is x above its limit, modulo 2^64, cross from below the limit to it, or back, when n is added;
-- n is a signed number
abbrev pub crosses : (n x : ℕ) → Bool
crosses n x = cond (is_negative n) (nat_lt x (magnitude n)) (nat_le (2 ^ 64) (x + n))

-- (+LOOP) ( n -- ) R ( limit index -- limit index+n ): the loop ends where the index crosses the limit: both are
-- dropped, and ip goes on behind the cell at ip; else ip becomes that cell
abbrev pub do_paren_plus_loop : Action Effects
do_paren_plus_loop = action_by do
  (n, limit, index) ← one_in_two_rin 0 2
  by ← number n
  above ← number (index subtract limit)
  choose (crosses by above) (do
    skip
    drop 1
    rdrop 2) do
      next ← name (index add n)
      branch
      drop 1
      rdrop 1
      rpush next

-- UNLOOP R ( limit index -- )
abbrev pub do_unloop : Action Effects
do_unloop = action_by do
  needs 0 0 2 0
  rdrop 2

-- I ( -- index ): that of the innermost loop
abbrev pub do_i : Action Effects
do_i = action_by do
  needs 0 1 1 1
  index ← return_item 0
  push index

-- J ( -- index ): that of the loop around it
abbrev pub do_j : Action Effects
do_j = action_by do
  needs 0 1 3 3
  index ← return_item 2
  push index

-- (S") ( -- a u ): the text whose length u is the cell at ip; ip goes on behind its bytes, at the next multiple of 8
abbrev pub do_paren_s_quote : Action Effects
do_paren_s_quote = action_by do
  needs 0 2 0 0
  u ← fetch Ip
  number u
  a ← name (Ip add Plain 8)
  next ← name (aligned_cell (a add u))
  set_ip next
  push a
  push u

-- EXECUTE ( xt -- ): the token is due
abbrev pub do_execute : Action Effects
do_execute = action_by do
  token ← one_in 0 0
  set_due token
  drop 1

-- (THROW) ( n -- ): throws n, which is signed; 0 does nothing
abbrev pub do_throw : Action Effects
do_throw = action_by do
  n ← one_in 0 0
  code ← number n
  require (code == 0) (cast_signed w64 code)
  drop 1
