-- The actions of the words that define words.
use Rattle.std.specs.Prelude.{ℕ, ◌+◌, ◌-◌, ◌^◌, [], ◌∷◌}
use Rattle.mi_model.specs.Layout.{dp_cell, state_cell, latest_cell, leaves_cell}
use Rattle.mi_model.specs.Characters.{is_in}
use Rattle.mi_model.specs.Machine.{invalid_argument, invalid_name_argument}
use Rattle.mi_model.specs.Action.{Action, ◌>>=◌, ◌>>◌, action_by, call, part_of}
use Rattle.mi_model.specs.Action.Operand.{At, Ip, Plain, Address, CodeAddress}
use Rattle.mi_model.specs.Action.AnswerKind.{Effects, Nothing}
use Rattle.mi_model.specs.Parts.{require, choose, needs, one_in, two_in, one_rin, drop, rdrop, push, name, number, cell_place, tag, put_cell, set_ip, minus_one, token_of, room, compile, compile_literal, compile_literal_and, ◌add◌, ◌or◌, ◌mask◌}
use Rattle.mi_model.specs.Branching.{require_kind}
use Rattle.mi_model.specs.Parsing.{parse_name}
use Rattle.mi_model.specs.Searching.{named_word, is_created}
use Rattle.mi_model.specs.Headers.{header_place, lay_header, lay_header_with_cell, write_hidden_header, nameless_place, write_nameless_header}

-- CREATE ( -- ): a header with the code of (DOVAR)
abbrev pub do_create : Action Effects
do_create = action_by do
  span ← call parse_name []
  call (lay_header 2 span 0) []  -- (DOVAR)

-- CONSTANT ( x -- ): a header with the code of (DOCON), and x behind it
abbrev pub do_constant : Action Effects
do_constant = action_by do
  x ← one_in 0 0
  span ← call parse_name []
  call (lay_header_with_cell 3 span) (x ∷ [])  -- (DOCON)
  drop 1

-- VARIABLE ( -- ): a header with the code of (DOVAR), and 0 behind it
abbrev pub do_variable : Action Effects
do_variable = action_by do
  span ← call parse_name []
  call (lay_header_with_cell 2 span) (Plain 0 ∷ [])  -- (DOVAR)

-- (HEADER) ( n -- ): a header with the code of tag n, which is from 1 to 7
abbrev pub do_header : Action Effects
do_header = action_by do
  n ← one_in 0 0
  t ← number n
  require (is_in 1 7 t) invalid_argument
  span ← call parse_name []
  call (lay_header t span 0) []
  drop 1

-- the kind of a definition, on top of the address of its header
abbrev pub colon_sys : ℕ
colon_sys = 6

-- a definition begins: compiling, outside of any loop; its header and the kind of such an item are pushed
unfoldable pub open_definition : (header : ℕ) → Action Nothing
open_definition header = part_of do
  put_cell state_cell minus_one
  put_cell leaves_cell (Plain 1)
  push (Address header)
  push (Plain colon_sys)

-- : ( -- h 6 ): a hidden header with the code of (DOCOL)
abbrev pub do_colon : Action Effects
do_colon = action_by do
  needs 0 2 0 0
  span ← call parse_name []
  place ← call (header_place span 0) []
  call (write_hidden_header 1 span place) []  -- (DOCOL)
  call (open_definition place.header) []

-- :NONAME ( -- xt h 6 ): a header without a name, in no wordlist, with the code of (DOCOL)
abbrev pub do_colon_noname : Action Effects
do_colon_noname = action_by do
  needs 0 3 0 0
  q ← call nameless_place []
  call (write_nameless_header 1 q) []  -- (DOCOL)
  push (Address (q + 48))
  call (open_definition q) []

-- ; ( h 6 -- ): compiles EXIT; the header is no longer hidden, and STATE becomes 0
abbrev pub do_semicolon : Action Effects
do_semicolon = action_by do
  (header, kind) ← two_in 0 0
  require_kind kind colon_sys
  p ← call (room 1) []
  o ← cell_place (header add Plain 8)
  flags ← name (At o mask (2 ^ 64 - 1025))
  next ← name (At dp_cell add Plain 8)
  put_cell p (token_of 8)  -- EXIT
  put_cell dp_cell next
  put_cell o flags
  put_cell state_cell (Plain 0)
  drop 2

-- sets a flag of the header LATEST
unfoldable pub set_flag : (flag : ℕ) → Action Nothing
set_flag flag = part_of do
  o ← cell_place (At latest_cell add Plain 8)
  flags ← name (At o or Plain flag)
  put_cell o flags

-- IMMEDIATE ( -- ): LATEST becomes immediate
abbrev pub do_immediate : Action Effects
do_immediate = action_by (call (set_flag 256) [])

-- COMPILE-ONLY ( -- ): LATEST becomes compile-only
abbrev pub do_compile_only : Action Effects
do_compile_only = action_by (call (set_flag 512) [])

-- RECURSE ( -- ): compiles the token of LATEST
abbrev pub do_recurse : Action Effects
do_recurse = action_by do
  p ← call (room 1) []
  xt ← name (At latest_cell add Plain 48)
  next ← name (At dp_cell add Plain 8)
  put_cell p xt
  put_cell dp_cell next

-- LITERAL ( x -- ): compiles what pushes x
abbrev pub do_literal : Action Effects
do_literal = action_by do
  x ← one_in 0 0
  call compile_literal (x ∷ [])
  drop 1

-- POSTPONE ( -- ): compiles an immediate word, or what compiles another
abbrev pub do_postpone : Action Effects
do_postpone = action_by do
  span ← call parse_name []
  word ← call (named_word span) []
  choose word.immediate
      (call compile (Address word.token ∷ []))
      (call (compile_literal_and 71) (Address word.token ∷ []))  -- ,

-- DOES> ( -- ): compiles (DOES)
abbrev pub do_does : Action Effects
do_does = action_by (call compile (token_of 98 ∷ []))  -- (DOES)

-- (DOES) R ( a -- ): LATEST, which CREATE made, gets the code of (DODOES) and ip as its second cell, and ip becomes a
abbrev pub do_paren_does : Action Effects
do_paren_does = action_by do
  a ← one_rin 0 0
  header ← name (At latest_cell)
  code_place ← cell_place (header add Plain 48)
  found ← tag (At code_place)
  require (is_created found) invalid_name_argument
  second_place ← cell_place (header add Plain 56)
  put_cell code_place (CodeAddress 6)  -- (DODOES)
  put_cell second_place Ip
  set_ip a
  rdrop 1
