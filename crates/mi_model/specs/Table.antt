-- The instruction table, and an instruction.
use Rattle.std.specs.Prelude.{ℕ, cond, List, [], ◌∷◌, get_or, Option, None, Some}
use Rattle.mi_model.specs.Machine.{invalid_address, undefined_word}
use Rattle.mi_model.specs.Action.{Operand, AnswerKind, Action, Piece, ◌>>=◌, ◌>>◌, give}
use Rattle.mi_model.specs.Action.Operand.{Named, Ip}
use Rattle.mi_model.specs.Action.Action.{Throws, Again}
use Rattle.mi_model.specs.Action.AnswerKind.{Effects}
use Rattle.mi_model.specs.Parts.{throw, fetch, tag, skip, take_due}
use Rattle.mi_model.specs.Kernel.{Kernel}
use Rattle.mi_model.specs.Control.{do_bye, do_docol, do_dovar, do_docon, do_dovalue, do_dodefer, do_dodoes, do_exit, do_lit, do_branch, do_zero_branch, do_paren_do, do_paren_question_do, do_paren_loop, do_paren_plus_loop, do_unloop, do_i, do_j, do_paren_s_quote, do_execute, do_throw}
use Rattle.mi_model.specs.Stacks.{do_dup, do_drop, do_swap, do_over, do_rot, do_pick, do_roll, do_depth, do_to_r, do_r_from, do_r_fetch, do_two_to_r, do_two_r_from, do_two_r_fetch}
use Rattle.mi_model.specs.Arithmetic.{do_plus, do_minus, do_times, do_negate, do_invert, do_and, do_or, do_xor, do_lshift, do_rshift, do_two_slash, do_um_times, do_um_slash_mod, do_sm_slash_rem, do_fm_slash_mod, do_equal, do_less, do_u_less, do_zero_equal, do_zero_less}
use Rattle.mi_model.specs.Memory.{do_fetch, do_store, do_c_fetch, do_c_store, do_move, do_fill, do_region, do_here, do_allot, do_comma, do_c_comma, do_align, do_unused}
use Rattle.mi_model.specs.Sources.{do_quit, do_evaluate, do_refill, do_accept, do_emit}
use Rattle.mi_model.specs.Interpreter.{do_interpret}
use Rattle.mi_model.specs.ParsingWords.{do_parse, do_parse_name, do_word}
use Rattle.mi_model.specs.ConvertingNumbers.{do_to_number}
use Rattle.mi_model.specs.Searching.{do_paren_find, do_search_wordlist, do_tick, do_to_body}
use Rattle.mi_model.specs.SearchOrder.{do_get_order, do_set_order}
use Rattle.mi_model.specs.Defining.{do_header, do_create, do_constant, do_variable, do_colon, do_colon_noname, do_semicolon, do_immediate, do_compile_only, do_recurse, do_literal, do_postpone, do_does, do_paren_does}
use Rattle.mi_model.specs.Values.{do_to, do_is}
use Rattle.mi_model.specs.Branching.{do_if, do_else, do_then, do_begin, do_again, do_until, do_while, do_repeat}
use Rattle.mi_model.specs.CompilingLoops.{do_do, do_question_do, do_loop, do_plus_loop, do_leave}
use Rattle.mi_model.specs.Cases.{do_case, do_of, do_endof, do_endcase}
use Rattle.mi_model.specs.Strings.{do_s_quote, do_s_backslash_quote}
use Rattle.mi_model.specs.Markers.{do_domarker}

-- The actions of the 120 words in the order of their tags. Each has the name of its word; that of a word in round brackets
-- says so, with `paren`, where there is a word of the same name without them.
unfoldable pub table : List (Action Effects)
table =
    do_bye ∷  -- 0: BYE
    do_docol ∷  -- 1: (DOCOL)
    do_dovar ∷  -- 2: (DOVAR)
    do_docon ∷  -- 3: (DOCON)
    do_dovalue ∷  -- 4: (DOVALUE)
    do_dodefer ∷  -- 5: (DODEFER)
    do_dodoes ∷  -- 6: (DODOES)
    do_domarker ∷  -- 7: (DOMARKER)
    do_exit ∷  -- 8: EXIT
    do_lit ∷  -- 9: (LIT)
    do_branch ∷  -- 10: (BRANCH)
    do_zero_branch ∷  -- 11: (0BRANCH)
    do_paren_do ∷  -- 12: (DO)
    do_paren_question_do ∷  -- 13: (?DO)
    do_paren_loop ∷  -- 14: (LOOP)
    do_paren_plus_loop ∷  -- 15: (+LOOP)
    do_unloop ∷  -- 16: UNLOOP
    do_i ∷  -- 17: I
    do_j ∷  -- 18: J
    do_paren_s_quote ∷  -- 19: (S")
    do_interpret ∷  -- 20: (INTERPRET)
    do_execute ∷  -- 21: EXECUTE
    do_throw ∷  -- 22: (THROW)
    do_quit ∷  -- 23: QUIT
    do_evaluate ∷  -- 24: EVALUATE
    do_refill ∷  -- 25: REFILL
    do_accept ∷  -- 26: ACCEPT
    do_emit ∷  -- 27: EMIT
    do_dup ∷  -- 28: DUP
    do_drop ∷  -- 29: DROP
    do_swap ∷  -- 30: SWAP
    do_over ∷  -- 31: OVER
    do_rot ∷  -- 32: ROT
    do_pick ∷  -- 33: PICK
    do_roll ∷  -- 34: ROLL
    do_depth ∷  -- 35: DEPTH
    do_to_r ∷  -- 36: >R
    do_r_from ∷  -- 37: R>
    do_r_fetch ∷  -- 38: R@
    do_two_to_r ∷  -- 39: 2>R
    do_two_r_from ∷  -- 40: 2R>
    do_two_r_fetch ∷  -- 41: 2R@
    do_plus ∷  -- 42: +
    do_minus ∷  -- 43: -
    do_times ∷  -- 44: *
    do_negate ∷  -- 45: NEGATE
    do_invert ∷  -- 46: INVERT
    do_and ∷  -- 47: AND
    do_or ∷  -- 48: OR
    do_xor ∷  -- 49: XOR
    do_lshift ∷  -- 50: LSHIFT
    do_rshift ∷  -- 51: RSHIFT
    do_two_slash ∷  -- 52: 2/
    do_um_times ∷  -- 53: UM*
    do_um_slash_mod ∷  -- 54: UM/MOD
    do_sm_slash_rem ∷  -- 55: SM/REM
    do_fm_slash_mod ∷  -- 56: FM/MOD
    do_equal ∷  -- 57: =
    do_less ∷  -- 58: <
    do_u_less ∷  -- 59: U<
    do_zero_equal ∷  -- 60: 0=
    do_zero_less ∷  -- 61: 0<
    do_fetch ∷  -- 62: @
    do_store ∷  -- 63: !
    do_c_fetch ∷  -- 64: C@
    do_c_store ∷  -- 65: C!
    do_move ∷  -- 66: MOVE
    do_fill ∷  -- 67: FILL
    do_region ∷  -- 68: REGION
    do_here ∷  -- 69: HERE
    do_allot ∷  -- 70: ALLOT
    do_comma ∷  -- 71: ,
    do_c_comma ∷  -- 72: C,
    do_align ∷  -- 73: ALIGN
    do_unused ∷  -- 74: UNUSED
    do_parse ∷  -- 75: PARSE
    do_parse_name ∷  -- 76: PARSE-NAME
    do_word ∷  -- 77: WORD
    do_to_number ∷  -- 78: >NUMBER
    do_paren_find ∷  -- 79: (FIND)
    do_search_wordlist ∷  -- 80: SEARCH-WORDLIST
    do_get_order ∷  -- 81: GET-ORDER
    do_set_order ∷  -- 82: SET-ORDER
    do_tick ∷  -- 83: '
    do_to_body ∷  -- 84: >BODY
    do_header ∷  -- 85: (HEADER)
    do_create ∷  -- 86: CREATE
    do_constant ∷  -- 87: CONSTANT
    do_variable ∷  -- 88: VARIABLE
    do_colon ∷  -- 89: :
    do_colon_noname ∷  -- 90: :NONAME
    do_semicolon ∷  -- 91: ;
    do_immediate ∷  -- 92: IMMEDIATE
    do_compile_only ∷  -- 93: COMPILE-ONLY
    do_recurse ∷  -- 94: RECURSE
    do_literal ∷  -- 95: LITERAL
    do_postpone ∷  -- 96: POSTPONE
    do_does ∷  -- 97: DOES>
    do_paren_does ∷  -- 98: (DOES)
    do_if ∷  -- 99: IF
    do_else ∷  -- 100: ELSE
    do_then ∷  -- 101: THEN
    do_begin ∷  -- 102: BEGIN
    do_again ∷  -- 103: AGAIN
    do_until ∷  -- 104: UNTIL
    do_while ∷  -- 105: WHILE
    do_repeat ∷  -- 106: REPEAT
    do_do ∷  -- 107: DO
    do_question_do ∷  -- 108: ?DO
    do_loop ∷  -- 109: LOOP
    do_plus_loop ∷  -- 110: +LOOP
    do_leave ∷  -- 111: LEAVE
    do_case ∷  -- 112: CASE
    do_of ∷  -- 113: OF
    do_endof ∷  -- 114: ENDOF
    do_endcase ∷  -- 115: ENDCASE
    do_s_quote ∷  -- 116: S"
    do_s_backslash_quote ∷  -- 117: S\"
    do_to ∷  -- 118: TO
    do_is ∷  -- 119: IS
    []

-- the action of a tag; one that the kernel doesn't have throws -13
unfoldable pub action_of : Kernel → ℕ → Action Effects
action_of kernel t = cond (kernel.has t) (get_or table t (Throws undefined_word)) (Throws undefined_word)

-- the token that is due, or else the cell at ip, and then ip goes on by a cell
abbrev pub due_or_next : {i : AnswerKind} → Option Operand → Piece i Operand
due_or_next (Some x) = give x
due_or_next None = do
  x ← fetch Ip
  skip
  give x

-- the tag of a code address; any other cell is throw -9
abbrev pub tagged : {i : AnswerKind} → Option ℕ → Piece i ℕ
tagged None = throw invalid_address
tagged (Some t) = give t

-- what the token does that this is called with: the action of the tag that stands there
unfoldable pub act : Kernel → Action Effects
act kernel = (do
  code ← fetch (Named 0)
  found ← tag code
  tagged found) (λ t. Again (Named 0 ∷ []) (action_of kernel t))

-- one instruction
unfoldable pub step : Kernel → Action Effects
step kernel = (do
  due ← take_due
  due_or_next due) (λ x. Again (x ∷ []) (act kernel))
