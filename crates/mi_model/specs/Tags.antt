-- The tags: the name and the flags of each word of the kernel that is no colon definition.
use Rattle.std.specs.Prelude.{ℕ, Bool, true, false, List, [], ◌∷◌, codes, get_or}

-- a word of the kernel: its name, and whether it is immediate and compile-only
pub record TagEntry : Type 0 where
  pub name : List ℕ
  pub immediate : Bool
  pub compile_only : Bool

abbrev pub word : List ℕ → TagEntry
word name = record { name = name; immediate = false; compile_only = false }

abbrev pub immediate_word : List ℕ → TagEntry
immediate_word name = record { name = name; immediate = true; compile_only = false }

abbrev pub compile_only_word : List ℕ → TagEntry
compile_only_word name = record { name = name; immediate = false; compile_only = true }

abbrev pub immediate_compile_only_word : List ℕ → TagEntry
immediate_compile_only_word name = record { name = name; immediate = true; compile_only = true }

-- the words in the order of their tags, from 0 to 119
unfoldable pub tag_table : List TagEntry
tag_table =
    word (codes "BYE") ∷  -- 0: BYE
    compile_only_word (codes "(DOCOL)") ∷  -- 1: (DOCOL)
    compile_only_word (codes "(DOVAR)") ∷  -- 2: (DOVAR)
    compile_only_word (codes "(DOCON)") ∷  -- 3: (DOCON)
    compile_only_word (codes "(DOVALUE)") ∷  -- 4: (DOVALUE)
    compile_only_word (codes "(DODEFER)") ∷  -- 5: (DODEFER)
    compile_only_word (codes "(DODOES)") ∷  -- 6: (DODOES)
    compile_only_word (codes "(DOMARKER)") ∷  -- 7: (DOMARKER)
    compile_only_word (codes "EXIT") ∷  -- 8: EXIT
    compile_only_word (codes "(LIT)") ∷  -- 9: (LIT)
    compile_only_word (codes "(BRANCH)") ∷  -- 10: (BRANCH)
    compile_only_word (codes "(0BRANCH)") ∷  -- 11: (0BRANCH)
    compile_only_word (codes "(DO)") ∷  -- 12: (DO)
    compile_only_word (codes "(?DO)") ∷  -- 13: (?DO)
    compile_only_word (codes "(LOOP)") ∷  -- 14: (LOOP)
    compile_only_word (codes "(+LOOP)") ∷  -- 15: (+LOOP)
    compile_only_word (codes "UNLOOP") ∷  -- 16: UNLOOP
    compile_only_word (codes "I") ∷  -- 17: I
    compile_only_word (codes "J") ∷  -- 18: J
    compile_only_word (40 ∷ 83 ∷ 34 ∷ 41 ∷ []) ∷  -- 19: (S")
    compile_only_word (codes "(INTERPRET)") ∷  -- 20: (INTERPRET)
    word (codes "EXECUTE") ∷  -- 21: EXECUTE
    compile_only_word (codes "(THROW)") ∷  -- 22: (THROW)
    word (codes "QUIT") ∷  -- 23: QUIT
    word (codes "EVALUATE") ∷  -- 24: EVALUATE
    word (codes "REFILL") ∷  -- 25: REFILL
    word (codes "ACCEPT") ∷  -- 26: ACCEPT
    word (codes "EMIT") ∷  -- 27: EMIT
    word (codes "DUP") ∷  -- 28: DUP
    word (codes "DROP") ∷  -- 29: DROP
    word (codes "SWAP") ∷  -- 30: SWAP
    word (codes "OVER") ∷  -- 31: OVER
    word (codes "ROT") ∷  -- 32: ROT
    word (codes "PICK") ∷  -- 33: PICK
    word (codes "ROLL") ∷  -- 34: ROLL
    word (codes "DEPTH") ∷  -- 35: DEPTH
    compile_only_word (codes ">R") ∷  -- 36: >R
    compile_only_word (codes "R>") ∷  -- 37: R>
    compile_only_word (codes "R@") ∷  -- 38: R@
    compile_only_word (codes "2>R") ∷  -- 39: 2>R
    compile_only_word (codes "2R>") ∷  -- 40: 2R>
    compile_only_word (codes "2R@") ∷  -- 41: 2R@
    word (codes "+") ∷  -- 42: +
    word (codes "-") ∷  -- 43: -
    word (codes "*") ∷  -- 44: *
    word (codes "NEGATE") ∷  -- 45: NEGATE
    word (codes "INVERT") ∷  -- 46: INVERT
    word (codes "AND") ∷  -- 47: AND
    word (codes "OR") ∷  -- 48: OR
    word (codes "XOR") ∷  -- 49: XOR
    word (codes "LSHIFT") ∷  -- 50: LSHIFT
    word (codes "RSHIFT") ∷  -- 51: RSHIFT
    word (codes "2/") ∷  -- 52: 2/
    word (codes "UM*") ∷  -- 53: UM*
    word (codes "UM/MOD") ∷  -- 54: UM/MOD
    word (codes "SM/REM") ∷  -- 55: SM/REM
    word (codes "FM/MOD") ∷  -- 56: FM/MOD
    word (codes "=") ∷  -- 57: =
    word (codes "<") ∷  -- 58: <
    word (codes "U<") ∷  -- 59: U<
    word (codes "0=") ∷  -- 60: 0=
    word (codes "0<") ∷  -- 61: 0<
    word (codes "@") ∷  -- 62: @
    word (codes "!") ∷  -- 63: !
    word (codes "C@") ∷  -- 64: C@
    word (codes "C!") ∷  -- 65: C!
    word (codes "MOVE") ∷  -- 66: MOVE
    word (codes "FILL") ∷  -- 67: FILL
    word (codes "REGION") ∷  -- 68: REGION
    word (codes "HERE") ∷  -- 69: HERE
    word (codes "ALLOT") ∷  -- 70: ALLOT
    word (codes ",") ∷  -- 71: ,
    word (codes "C,") ∷  -- 72: C,
    word (codes "ALIGN") ∷  -- 73: ALIGN
    word (codes "UNUSED") ∷  -- 74: UNUSED
    word (codes "PARSE") ∷  -- 75: PARSE
    word (codes "PARSE-NAME") ∷  -- 76: PARSE-NAME
    word (codes "WORD") ∷  -- 77: WORD
    word (codes ">NUMBER") ∷  -- 78: >NUMBER
    compile_only_word (codes "(FIND)") ∷  -- 79: (FIND)
    word (codes "SEARCH-WORDLIST") ∷  -- 80: SEARCH-WORDLIST
    word (codes "GET-ORDER") ∷  -- 81: GET-ORDER
    word (codes "SET-ORDER") ∷  -- 82: SET-ORDER
    word (codes "'") ∷  -- 83: '
    word (codes ">BODY") ∷  -- 84: >BODY
    compile_only_word (codes "(HEADER)") ∷  -- 85: (HEADER)
    word (codes "CREATE") ∷  -- 86: CREATE
    word (codes "CONSTANT") ∷  -- 87: CONSTANT
    word (codes "VARIABLE") ∷  -- 88: VARIABLE
    word (codes ":") ∷  -- 89: :
    word (codes ":NONAME") ∷  -- 90: :NONAME
    immediate_compile_only_word (codes ";") ∷  -- 91: ;
    word (codes "IMMEDIATE") ∷  -- 92: IMMEDIATE
    word (codes "COMPILE-ONLY") ∷  -- 93: COMPILE-ONLY
    immediate_compile_only_word (codes "RECURSE") ∷  -- 94: RECURSE
    immediate_compile_only_word (codes "LITERAL") ∷  -- 95: LITERAL
    immediate_compile_only_word (codes "POSTPONE") ∷  -- 96: POSTPONE
    immediate_compile_only_word (codes "DOES>") ∷  -- 97: DOES>
    compile_only_word (codes "(DOES)") ∷  -- 98: (DOES)
    immediate_compile_only_word (codes "IF") ∷  -- 99: IF
    immediate_compile_only_word (codes "ELSE") ∷  -- 100: ELSE
    immediate_compile_only_word (codes "THEN") ∷  -- 101: THEN
    immediate_compile_only_word (codes "BEGIN") ∷  -- 102: BEGIN
    immediate_compile_only_word (codes "AGAIN") ∷  -- 103: AGAIN
    immediate_compile_only_word (codes "UNTIL") ∷  -- 104: UNTIL
    immediate_compile_only_word (codes "WHILE") ∷  -- 105: WHILE
    immediate_compile_only_word (codes "REPEAT") ∷  -- 106: REPEAT
    immediate_compile_only_word (codes "DO") ∷  -- 107: DO
    immediate_compile_only_word (codes "?DO") ∷  -- 108: ?DO
    immediate_compile_only_word (codes "LOOP") ∷  -- 109: LOOP
    immediate_compile_only_word (codes "+LOOP") ∷  -- 110: +LOOP
    immediate_compile_only_word (codes "LEAVE") ∷  -- 111: LEAVE
    immediate_compile_only_word (codes "CASE") ∷  -- 112: CASE
    immediate_compile_only_word (codes "OF") ∷  -- 113: OF
    immediate_compile_only_word (codes "ENDOF") ∷  -- 114: ENDOF
    immediate_compile_only_word (codes "ENDCASE") ∷  -- 115: ENDCASE
    immediate_word (83 ∷ 34 ∷ []) ∷  -- 116: S"
    immediate_word (83 ∷ 92 ∷ 34 ∷ []) ∷  -- 117: S\"
    immediate_word (codes "TO") ∷  -- 118: TO
    immediate_word (codes "IS") ∷  -- 119: IS
    []

abbrev pub entry_of : ℕ → TagEntry
entry_of t = get_or tag_table t (word [])

abbrev pub name_of : ℕ → List ℕ
name_of t = (entry_of t).name
