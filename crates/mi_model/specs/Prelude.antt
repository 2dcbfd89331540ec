-- The prelude: the words of the kernel that are written in Forth.
use Rattle.std.specs.Prelude.{ℕ, List, [], ◌∷◌, ◌++◌, codes}

-- the text of these lines, each with an LF behind it
abbrev pub text_of_lines : List (List ℕ) → List ℕ
text_of_lines [] = []
text_of_lines (line ∷ lines) = line ++ (10 ∷ text_of_lines lines)

-- the lines of the prelude; the last one moves DP on to offset 32,768, where the words of users begin
unfoldable pub prelude_lines : List (List ℕ)
prelude_lines =
    codes ": [ 0 REGION 16 + ! ; IMMEDIATE" ∷
    codes ": ] -1 REGION 16 + ! ;" ∷
    codes "REGION 8 + CONSTANT BASE" ∷
    codes "REGION 16 + CONSTANT STATE" ∷
    codes "REGION 24 + CONSTANT >IN" ∷
    codes "REGION 1536 + CONSTANT PAD" ∷
    codes "REGION 240 + CONSTANT FORTH-WORDLIST" ∷
    codes "32 CONSTANT BL -1 CONSTANT TRUE 0 CONSTANT FALSE" ∷
    codes ": SOURCE REGION 32 + @ REGION 40 + @ ;" ∷
    codes ": SOURCE-ID REGION 48 + @ ;" ∷
    codes ": \\ SOURCE >IN ! DROP ; IMMEDIATE" ∷
    codes ": ( 41 PARSE DROP DROP ; IMMEDIATE" ∷
    codes ": NIP SWAP DROP ; : TUCK SWAP OVER ;" ∷
    codes ": 2DROP DROP DROP ; : 2DUP OVER OVER ;" ∷
    codes ": 2SWAP ROT >R ROT R> ; : 2OVER 3 PICK 3 PICK ;" ∷
    codes ": ?DUP DUP IF DUP THEN ;" ∷
    codes ": 1+ 1 + ; : 1- 1 - ; : 2* DUP + ;" ∷
    codes ": CELL+ 8 + ; : CELLS 8 * ; : CHAR+ 1 + ; : CHARS ;" ∷
    codes ": ALIGNED 7 + -8 AND ;" ∷
    codes ": <> = 0= ; : 0<> 0= 0= ; : > SWAP < ; : 0> 0 > ; : U> SWAP U< ;" ∷
    codes ": WITHIN OVER - >R - R> U< ;" ∷
    codes ": MAX 2DUP < IF SWAP THEN DROP ; : MIN 2DUP > IF SWAP THEN DROP ;" ∷
    codes ": ABS DUP 0< IF NEGATE THEN ;" ∷
    codes ": S>D DUP 0< ;" ∷
    codes ": M* 2DUP 0< AND >R 2DUP SWAP 0< AND >R UM* R> - R> - ;" ∷
    codes ": /MOD >R S>D R> FM/MOD ; : / /MOD NIP ; : MOD /MOD DROP ;" ∷
    codes ": */MOD >R M* R> FM/MOD ; : */ */MOD NIP ;" ∷
    codes ": +! DUP @ ROT + SWAP ! ;" ∷
    codes ": 2@ DUP CELL+ @ SWAP @ ; : 2! SWAP OVER ! CELL+ ! ;" ∷
    codes ": COUNT DUP CHAR+ SWAP C@ ;" ∷
    codes ": ERASE 0 FILL ;" ∷
    codes ": DECIMAL 10 BASE ! ; : HEX 16 BASE ! ;" ∷
    codes ": CR 10 EMIT ; : SPACE 32 EMIT ;" ∷
    codes ": SPACES BEGIN DUP 0> WHILE SPACE 1- REPEAT DROP ;" ∷
    codes ": TYPE 0 ?DO DUP C@ EMIT CHAR+ LOOP DROP ;" ∷
    codes ": <# REGION 2048 + REGION 88 + ! ;" ∷
    codes ": HOLD REGION 88 + @ 1- DUP REGION 1792 + U< IF -17 (THROW) THEN TUCK C! REGION 88 + ! ;" ∷
    codes ": HOLDS BEGIN DUP WHILE 1- 2DUP + C@ HOLD REPEAT 2DROP ;" ∷
    codes ": SIGN 0< IF 45 HOLD THEN ;" ∷
    codes ": # 0 BASE @ UM/MOD >R BASE @ UM/MOD R> ROT DUP 9 > IF 7 + THEN 48 + HOLD ;" ∷
    codes ": #S BEGIN # 2DUP OR 0= UNTIL ;" ∷
    codes ": #> 2DROP REGION 88 + @ REGION 2048 + OVER - ;" ∷
    codes ": U. 0 <# #S #> TYPE SPACE ;" ∷
    codes ": . DUP ABS 0 <# #S ROT SIGN #> TYPE SPACE ;" ∷
    codes ": .R >R DUP ABS 0 <# #S ROT SIGN #> R> OVER - SPACES TYPE ;" ∷
    codes ": U.R >R 0 <# #S #> R> OVER - SPACES TYPE ;" ∷
    codes ": FIND DUP COUNT (FIND) DUP IF ROT DROP THEN ;" ∷
    codes ": ['] ' POSTPONE LITERAL ; IMMEDIATE COMPILE-ONLY" ∷
    codes ": [COMPILE] ' , ; IMMEDIATE COMPILE-ONLY" ∷
    codes ": COMPILE, , ;" ∷
    codes ": CHAR PARSE-NAME 0= IF -16 (THROW) THEN C@ ;" ∷
    codes ": [CHAR] CHAR POSTPONE LITERAL ; IMMEDIATE COMPILE-ONLY" ∷
    codes ": VALUE 4 (HEADER) , ; : DEFER 5 (HEADER) 0 , ;" ∷
    codes ": DEFER@ 16 + @ ; : DEFER! 16 + ! ;" ∷
    codes ": ACTION-OF STATE @ IF POSTPONE ['] POSTPONE DEFER@ ELSE ' DEFER@ THEN ; IMMEDIATE" ∷
    codes ": BUFFER: CREATE ALLOT ;" ∷
    codes ": MARKER ALIGN HERE REGION 64 + @ 7 (HEADER) SWAP , , REGION 56 + @ , REGION 104 + HERE 136 DUP ALLOT MOVE ;" ∷
    codes ": .\" POSTPONE S\" STATE @ IF POSTPONE TYPE ELSE TYPE THEN ; IMMEDIATE" ∷
    codes ": .( 41 PARSE TYPE ; IMMEDIATE" ∷
    codes ": C\" 34 PARSE DUP 255 > IF -18 (THROW) THEN POSTPONE (S\") DUP 1+ , DUP C, HERE SWAP DUP ALLOT MOVE ALIGN POSTPONE DROP ; IMMEDIATE COMPILE-ONLY" ∷
    codes ": ABORT -1 (THROW) ;" ∷
    codes ": (ABORT\") ROT IF TYPE -2 (THROW) THEN 2DROP ;" ∷
    codes ": ABORT\" POSTPONE S\" POSTPONE (ABORT\") ; IMMEDIATE COMPILE-ONLY" ∷
    codes ": ENVIRONMENT? 2DROP FALSE ;" ∷
    codes ": GET-CURRENT REGION 56 + @ ; : SET-CURRENT REGION 56 + ! ;" ∷
    codes ": WORDLIST ALIGN HERE 0 , REGION 256 + @ , DUP REGION 256 + ! ;" ∷
    codes ": ONLY -1 SET-ORDER ;" ∷
    codes ": FORTH GET-ORDER DUP 0= IF -50 (THROW) THEN NIP FORTH-WORDLIST SWAP SET-ORDER ;" ∷
    codes ": ALSO GET-ORDER DUP 0= IF -50 (THROW) THEN OVER SWAP 1+ SET-ORDER ;" ∷
    codes ": PREVIOUS GET-ORDER DUP 2 < IF -50 (THROW) THEN NIP 1- SET-ORDER ;" ∷
    codes ": DEFINITIONS GET-ORDER DUP 0= IF -50 (THROW) THEN OVER SET-CURRENT SET-ORDER ;" ∷
    codes ": ORDER GET-ORDER 0 ?DO REGION - . LOOP GET-CURRENT REGION - . ;" ∷
    codes ": SAVE-INPUT SOURCE >IN @ 3 ;" ∷
    codes ": RESTORE-INPUT DROP >R SOURCE ROT = ROT ROT = AND IF R> >IN ! FALSE ELSE R> DROP TRUE THEN ;" ∷
    codes "32768 REGION + HERE - ALLOT" ∷
    []

-- its bytes
unfoldable pub prelude_text : List ℕ
prelude_text = text_of_lines prelude_lines
