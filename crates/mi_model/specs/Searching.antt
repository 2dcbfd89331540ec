-- The actions of the words that look names up.
use Rattle.std.specs.Prelude.{ℕ, nat_lt, ◌==◌, ◌||◌, Bool, false, cond, Option, None, Some, [], ◌∷◌}
use Rattle.mi_model.specs.declared.Word.{Word}
use Rattle.mi_model.specs.declared.Span.{Span}
use Rattle.mi_model.specs.Machine.{zero_length_name, undefined_word, not_created_word}
use Rattle.mi_model.specs.Action.{Action, AnswerKind, Piece, ◌>>=◌, ◌>>◌, action_by, give, call, part_of}
use Rattle.mi_model.specs.Action.Operand.{Plain, Address}
use Rattle.mi_model.specs.Action.AnswerKind.{Effects, Words}
use Rattle.mi_model.specs.Parts.{throw, require, needs, one_in, two_in, three_in, drop, push, name, number, range, tag, fetch, minus_one, ◌add◌}
use Rattle.mi_model.specs.Parsing.{parse_name}
use Rattle.mi_model.specs.Lookup.{find, find_in_list}
use Rattle.mi_model.specs.Lookup.SoughtName.{InRegion}

-- the word that was found
abbrev pub found_word : {i : AnswerKind} → Option Word → Piece i Word
found_word None = throw undefined_word
found_word (Some word) = give word

-- the word of a name; an empty one is throw -16, and one that isn't found -13
unfoldable pub named_word : Span → Action Words
named_word span = part_of do
  require (nat_lt 0 span.length) zero_length_name
  found ← call (find (InRegion span.place span.length)) []
  found_word found

-- ' ( -- xt ): the token of the next name's word; no name is throw -16, and one that isn't found -13
abbrev pub do_tick : Action Effects
do_tick = action_by do
  needs 0 1 0 0
  span ← call parse_name []
  word ← call (named_word span) []
  push (Address word.token)

-- 0 where no word was found; else its token, and 1 if it is immediate, -1 if not
abbrev pub push_found : {i : AnswerKind} → Option Word → Piece i (Unit {0})
push_found None = push (Plain 0)
push_found (Some word) = do
  push (Address word.token)
  push (cond word.immediate (Plain 1) minus_one)

-- (FIND) ( a u -- 0, or xt 1, or xt -1 ): the word of a name in the search order
abbrev pub do_paren_find : Action Effects
do_paren_find = action_by do
  (a, u) ← two_in 2 0
  n ← number u
  o ← range n a
  found ← call (find (InRegion o n)) []
  drop 2
  push_found found

-- SEARCH-WORDLIST ( a u wid -- 0, or xt 1, or xt -1 ): the word of a name in a wordlist
abbrev pub do_search_wordlist : Action Effects
do_search_wordlist = action_by do
  (a, u, list) ← three_in 2 0
  n ← number u
  o ← range n a
  found ← call (find_in_list (InRegion o n)) (list ∷ [])
  drop 3
  push_found found

-- is it this tag
abbrev pub is_tag : ℕ → Option ℕ → Bool
is_tag t None = false
is_tag t (Some found) = found == t

-- is it the tag of a word that CREATE made, with or without DOES>
abbrev pub is_created : Option ℕ → Bool
is_created found = is_tag 2 found || is_tag 6 found  -- (DOVAR), (DODOES)

-- >BODY ( xt -- a ): the body of a word that CREATE made
abbrev pub do_to_body : Action Effects
do_to_body = action_by do
  xt ← one_in 1 0
  code ← fetch xt
  found ← tag code
  require (is_created found) not_created_word
  a ← name (xt add Plain 16)
  drop 1
  push a
