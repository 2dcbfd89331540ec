-- The actions of S" and S\".
use Rattle.std.specs.Prelude.{ℕ, ◌+◌, ◌-◌, ◌%◌, zero, suc, Bool, false, not, cond, ◌&&◌, ◌==◌, nat_le, List, [], length, Option, None, Some}
use Rattle.mi_model.specs.declared.Span.{Span}
use Rattle.mi_model.specs.Layout.{dp_cell, state_cell, string_turn_cell, first_string_buffer, second_string_buffer}
use Rattle.mi_model.specs.Machine.{dictionary_overflow, misaligned, parsed_string_overflow, invalid_argument}
use Rattle.mi_model.specs.Action.{Action, AnswerKind, Piece, ◌>>=◌, ◌>>◌, action_by, give, call, part_of, tail}
use Rattle.mi_model.specs.Action.Operand.{At, Plain, Address}
use Rattle.mi_model.specs.Action.AnswerKind.{Effects, Nothing, Numbers, Truths, Spans}
use Rattle.mi_model.specs.Parts.{throw, require, choose, needs, push, size, equal, fetch_byte_at, put_cell, put_text, move_bytes, clear, here, aligned, token_of}
use Rattle.mi_model.specs.Parsing.{source, parse_past, parse_until, read_text}
use Rattle.mi_model.specs.Escapes.{unescaped}

-- the offset of HERE, where a string of n bytes can be compiled: two cells, and the bytes up to a whole cell
unfoldable pub string_room : (n : ℕ) → Action Numbers
string_room n = part_of do
  p ← call here []
  s ← size
  require (nat_le (p + 16 + aligned n) s) dictionary_overflow
  require (p % 8 == 0) misaligned
  give p

-- lays the rest of a compiled string, whose n bytes are there: (S") and the length at HERE, whose offset is p, and
-- zeros behind the bytes; HERE goes behind them
unfoldable pub lay_string : (p n : ℕ) → Action Nothing
lay_string p n = part_of do
  put_cell p (token_of 19)  -- (S")
  put_cell (p + 8) (Plain n)
  clear (p + 16 + n) (aligned n - n)
  put_cell dp_cell (Address (p + 16 + aligned n))

-- is it the first of the two string buffers that takes a string of n bytes, which it has room for
unfoldable pub string_turn : (n : ℕ) → Action Truths
string_turn n = part_of do
  require (nat_le n 512) parsed_string_overflow
  first ← equal (At string_turn_cell) (Plain 0)
  needs 0 2 0 0
  give first

-- where a string buffer is
abbrev pub string_buffer : (first : Bool) → ℕ
string_buffer first = cond first first_string_buffer second_string_buffer

-- pushes the string of n bytes in a buffer, and the other buffer is next
unfoldable pub push_string : (first : Bool) (n : ℕ) → Action Nothing
push_string first n = part_of do
  put_cell string_turn_cell (Plain (cond first 1 0))
  push (Address (string_buffer first))
  push (Plain n)

-- compiles the string of these bytes
unfoldable pub compile_string : Span → Action Nothing
compile_string span = part_of do
  p ← call (string_room span.length) []
  move_bytes span.place (p + 16) span.length
  call (lay_string p span.length) []

-- keeps these bytes in a buffer, and pushes them as a string
unfoldable pub keep_string : Span → Action Nothing
keep_string span = part_of do
  first ← call (string_turn span.length) []
  move_bytes span.place (string_buffer first) span.length
  call (push_string first span.length) []

-- S" ( -- ) or ( -- a u ): parses up to a quote; while interpreting the string is pushed, while compiling it is compiled
abbrev pub do_s_quote : Action Effects
do_s_quote = action_by do
  span ← call (parse_until 34) []
  interpreting ← equal (At state_cell) (Plain 0)
  choose interpreting (call (keep_string span) []) (call (compile_string span) [])

-- this offset, if the byte there is a quote that no backslash has taken; else what the rest gives, which is told
-- whether the byte is a backslash that takes the next one
abbrev pub scan_escaped_byte : (taken : Bool) (o : ℕ) → (Bool → Action Numbers) → Action Numbers
scan_escaped_byte taken o rest = part_of do
  c ← fetch_byte_at o
  choose (not taken && c == 34) (give o) (tail (rest (not taken && c == 92)))

-- the offset of the first quote that no backslash has taken, among so many bytes from this one on; where there is
-- none, the offset behind them
abbrev pub scan_escaped : (taken : Bool) (left o : ℕ) → Action Numbers
scan_escaped taken zero o = part_of (give o)
scan_escaped taken (suc left) o = scan_escaped_byte taken o (λ next. scan_escaped next left (o + 1))

-- the text that comes next in the source, up to a quote that no backslash has taken; >IN moves past that quote
unfoldable pub parse_escaped : Action Spans
parse_escaped = part_of do
  (a, n, i) ← source
  end ← call (scan_escaped false (n - i) (a + i)) []
  parse_past end a n
  give (record { place = a + i; length = end - (a + i) })

-- a text whose escapes are replaced, or throw -24 where one is bad
abbrev pub good_text : {i : AnswerKind} → Option (List ℕ) → Piece i (List ℕ)
good_text None = throw invalid_argument
good_text (Some text) = give text

-- Puts a text in the place of n bytes with escapes, and zeros in the rest of it. These bytes were read where they stand in
-- the source: a copy of them in that place would have the same values, and nothing else of it would stay.
unfoldable pub put_unescaped : (o n : ℕ) → List ℕ → Action Nothing
put_unescaped o n text = part_of do
  put_text o text
  clear (o + length text) (n - length text)

-- compiles a text as a string; the room is that of the n bytes before its escapes were replaced
unfoldable pub compile_text : (n : ℕ) → List ℕ → Action Nothing
compile_text n text = part_of do
  p ← call (string_room n) []
  call (put_unescaped (p + 16) n text) []
  call (lay_string p (length text)) []

-- keeps a text in a buffer, which has room for the n bytes before its escapes were replaced, and pushes it
unfoldable pub keep_text : (n : ℕ) → List ℕ → Action Nothing
keep_text n text = part_of do
  first ← call (string_turn n) []
  call (put_unescaped (string_buffer first) n text) []
  call (push_string first (length text)) []

-- S\" ( -- ) or ( -- a u ): the same as S" for a text with escapes, which are replaced
abbrev pub do_s_backslash_quote : Action Effects
do_s_backslash_quote = action_by do
  span ← call parse_escaped []
  bytes ← call (read_text span) []
  text ← good_text (unescaped bytes)
  interpreting ← equal (At state_cell) (Plain 0)
  choose interpreting (call (keep_text span.length text) []) (call (compile_text span.length text) [])
