-- The actions of the words that parse the source.
use Rattle.std.specs.Prelude.{ℕ, ◌+◌, ◌-◌, zero, suc, nat_le, []}
use Rattle.mi_model.specs.Layout.{word_buffer}
use Rattle.mi_model.specs.Machine.{parsed_string_overflow}
use Rattle.mi_model.specs.Action.{Action, ◌>>=◌, ◌>>◌, action_by, give, call, part_of, tail}
use Rattle.mi_model.specs.Action.AnswerKind.{Effects, Numbers, Spans}
use Rattle.mi_model.specs.Action.Operand.{Plain, Address}
use Rattle.mi_model.specs.Parts.{require, choose, needs, one_in, drop, push, low_byte, fetch_byte_at, put_byte, move_bytes}
use Rattle.mi_model.specs.Parsing.{source, parse_past, is_delimiter, scan_until, parse_name, parse_until}

-- this offset, if the byte there isn't the delimiter; else what the rest gives
abbrev pub skip_byte : (delimiter o : ℕ) → Action Numbers → Action Numbers
skip_byte delimiter o rest = part_of do
  c ← fetch_byte_at o
  choose (is_delimiter delimiter c) (tail rest) (give o)

-- the offset of the first byte that isn't the delimiter among so many from this one on; where all are, the offset
-- behind them
abbrev pub skip_delimiters : (delimiter left o : ℕ) → Action Numbers
skip_delimiters delimiter zero o = part_of (give o)
skip_delimiters delimiter (suc left) o = skip_byte delimiter o (skip_delimiters delimiter left (o + 1))

-- The text that comes next in the source once delimiters are skipped: the bytes before the next delimiter, or all. >IN
-- moves past that delimiter.
unfoldable pub parse_word : (delimiter : ℕ) → Action Spans
parse_word delimiter = part_of do
  (a, n, i) ← source
  start ← call (skip_delimiters delimiter (n - i) (a + i)) []
  end ← call (scan_until delimiter (a + n - start) start) []
  parse_past end a n
  give (record { place = start; length = end - start })

-- PARSE ( c -- a u ): the text of the source up to c
abbrev pub do_parse : Action Effects
do_parse = action_by do
  x ← one_in 2 0
  c ← low_byte x
  span ← call (parse_until c) []
  drop 1
  push (Address span.place)
  push (Plain span.length)

-- PARSE-NAME ( -- a u ): the next name of the source
abbrev pub do_parse_name : Action Effects
do_parse_name = action_by do
  needs 0 2 0 0
  span ← call parse_name []
  push (Address span.place)
  push (Plain span.length)

-- WORD ( c -- a ): the text up to c, once c's are skipped, as a counted string in the WORD buffer; over 255 bytes is throw
-- -18
abbrev pub do_word : Action Effects
do_word = action_by do
  x ← one_in 1 0
  c ← low_byte x
  span ← call (parse_word c) []
  require (nat_le span.length 255) parsed_string_overflow
  move_bytes span.place (word_buffer + 1) span.length
  put_byte word_buffer span.length
  drop 1
  push (Address word_buffer)
