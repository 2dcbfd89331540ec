-- Parsing a name, or up to a character, in the source, and reading the bytes of a text.
use Rattle.std.specs.Prelude.{ℕ, ◌+◌, ◌-◌, zero, suc, min, Bool, true, false, cond, ◌==◌, nat_le, nat_lt, List, [], ◌∷◌, ◌++◌}
use Rattle.mi_model.specs.declared.Span.{Span}
use Rattle.mi_model.specs.Layout.{in_cell, source_address_cell, source_length_cell}
use Rattle.mi_model.specs.Characters.{is_blank}
use Rattle.mi_model.specs.Machine.{invalid_address}
use Rattle.mi_model.specs.Action.{Action, AnswerKind, Piece, ◌>>=◌, ◌>>◌, give, call, part_of, tail}
use Rattle.mi_model.specs.Action.AnswerKind.{Numbers, Spans, Texts}
use Rattle.mi_model.specs.Action.Operand.{At, Plain}
use Rattle.mi_model.specs.Parts.{require, choose, size, number, offset, fetch_byte_at, put_cell}

-- The source, which lies in the region: its offset, its length, and how much of it is parsed. That is >IN, or all of it
-- where >IN is past the length.
abbrev pub source : {k : AnswerKind} → Piece k (ℕ × ℕ × ℕ)
source = do
  i ← number (At in_cell)
  n ← number (At source_length_cell)
  a ← offset (At source_address_cell)
  s ← size
  require (nat_le (a + n) s) invalid_address
  give (a, n, min i n)

-- >IN moves past the byte at this offset, the one that ends a text, or to the end of a source of n bytes at a
abbrev pub parse_past : {k : AnswerKind} → (o a n : ℕ) → Piece k (Unit {0})
parse_past o a n = put_cell in_cell (Plain (min (o + 1) (a + n) - a))

-- this offset, if the byte there is a blank, or if it is none where no blank is looked for; else what the rest gives
abbrev pub scan_byte : (blank : Bool) (o : ℕ) → Action Numbers → Action Numbers
scan_byte blank o rest = part_of do
  c ← fetch_byte_at o
  choose (cond blank (is_blank c) (nat_lt 32 c)) (give o) (tail rest)

-- the offset of the first byte that is a blank, or of the first that is none, among so many from this one on;
-- where there is no such byte, the offset behind them
abbrev pub scan : (blank : Bool) (left o : ℕ) → Action Numbers
scan blank zero o = part_of (give o)
scan blank (suc left) o = scan_byte blank o (scan blank left (o + 1))

-- The name that comes next in the source: blanks are skipped, and then the bytes up to the next blank are taken.
-- >IN moves past the blank that ends the name.
unfoldable pub parse_name : Action Spans
parse_name = part_of do
  (a, n, i) ← source
  start ← call (scan false (n - i) (a + i)) []
  end ← call (scan true (a + n - start) start) []
  parse_past end a n
  give (record { place = start; length = end - start })

-- is the byte one that parsing up to this character ends at; every blank counts as the blank 32
abbrev pub is_delimiter : (delimiter c : ℕ) → Bool
is_delimiter delimiter c = cond (delimiter == 32) (is_blank c) (c == delimiter)

-- this offset, if the byte there is the delimiter; else what the rest gives
abbrev pub scan_until_byte : (delimiter o : ℕ) → Action Numbers → Action Numbers
scan_until_byte delimiter o rest = part_of do
  c ← fetch_byte_at o
  choose (is_delimiter delimiter c) (give o) (tail rest)

-- the offset of the first delimiter among so many bytes from this one on; where there is none, the offset behind them
abbrev pub scan_until : (delimiter left o : ℕ) → Action Numbers
scan_until delimiter zero o = part_of (give o)
scan_until delimiter (suc left) o = scan_until_byte delimiter o (scan_until delimiter left (o + 1))

-- The text that comes next in the source: the bytes before a delimiter, or all. >IN moves past the delimiter.
unfoldable pub parse_until : (delimiter : ℕ) → Action Spans
parse_until delimiter = part_of do
  (a, n, i) ← source
  end ← call (scan_until delimiter (n - i) (a + i)) []
  parse_past end a n
  give (record { place = a + i; length = end - (a + i) })

-- the byte at an offset behind those that were read before, and the rest
abbrev pub read_byte : (o : ℕ) (before : List ℕ) → (List ℕ → Action Texts) → Action Texts
read_byte o before rest = part_of do
  c ← fetch_byte_at o
  tail (rest (before ++ c ∷ []))

-- the bytes that were read before, and so many more from an offset on
abbrev pub read_on : (left o : ℕ) (before : List ℕ) → Action Texts
read_on zero o before = part_of (give before)
read_on (suc left) o before = read_byte o before (λ text. read_on left (o + 1) text)

-- the bytes of a text in the region
unfoldable pub read_text : Span → Action Texts
read_text span = read_on span.length span.place []
