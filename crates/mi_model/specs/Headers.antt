-- The laying of headers.
use Rattle.std.specs.Prelude.{ℕ, ◌+◌, ◌-◌, nat_le, nat_lt, []}
use Rattle.mi_model.specs.declared.Span.{Span}
use Rattle.mi_model.specs.declared.HeaderPlace.{HeaderPlace}
use Rattle.mi_model.specs.Layout.{dp_cell, current_cell, latest_cell}
use Rattle.mi_model.specs.Machine.{zero_length_name, name_too_long, dictionary_overflow}
use Rattle.mi_model.specs.Action.{Action, ◌>>=◌, ◌>>◌, give, call, part_of}
use Rattle.mi_model.specs.Action.Operand.{Named, At, Plain, Address, CodeAddress}
use Rattle.mi_model.specs.Action.AnswerKind.{Nothing, Numbers, HeaderPlaces}
use Rattle.mi_model.specs.Parts.{require, offset, cell_place, size, name, put_cell, move_bytes, clear, here, aligned_cell}

-- Where the header of this name goes: at HERE, rounded up to a cell, with so many bytes behind it that must fit too, else
-- throw -8. It is taken by the wordlist of CURRENT, whose first cell is its head.
unfoldable pub header_place : Span → (body : ℕ) → Action HeaderPlaces
header_place span body = part_of do
  require (nat_lt 0 span.length) zero_length_name
  require (nat_le span.length 31) name_too_long
  call here []
  q ← offset (aligned_cell (At dp_cell))
  s ← size
  require (nat_le (q + (64 + body)) s) dictionary_overflow
  list ← cell_place (At current_cell)
  give (record { header = q; list = list })

-- lays the header of this name there, with the code of a tag: the name, whose bytes are copied first, then link, flags,
-- code field and second cell; it becomes the head of its wordlist and LATEST, and DP goes behind it
abbrev pub write_header_with : (tag flags : ℕ) → Span → HeaderPlace → Action Nothing
write_header_with tag flags span place = part_of do
  link ← name (At place.list)
  move_bytes span.place (place.header + 16) span.length
  put_cell place.header link
  put_cell (place.header + 8) (Plain flags)
  clear (place.header + 16 + span.length) (32 - span.length)
  put_cell (place.header + 48) (CodeAddress tag)
  put_cell (place.header + 56) (Plain 0)
  put_cell place.list (Address place.header)
  put_cell latest_cell (Address place.header)
  put_cell dp_cell (Address (place.header + 64))

-- the same with the flags of a visible word, which are the length of its name
unfoldable pub write_header : (tag : ℕ) → Span → HeaderPlace → Action Nothing
write_header tag span place = write_header_with tag span.length span place

-- the same with the flags of a hidden word
unfoldable pub write_hidden_header : (tag : ℕ) → Span → HeaderPlace → Action Nothing
write_hidden_header tag span place = write_header_with tag (span.length + 1024) span place

-- lays a header behind which there is room for a body of so many bytes
unfoldable pub lay_header : (tag : ℕ) → Span → (body : ℕ) → Action Nothing
lay_header tag span body = part_of do
  place ← call (header_place span body) []
  call (write_header tag span place) []

-- lays a header and compiles the cell that it is called with
unfoldable pub lay_header_with_cell : (tag : ℕ) → Span → Action Nothing
lay_header_with_cell tag span = part_of do
  place ← call (header_place span 8) []
  call (write_header tag span place) []
  put_cell (place.header + 64) (Named 0)
  put_cell dp_cell (Address (place.header + 72))

-- where a header without a name goes, which no wordlist takes: at HERE, rounded up to a cell, else throw -8
unfoldable pub nameless_place : Action Numbers
nameless_place = part_of do
  call here []
  q ← offset (aligned_cell (At dp_cell))
  s ← size
  require (nat_le (q + 64) s) dictionary_overflow
  give q

-- lays a header without a name there, with the code of a tag; it becomes LATEST, and DP goes behind it
unfoldable pub write_nameless_header : (tag header : ℕ) → Action Nothing
write_nameless_header tag header = part_of do
  put_cell header (Plain 0)
  put_cell (header + 8) (Plain 0)
  clear (header + 16) 32
  put_cell (header + 48) (CodeAddress tag)
  put_cell (header + 56) (Plain 0)
  put_cell latest_cell (Address header)
  put_cell dp_cell (Address (header + 64))
