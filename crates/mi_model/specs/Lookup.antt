-- The lookup of a name, letters folded, in a wordlist and in the search order.
use Rattle.std.specs.Prelude.{ℕ, ◌+◌, ◌/◌, zero, suc, true, false, not, nat_le, ◌==◌, List, [], ◌∷◌, length, slice_index, Option, None, Some}
use Rattle.mi_model.specs.declared.Word.{Word}
use Rattle.mi_model.specs.Layout.{order_count_cell, order_cell}
use Rattle.mi_model.specs.Characters.{folded}
use Rattle.mi_model.specs.Machine.{invalid_address, search_order_overflow}
use Rattle.mi_model.specs.Action.{Operand, Action, AnswerKind, Piece, ◌>>=◌, ◌>>◌, give, part_of, call, tail}
use Rattle.mi_model.specs.Action.AnswerKind.{Numbers, Truths, Words, Lookups}
use Rattle.mi_model.specs.Action.Operand.{Named, At, Plain}
use Rattle.mi_model.specs.Action.Action.{Again}
use Rattle.mi_model.specs.Parts.{throw, require, choose, size, equal, number, offset, fetch, fetch_byte, fetch_byte_at, ◌add◌, ◌mask◌}

-- a name that is looked up: n bytes of the region at an offset, or a text from outside
pub data SoughtName : Type 0 where
  InRegion : (o n : ℕ) → SoughtName
  Given : List ℕ → SoughtName

abbrev pub sought_length : SoughtName → ℕ
sought_length (InRegion o n) = n
sought_length (Given text) = length text

-- its byte i
abbrev pub byte_of_sought : {k : AnswerKind} → SoughtName → ℕ → Piece k ℕ
byte_of_sought (InRegion o n) i = fetch_byte_at (o + i)
byte_of_sought (Given text) i = give (slice_index text i)

unfoldable pub sought_byte : SoughtName → ℕ → Action Numbers
sought_byte sought i = part_of (byte_of_sought sought i)

-- what the parts of a lookup are called with: a header, and its flags
abbrev pub header : Operand
header = Named 0

abbrev pub flags : Operand
flags = Named 1

-- is byte i of the header's name that of the name that is looked up, and do the rest agree too
abbrev pub same_byte : SoughtName → (i : ℕ) → Action Truths → Action Truths
same_byte sought i rest = part_of do
  c ← fetch_byte (header add Plain (16 + i))
  d ← call (sought_byte sought i) []
  choose (folded c == folded d) (tail rest) (give false)

-- are so many bytes of the header's name, from the i-th on, those of the name that is looked up
abbrev pub same_text : SoughtName → (left i : ℕ) → Action Truths
same_text sought zero i = part_of (give true)
same_text sought (suc left) i = same_byte sought i (same_text sought left (i + 1))

-- has the header that name: its length, and its bytes
abbrev pub has_name : SoughtName → Action Truths
has_name sought = part_of do
  same_length ← equal (flags mask 31) (Plain (sought_length sought))
  choose same_length (call (same_text sought (sought_length sought) 0) (header ∷ [])) (give false)

-- is the header visible, and has it that name
unfoldable pub is_named : SoughtName → Action Truths
is_named sought = part_of do
  visible ← equal (flags mask 1024) (Plain 0)
  choose visible (tail (has_name sought)) (give false)

-- the word of a header: its token stands 48 bytes behind the header
unfoldable pub word_of_header : Action Words
word_of_header = part_of do
  t ← offset (header add Plain 48)
  not_immediate ← equal (flags mask 256) (Plain 0)
  not_compile_only ← equal (flags mask 512) (Plain 0)
  give (record { token = t; immediate = not not_immediate; compile_only = not not_compile_only })

-- the word of this header, if it has the name; else what the rest finds from the header that it links to
abbrev pub visit : SoughtName → Action Lookups → Action Lookups
visit sought rest = part_of do
  end ← equal header (Plain 0)
  choose end (give None) do
    f ← fetch (header add Plain 8)
    hit ← call (is_named sought) (header ∷ f ∷ [])
    choose hit (do
      w ← call word_of_header (header ∷ f ∷ [])
      give (Some w)) do
        next ← fetch header
        tail (Again (next ∷ []) rest)

-- the first word of that name from this header on; a walk of more headers than `left` is throw -9
abbrev pub find_from : (left : ℕ) → SoughtName → Action Lookups
find_from zero sought = part_of do
  end ← equal header (Plain 0)
  choose end (give None) (throw invalid_address)
find_from (suc left) sought = visit sought (find_from left sought)

-- the first of that name in the wordlist that it is called with, the newest first; of the S bytes of the region each
-- header has 64, so a walk visits at most S/64 of them
unfoldable pub find_in_list : SoughtName → Action Lookups
find_in_list sought = part_of do
  head ← fetch (Named 0)
  s ← size
  tail (Again (head ∷ []) (find_from (s / 64) sought))

-- the word that was found, or what the rest finds
abbrev pub found_or : Option Word → Action Lookups → Piece Lookups (Option Word)
found_or None rest = tail rest
found_or (Some w) rest = give (Some w)

-- the first of that name in wordlist i of the search order, or what the rest finds
abbrev pub find_at : SoughtName → (i : ℕ) → Action Lookups → Action Lookups
find_at sought i rest = part_of do
  found ← call (find_in_list sought) (At (order_cell i) ∷ [])
  found_or found rest

-- the first of that name in so many wordlists of the search order, from the i-th on
abbrev pub find_in_order : (left i : ℕ) → SoughtName → Action Lookups
find_in_order zero i sought = part_of (give None)
find_in_order (suc left) i sought = find_at sought i (find_in_order left (i + 1) sought)

-- the first of that name in the search order, which has at most 16 wordlists, else throw -49
unfoldable pub find : SoughtName → Action Lookups
find sought = part_of do
  count ← number (At order_count_cell)
  require (nat_le count 16) search_order_overflow
  tail (find_in_order count 0 sought)
