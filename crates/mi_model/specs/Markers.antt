-- The action of a marker, which takes back what was defined after it.
use Rattle.std.specs.Prelude.{ℕ, ◌+◌, ◌/◌, zero, suc, nat_le, [], ◌∷◌}
use Rattle.mi_model.specs.Layout.{dp_cell, current_cell, latest_cell, order_count_cell, forth_wordlist, voc_cell, dictionary}
use Rattle.mi_model.specs.Machine.{invalid_address}
use Rattle.mi_model.specs.Action.{Operand, Action, AnswerKind, Piece, ◌>>=◌, ◌>>◌, action_by, give, call, part_of, tail}
use Rattle.mi_model.specs.Action.Operand.{Named, At, Plain}
use Rattle.mi_model.specs.Action.Action.{Again}
use Rattle.mi_model.specs.Action.AnswerKind.{Effects, Nothing, Numbers}
use Rattle.mi_model.specs.Parts.{throw, require, choose, size, equal, below, offset, cell_place, range, fetch, name, put_cell, move_bytes, running_token, ◌add◌}

-- A part can't give a cell, so where one finds an address it gives the offset of the cell that holds it. What the parts
-- are called with: the end of the dictionary that the marker goes back to, below which all stays; and
-- a wordlist
abbrev pub old_end : Operand
old_end = Named 0

abbrev pub wordlist : Operand
wordlist = Named 1

-- this offset, if the wordlist whose address stands there is below the old end; else what the rest gives for the
-- place of its link
abbrev pub visit_new_wordlist : (o : ℕ) → (ℕ → Action Numbers) → Action Numbers
visit_new_wordlist o rest = part_of do
  old ← below (At o) old_end
  choose old (give o) do
    next ← cell_place (At o add Plain 8)
    tail (rest next)

-- where the address of the first wordlist below the old end stands, from the one on whose address stands here; more
-- than `left` others in front of it are throw -9
abbrev pub old_wordlist : (left o : ℕ) → Action Numbers
old_wordlist zero o = part_of do
  old ← below (At o) old_end
  choose old (give o) (throw invalid_address)
old_wordlist (suc left) o = visit_new_wordlist o (λ next. old_wordlist left next)

-- this offset, if 0 or the address of a header below the old end stands there; else what the rest gives for the place
-- of the header's link
abbrev pub visit_new_header : (o : ℕ) → (ℕ → Action Numbers) → Action Numbers
visit_new_header o rest = part_of do
  none ← equal (At o) (Plain 0)
  choose none (give o) do
    old ← below (At o) old_end
    choose old (give o) do
      next ← cell_place (At o)
      tail (rest next)

-- where the address of the first header below the old end stands, or 0, from the header on whose address stands here;
-- a walk of more headers than `left` is throw -9
abbrev pub old_header : (left o : ℕ) → Action Numbers
old_header zero o = part_of do
  none ← equal (At o) (Plain 0)
  choose none (give o) (throw invalid_address)
old_header (suc left) o = visit_new_header o (λ next. old_header left next)

-- the link that this is called with, of the wordlist at an offset, is 0, or the address of a wordlist that ends at or below that offset
unfoldable pub check_link : (o : ℕ) → Action Nothing
check_link o = part_of do
  none ← equal (Named 0) (Plain 0)
  choose none (give tt) do
    lower ← offset (Named 0)
    require (nat_le (lower + 16) o) invalid_address

-- at the end the count, else a wordlist is read, which lies at or above that of FORTH, and the rest counts from the
-- next one on
abbrev pub check_wordlist : (headers counted : ℕ) → Action Numbers → Action Numbers
check_wordlist headers counted rest = part_of do
  end ← equal wordlist (Plain 0)
  choose end (give counted) do
    o ← offset wordlist
    require (nat_le forth_wordlist o) invalid_address
    head ← cell_place wordlist
    call (old_header headers head) (old_end ∷ [])
    link ← fetch (wordlist add Plain 8)
    call (check_link o) (link ∷ [])
    tail (Again (old_end ∷ link ∷ []) rest)

-- The first walk: how many wordlists there are, with those that were counted. It reads what the second one reads and
-- writes nothing, so it meets every throw and refusal that there is. More wordlists than `left` are throw -9.
abbrev pub check_wordlists : (headers left counted : ℕ) → Action Numbers
check_wordlists headers zero counted = part_of do
  end ← equal wordlist (Plain 0)
  choose end (give counted) (throw invalid_address)
check_wordlists headers (suc left) counted = check_wordlist headers counted (check_wordlists headers left (counted + 1))

-- the head of the wordlist becomes its first header below the old end, and the rest goes on with the next wordlist
abbrev pub restore_wordlist : (headers : ℕ) → Action Nothing → Action Nothing
restore_wordlist headers rest = part_of do
  head ← cell_place wordlist
  place ← call (old_header headers head) (old_end ∷ [])
  link ← fetch (wordlist add Plain 8)
  put_cell head (At place)
  tail (Again (old_end ∷ link ∷ []) rest)

-- The second walk, over so many wordlists, as the first walk counted. It meets what that one met: the wordlists lie
-- below the old end, each below the one before it and none over another, and the headers whose links are read lie
-- above it, so no link that is read here is in a head that was written.
abbrev pub restore_wordlists : (headers left : ℕ) → Action Nothing
restore_wordlists headers zero = part_of (give tt)
restore_wordlists headers (suc left) = restore_wordlist headers (restore_wordlists headers left)

-- What (DOMARKER) reads before it writes. The body has the old end of the dictionary, LATEST, CURRENT, and the search
-- order with its count, 136 bytes, as they were before the marker. This gives the old end, LATEST and CURRENT, the
-- newest wordlist that stays, the offset of the search order, the most headers of a wordlist, and how many wordlists stay.
abbrev pub read_marker : {k : AnswerKind} → Piece k (Operand × Operand × Operand × Operand × ℕ × ℕ × ℕ)
read_marker = do
  body ← name (running_token add Plain 16)
  old ← fetch body
  o ← offset old
  require (nat_le dictionary o) invalid_address
  s ← size
  newest ← call (old_wordlist (s / 8) voc_cell) (old ∷ [])
  voc ← name (At newest)
  fetch body
  latest ← fetch (body add Plain 8)
  current ← fetch (body add Plain 16)
  order ← range 136 (body add Plain 24)
  count ← call (check_wordlists (s / 64) (s / 8) 0) (old ∷ voc ∷ [])
  give (old, latest, current, voc, order, s / 64, count)

-- (DOMARKER) ( -- ): The end of the dictionary, LATEST, CURRENT and the search order become again what the body has. The
-- wordlists at or above the old end are dropped, and the headers there from those that stay. The bytes of the search
-- order are copied, so that comes before any other write; no walk reads them.
abbrev pub do_domarker : Action Effects
do_domarker = action_by do
  (old, latest, current, voc, order, headers, count) ← read_marker
  move_bytes order order_count_cell 136
  call (restore_wordlists headers count) (old ∷ voc ∷ [])
  put_cell voc_cell voc
  put_cell dp_cell old
  put_cell latest_cell latest
  put_cell current_cell current
