-- What the two walks of a marker over the wordlists go over, apart from the walks.
use Rattle.std.specs.Prelude.{ℕ, ◌≡◌, ◌+◌, ◌≤◌, suc, true, false, List, [], ◌∷◌, length, drop, Ok}
use Rattle.mi_model.specs.Layout.{forth_wordlist}
use Rattle.mi_model.specs.Ops.{Ops}
use Rattle.mi_model.specs.Ops.Two.{Add}
use Rattle.mi_model.specs.Ops.Test.{Equal, Below}
use Rattle.mi_model.specs.Machine.{asked}
use Rattle.mi_model.specs.Region.{cell_at, fetch_at, with_cell}
use Rattle.mi_model.specs.Action.{Action, ◌>>=◌, give, part_of}
use Rattle.mi_model.specs.Action.AnswerKind.{Numbers}
use Rattle.mi_model.specs.Markers.{read_marker}

-- From the header on whose address stands at an offset, x is 0 or the address of the first header below the old end, and
-- stands at the offset `place`; the headers in front of it are at most so many, and lie at or above the old end's offset.
pub data FirstBelow {C B : Type 0} (ops : Ops C B) (bytes : List B) (old : C) (end : ℕ) : (most from place : ℕ) → C → Type 0 where
  none : {most o : ℕ} {x : C} → fetch_at ops bytes o ≡ Ok x → asked (ops.test Equal x (ops.plain 0)) ≡ Ok true → FirstBelow ops bytes old end most o o x
  here : {most o : ℕ} {x : C} → fetch_at ops bytes o ≡ Ok x → asked (ops.test Equal x (ops.plain 0)) ≡ Ok false → asked (ops.test Below x old) ≡ Ok true → FirstBelow ops bytes old end (suc most) o o x
  behind : {most o next place : ℕ} {x y : C} → fetch_at ops bytes o ≡ Ok y → asked (ops.test Equal y (ops.plain 0)) ≡ Ok false → asked (ops.test Below y old) ≡ Ok false
      → cell_at ops bytes y ≡ Ok next → end ≤ next → FirstBelow ops bytes old end most next place x → FirstBelow ops bytes old end (suc most) o place x

-- The wordlists from an address on, each by its offset, with 0 or the address of its first header below the old end.
-- There are none where the address is 0; else there is the one at the address, whose head stands at its offset and whose
-- link stands 8 bytes behind it, and then those from that link on.
pub data AreWordlists {C B : Type 0} (ops : Ops C B) (bytes : List B) (old : C) (end headers : ℕ) : C → List (ℕ × C) → Type 0 where
  ends : {w : C} → asked (ops.test Equal w (ops.plain 0)) ≡ Ok true → AreWordlists ops bytes old end headers w []
  wordlist : {w a link x : C} {o place : ℕ} {rest : List (ℕ × C)} → asked (ops.test Equal w (ops.plain 0)) ≡ Ok false → cell_at ops bytes w ≡ Ok o
      → FirstBelow ops bytes old end headers o place x → asked (ops.two Add w (ops.plain 8)) ≡ Ok a → cell_at ops bytes a ≡ Ok (o + 8) → fetch_at ops bytes (o + 8) ≡ Ok link
      → AreWordlists ops bytes old end headers link rest → AreWordlists ops bytes old end headers w ((o, x) ∷ rest)

-- each of these wordlists, of 16 bytes, lies from 240 on; the first one ends at or below this offset, and each other one
-- at or below the offset of the one before it
abbrev pub Descend : {C : Type 0} → (bound : ℕ) → List (ℕ × C) → Type 0
Descend bound [] = Unit {0}
Descend bound ((o, x) ∷ rest) = (forth_wordlist ≤ o) × (o + 16 ≤ bound) × Descend o rest

-- the bytes with the cell at each of these offsets made what it comes with
abbrev pub with_heads : {C B : Type 0} → Ops C B → List B → List (ℕ × C) → List B
with_heads ops bytes [] = bytes
with_heads ops bytes ((o, x) ∷ rest) = with_heads ops (with_cell ops bytes o x) rest

-- regions of one length, with the same bytes from 240 on: below that are the cells of the system, of which the search
-- order with its count is the last
abbrev pub SameFromForth : {B : Type 0} → (bytes others : List B) → Type 0
SameFromForth bytes others = (length others ≡ length bytes) × (drop 240 others ≡ drop 240 bytes)

-- what (DOMARKER) does until it writes, as a part that gives how many wordlists stay
abbrev pub domarker_reads : Action Numbers
domarker_reads = part_of do
  (old, latest, current, voc, order, headers, count) ← read_marker
  give count
