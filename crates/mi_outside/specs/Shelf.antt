-- What entries in memory hold by name.
use Rattle.std.specs.Prelude.{ℕ, Bool, List, [], drop, Option, slice_get, unwrap_or, option_map, option_and_then, find, bytes_eq}
use Rattle.std.specs.List.{position_or_len}
use Rattle.mi_outside.specs.declared.shelf.Entry.{Entry}
use Rattle.mi_outside.specs.declared.shelf.Reading.{Reading}
use Rattle.mi_outside.specs.declared.shelf.Shelf.{Shelf}
use Rattle.mi_outside.specs.Holding.{Holding}

-- the bytes of an entry, or none where its file is gone
abbrev pub bytes_of : Entry → Option (List ℕ)
bytes_of entry = option_map (λ bytes. bytes.items) entry.bytes

-- the entry has this name
abbrev pub is_named : List ℕ → Entry → Bool
is_named name entry = bytes_eq entry.name.items name

-- the place of the first entry of a name, or the length where there is none
unfoldable pub place_of : List Entry → List ℕ → ℕ
place_of entries name = position_or_len (is_named name) entries

-- the content of a name
unfoldable pub content_of : List Entry → List ℕ → Option (List ℕ)
content_of entries name = option_and_then bytes_of (find (is_named name) entries)

-- the bytes of the entry at a place, or none
unfoldable pub bytes_at : List Entry → ℕ → List ℕ
bytes_at entries place = unwrap_or (option_and_then bytes_of (slice_get entries place)) []

-- what is left of the file being read
abbrev pub reading_of : List Entry → Option Reading → Option (List ℕ)
reading_of entries reading = option_map (λ at. drop at.place (bytes_at entries at.index)) reading

-- what a shelf holds, with the name being written
abbrev pub holding_of : Shelf → Option (List ℕ) → Holding
holding_of shelf writing =
    record {
      file = content_of shelf.entries.items;
      reading = reading_of shelf.entries.items shelf.reading;
      writing = writing;
    }
