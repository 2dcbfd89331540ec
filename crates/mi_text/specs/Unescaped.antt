-- What a reader of a text with escapes has read.
use Rattle.std.specs.Prelude.{ℕ, ◌≡◌, List, [], ◌∷◌, ◌++◌}
use Rattle.mi_model.specs.Escapes.{InEscape, unescaped, unescaped_from, in_front}
use Rattle.mi_text.specs.declared.escape_reader.EscapeReader.{EscapeReader}
use Rattle.mi_text.specs.declared.escape_reader.Place.{Place}
use Rattle.mi_text.specs.declared.escape_reader.Place.TheVariants.{Outside, Behind, FirstDigit, SecondDigit}
use Rattle.mi_text.specs.declared.escape_reader.Replaced.{Replaced}
use Rattle.mi_text.specs.declared.escape_reader.Replaced.TheVariants.{Nothing, One, CrLf}

-- the bytes that are added
abbrev pub bytes_of : Replaced → List ℕ
bytes_of Nothing = []
bytes_of (One b) = b ∷ []
bytes_of CrLf = 13 ∷ 10 ∷ []

-- where the next byte stands
abbrev pub in_escape : Place → InEscape
in_escape Outside = InEscape.Outside
in_escape Behind = InEscape.Behind
in_escape FirstDigit = InEscape.FirstDigit
in_escape (SecondDigit high) = InEscape.SecondDigit high.value

-- the reader has read this text and given these bytes: whatever follows, the whole text with its escapes replaced is
-- these bytes and what the rest comes to
abbrev pub Reads : EscapeReader → (text given : List ℕ) → Type 0
Reads r text given = (rest : List ℕ) → unescaped (text ++ rest) ≡ in_front given (unescaped_from (in_escape r.place) rest)
