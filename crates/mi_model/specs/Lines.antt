-- The lines of a text.
use Rattle.std.specs.Prelude.{ℕ, ◌+◌, ◌==◌, Bool, true, cond, ◌&&◌, List, [], ◌∷◌, ◌++◌, length}

-- does a line end here: at an LF, or at the end of the text
abbrev pub ends_line : List ℕ → Bool
ends_line [] = true
ends_line (c ∷ cs) = c == 10

-- a byte in front of the first line
abbrev pub onto_first : ℕ → List (List ℕ) → List (List ℕ)
onto_first c [] = (c ∷ []) ∷ []
onto_first c (line ∷ lines) = (c ∷ line) ∷ lines

-- The lines of a text: it is cut at each LF, a CR right before an LF or at the end of the text is dropped, and what
-- comes after the last LF is a line where it isn't empty.
abbrev pub lines_of : List ℕ → List (List ℕ)
lines_of [] = []
lines_of (c ∷ cs) = cond (c == 10) ([] ∷ lines_of cs) (cond ((c == 13) && ends_line cs) (lines_of cs) (onto_first c (lines_of cs)))

-- a line with the number of its file and its own number there
pub record NumberedLine : Type 0 where
  pub file : ℕ
  pub line : ℕ
  pub text : List ℕ

-- lines of a file, numbered from this number on
abbrev pub numbered : (file line : ℕ) → List (List ℕ) → List NumberedLine
numbered file line [] = []
numbered file line (text ∷ texts) = record { file = file; line = line; text = text } ∷ numbered file (line + 1) texts

-- all lines of the texts, whose files are numbered from this number on; lines count from 1
abbrev pub lines_of_all : (file : ℕ) → List (List ℕ) → List NumberedLine
lines_of_all file [] = []
lines_of_all file (text ∷ texts) = numbered file 1 (lines_of text) ++ lines_of_all (file + 1) texts

-- how many lines the last text has
abbrev pub last_line_count : List (List ℕ) → ℕ
last_line_count [] = 0
last_line_count (text ∷ []) = length (lines_of text)
last_line_count (text ∷ other ∷ texts) = last_line_count (other ∷ texts)
