-- The escapes in the text of S\".
use Rattle.std.specs.Prelude.{ℕ, ◌+◌, ◌*◌, cond, ◌==◌, if◌then◌else◌, List, [], ◌∷◌, ◌++◌, Option, None, Some}
use Rattle.mi_model.specs.declared.Escaped.{Escaped}
use Rattle.mi_model.specs.declared.Escaped.TheVariants.{One, CrLf, Hex}
use Rattle.mi_model.specs.Numbers.{digit_in}

-- what a backslash and this byte stand for, where they are an escape
unfoldable pub escape_of : ℕ → Option Escaped
escape_of c =
    if c == 97 then Some (One 7) else  -- \a: bell
    if c == 98 then Some (One 8) else  -- \b: backspace
    if c == 101 then Some (One 27) else  -- \e: escape
    if c == 102 then Some (One 12) else  -- \f: form feed
    if c == 108 then Some (One 10) else  -- \l: line feed
    if c == 109 then Some CrLf else  -- \m: carriage return and line feed
    if c == 110 then Some (One 10) else  -- \n: new line
    if c == 113 then Some (One 34) else  -- \q: quote
    if c == 114 then Some (One 13) else  -- \r: carriage return
    if c == 116 then Some (One 9) else  -- \t: tab
    if c == 118 then Some (One 11) else  -- \v: vertical tab
    if c == 122 then Some (One 0) else  -- \z: zero
    if c == 34 then Some (One 34) else  -- \": quote
    if c == 92 then Some (One 92) else  -- \\: backslash
    if c == 120 then Some Hex else  -- \x: the byte of two hexadecimal digits
    None

-- where a byte of a text stands: in no escape, right behind a backslash, or as one of the two digits of \x, of which
-- the second has the value of the first in front of it
pub data InEscape : Type 0 where
  Outside Behind FirstDigit : InEscape
  SecondDigit : ℕ → InEscape

-- these bytes in front of a replaced text
abbrev pub in_front : List ℕ → Option (List ℕ) → Option (List ℕ)
in_front bytes None = None
in_front bytes (Some text) = Some (bytes ++ text)

-- an escape, and then the rest, which is told where its first byte stands
abbrev pub replace_escape : Option Escaped → (InEscape → Option (List ℕ)) → Option (List ℕ)
replace_escape None rest = None
replace_escape (Some (One b)) rest = in_front (b ∷ []) (rest Outside)
replace_escape (Some CrLf) rest = in_front (13 ∷ 10 ∷ []) (rest Outside)
replace_escape (Some Hex) rest = rest FirstDigit

-- a hexadecimal digit, and then the rest, which is told its value
abbrev pub with_digit : Option ℕ → (ℕ → Option (List ℕ)) → Option (List ℕ)
with_digit None rest = None
with_digit (Some d) rest = rest d

-- a byte, and then the rest
abbrev pub replace_byte : InEscape → (c : ℕ) → (InEscape → Option (List ℕ)) → Option (List ℕ)
replace_byte Outside c rest = cond (c == 92) (rest Behind) (in_front (c ∷ []) (rest Outside))
replace_byte Behind c rest = replace_escape (escape_of c) rest
replace_byte FirstDigit c rest = with_digit (digit_in 16 c) (λ d. rest (SecondDigit d))
replace_byte (SecondDigit d) c rest = with_digit (digit_in 16 c) (λ e. in_front ((16 * d + e) ∷ []) (rest Outside))

-- a text can only end outside its escapes
abbrev pub text_end : InEscape → Option (List ℕ)
text_end Outside = Some []
text_end Behind = None
text_end FirstDigit = None
text_end (SecondDigit d) = None

-- the text with its escapes replaced, where its first byte stands there; none where an escape is bad
abbrev pub unescaped_from : InEscape → List ℕ → Option (List ℕ)
unescaped_from place [] = text_end place
unescaped_from place (c ∷ cs) = replace_byte place c (λ next. unescaped_from next cs)

-- a text with its escapes replaced
abbrev pub unescaped : List ℕ → Option (List ℕ)
unescaped text = unescaped_from Outside text
