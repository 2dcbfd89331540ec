-- The line that reports an outcome.
use Rattle.std.specs.Prelude.{ℕ, ◌-◌, false, List, [], ◌∷◌, ◌++◌, length, get_or, replicate, codes, decimal, ◌==◌, if◌then◌else◌}
use Rattle.std.specs.Fmt.{signed_decimal, digits}
use Rattle.mi_model.specs.declared.Found.TheVariants.{Form as AForm, Mixed}
use Rattle.mi_model.specs.declared.Pair.{Pair}
use Rattle.mi_model.specs.declared.Why.{Why}
use Rattle.mi_model.specs.declared.Why.TheVariants.{Undecided, Far, Mask, Shift, Multiply, Divide, Byte, Count}
use Rattle.mi_model.specs.Tags.{name_of}
use Rattle.mi_model.specs.Throws.{throw_text_of}
use Rattle.mi_commands.specs.declared.outcome.Outcome.{Outcome}
use Rattle.mi_commands.specs.declared.outcome.Outcome.TheVariants.{Built, NoMemory, Usage, ReadFault, NoFile, WriteFault, TooManySources, SourceTooLong, Thrown, Spent, NoEntry, Step, Cell, Done, NotImage, Truncated, TooLarge, MadeFor, PairNotAllowed, EntryThrown, InputTooLong}

-- the name of a file: file 0 is the prelude, and the sources count from 1
abbrev pub file_name_of : (sources : List (List ℕ)) → (file : ℕ) → List ℕ
file_name_of sources file = if file == 0 then codes "prelude" else get_or sources (file - 1) []

-- 16 hexadecimal digits, with zeros in front
abbrev pub hexadecimal : ℕ → List ℕ
hexadecimal n = let shown = digits 16 false n in replicate (16 - length shown) 48 ++ shown

-- a space and the text, or nothing for an empty text
abbrev pub after_space : List ℕ → List ℕ
after_space text = if length text == 0 then [] else 32 ∷ text

-- the pieces one after another, and a line feed
abbrev pub line_of : List (List ℕ) → List ℕ
line_of [] = 10 ∷ []
line_of (piece ∷ rest) = piece ++ line_of rest

-- a pair: its data base, and its code base
abbrev pub pair_text : Pair → List ℕ
pair_text pair = hexadecimal pair.d ++ 32 ∷ hexadecimal pair.k

-- why an operation has no answer that is right at every pair; undecided ones are answered differently at these two
abbrev pub why_text_of : Why → List ℕ
why_text_of (Undecided first second) = codes "undecided " ++ pair_text first ++ 32 ∷ pair_text second
why_text_of Far = codes "far"
why_text_of Mask = codes "mask"
why_text_of Shift = codes "shift"
why_text_of Multiply = codes "multiply"
why_text_of Divide = codes "divide"
why_text_of Byte = codes "byte"
why_text_of Count = codes "count"

-- the report for the words OUT and SRC.., or for IMG in place of SRC..; none where a run is done
abbrev pub report_of : (out : List ℕ) → (sources : List (List ℕ)) → Outcome → List ℕ
report_of out sources (Built used turns) =
    line_of (codes "image " ∷ out ∷ codes " used " ∷ decimal used ∷ codes " turns " ∷ decimal turns ∷ [])
report_of out sources NoMemory = line_of (codes "no memory" ∷ [])
report_of out sources Usage = line_of (codes "usage" ∷ [])
report_of out sources ReadFault = line_of (codes "read fault" ∷ [])
report_of out sources (NoFile file) = line_of (file_name_of sources file ∷ codes ": no such file" ∷ [])
report_of out sources WriteFault = line_of (codes "write fault" ∷ [])
report_of out sources (TooManySources count) = line_of (codes "too many sources" ∷ [])
report_of out sources (SourceTooLong file) =
    line_of (file_name_of sources file ∷ codes ": longer than 4194304 bytes" ∷ [])
report_of out sources (Thrown code file line) =
    line_of (file_name_of sources file ∷ codes ":" ∷ decimal line ∷ codes ": throw " ∷ signed_decimal code
    ∷ after_space (throw_text_of code) ∷ [])
report_of out sources (Spent turns) = line_of (codes "spent " ∷ decimal turns ∷ [])
report_of out sources NoEntry = line_of (codes "no such name" ∷ [])
report_of out sources (Step number offset tag first second why file line) =
    line_of (file_name_of sources file ∷ codes ":" ∷ decimal line ∷ codes ": step " ∷ decimal number ∷ codes " at "
    ∷ decimal offset ∷ codes " " ∷ name_of tag ∷ codes ": " ∷ why_text_of why ∷ [])
report_of out sources (Cell offset (AForm x)) =
    line_of (codes "cell " ∷ decimal offset ∷ codes ": a " ∷ decimal x.a ∷ codes " b " ∷ decimal x.b ∷ codes " c " ∷ decimal x.c ∷ [])
report_of out sources (Cell offset Mixed) = line_of (codes "cell " ∷ decimal offset ∷ codes ": mixed bytes" ∷ [])
report_of out sources Done = []
report_of out sources (NotImage file place part) = line_of (file_name_of sources file ∷ codes ": no image at " ∷ decimal place ∷ [])
report_of out sources (Truncated file place) = line_of (file_name_of sources file ∷ codes ": ends at " ∷ decimal place ∷ [])
report_of out sources (TooLarge file part value) = line_of (file_name_of sources file ∷ codes ": too large " ∷ decimal value ∷ [])
report_of out sources (MadeFor pair) = line_of (codes "made for " ∷ hexadecimal pair.d ∷ codes " " ∷ hexadecimal pair.k ∷ [])
report_of out sources (PairNotAllowed pair) =
    line_of (codes "pair not allowed " ∷ hexadecimal pair.d ∷ codes " " ∷ hexadecimal pair.k ∷ [])
report_of out sources (EntryThrown code) = line_of (codes "throw " ∷ signed_decimal code ∷ after_space (throw_text_of code) ∷ [])
report_of out sources InputTooLong = line_of (codes "input too long" ∷ [])
