-- The texts of the throw codes.
use Rattle.std.specs.Prelude.{ℕ, ℤ, negsuc, List, [], codes, if◌then◌else◌}
use Rattle.std.specs.Ordering.{int_eq}

-- the text of a throw code; it is empty for any other code
unfoldable pub throw_text_of : ℤ → List ℕ
throw_text_of code =
    if int_eq code (negsuc 0) then codes "abort" else ( -- -1
    if int_eq code (negsuc 1) then codes "abort quote" else ( -- -2
    if int_eq code (negsuc 2) then codes "stack overflow" else ( -- -3
    if int_eq code (negsuc 3) then codes "stack underflow" else ( -- -4
    if int_eq code (negsuc 4) then codes "return stack overflow" else ( -- -5
    if int_eq code (negsuc 5) then codes "return stack underflow" else ( -- -6
    if int_eq code (negsuc 7) then codes "dictionary overflow" else ( -- -8
    if int_eq code (negsuc 8) then codes "invalid memory address" else ( -- -9
    if int_eq code (negsuc 9) then codes "division by zero" else ( -- -10
    if int_eq code (negsuc 10) then codes "result out of range" else ( -- -11
    if int_eq code (negsuc 12) then codes "undefined word" else ( -- -13
    if int_eq code (negsuc 13) then codes "interpreting a compile-only word" else ( -- -14
    if int_eq code (negsuc 15) then codes "zero-length name" else ( -- -16
    if int_eq code (negsuc 16) then codes "pictured numeric output overflow" else ( -- -17
    if int_eq code (negsuc 17) then codes "parsed string overflow" else ( -- -18
    if int_eq code (negsuc 18) then codes "name too long" else ( -- -19
    if int_eq code (negsuc 21) then codes "control structure mismatch" else ( -- -22
    if int_eq code (negsuc 22) then codes "address alignment" else ( -- -23
    if int_eq code (negsuc 23) then codes "invalid numeric argument" else ( -- -24
    if int_eq code (negsuc 30) then codes "not a created word" else ( -- -31
    if int_eq code (negsuc 31) then codes "invalid name argument" else ( -- -32
    if int_eq code (negsuc 38) then codes "unexpected end of file" else ( -- -39
    if int_eq code (negsuc 48) then codes "search-order overflow" else ( -- -49
    if int_eq code (negsuc 49) then codes "search-order underflow" else ( -- -50
    []))))))))))))))))))))))))
