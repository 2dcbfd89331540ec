-- How many lines a text has.
use Rattle.std.proofs.Common.{ℕ, suc, ◌≤◌, Bool, true, false, cond, ◌&&◌, ◌==◌, List, [], ◌∷◌, length, arith}
use Rattle.mi_model.specs.Lines.{lines_of, ends_line, onto_first}

-- one more byte makes one line more at most
pub length-onto : (c : ℕ) (lines : List (List ℕ)) → length (onto_first c lines) ≤ suc (length lines)
length-onto c [] = omega arith
length-onto c (line ∷ lines) = omega arith

pub length-more : (is_lf drops : Bool) (c : ℕ) (lines : List (List ℕ)) → length (cond is_lf ([] ∷ lines) (cond drops lines (onto_first c lines))) ≤ suc (length lines)
length-more true drops c lines = omega arith
length-more false true c lines = omega arith
length-more false false c lines = length-onto c lines

-- a text has no more lines than bytes
pub length-lines : (text : List ℕ) → length (lines_of text) ≤ length text
length-lines [] = omega arith
length-lines (c ∷ cs) =
    let rest = length-lines cs in
    omega (arith, length-more (c == 10) ((c == 13) && ends_line cs) c (lines_of cs))
