-- A text is never longer once its escapes are replaced.
use Rattle.std.proofs.Common.{◌≡◌, ℕ, ◌+◌, ◌*◌, ◌≤◌, Bool, true, false, cond, ◌==◌, List, [], ◌∷◌, ◌++◌, length, Option, None, Some, refl, sym, ap, ◌∙◌, arith, length-append}
use Rattle.mi_model.specs.declared.Escaped.{Escaped}
use Rattle.mi_model.specs.declared.Escaped.TheVariants.{One, CrLf, Hex}
use Rattle.mi_model.specs.Numbers.{digit_in}
use Rattle.mi_model.specs.Escapes.{InEscape, escape_of, in_front, replace_escape, with_digit, unescaped, unescaped_from}
use Rattle.mi_model.specs.Escapes.InEscape.{Outside, Behind, FirstDigit, SecondDigit}
use Rattle.mi_text.specs.declared.escape_reader.EscapeReader.{EscapeReader}
use Rattle.mi_text.specs.Unescaped.{Reads, in_escape}

-- how many bytes of an escape there were
abbrev begun : InEscape → ℕ
begun Outside = 0
begun Behind = 1
begun FirstDigit = 2
begun (SecondDigit d) = 3

-- what a byte and the rest come to: nothing, or some bytes in front of what the rest comes to
data Step (f : List ℕ → Option (List ℕ)) (most : ℕ) : Type 0 where
  bad : ((cs : List ℕ) → f cs ≡ None) → Step f most
  goes : (bytes : List ℕ) (p : InEscape) → ((cs : List ℕ) → f cs ≡ in_front bytes (unescaped_from p cs)) → length bytes + begun p ≤ most → Step f most

front_nil : (x : Option (List ℕ)) → x ≡ in_front [] x
front_nil None = refl
front_nil (Some t) = refl

escape_step : (found : Option Escaped) → Step (λ cs. replace_escape found (λ next. unescaped_from next cs)) 2
escape_step None = bad (λ cs. refl)
escape_step (Some (One b)) = goes (b ∷ []) Outside (λ cs. refl) (omega arith)
escape_step (Some CrLf) = goes (13 ∷ 10 ∷ []) Outside (λ cs. refl) (omega arith)
escape_step (Some Hex) = goes [] FirstDigit (λ cs. front_nil (unescaped_from FirstDigit cs)) (omega arith)

first_step : (found : Option ℕ) → Step (λ cs. with_digit found (λ d. unescaped_from (SecondDigit d) cs)) 3
first_step None = bad (λ cs. refl)
first_step (Some d) = goes [] (SecondDigit d) (λ cs. front_nil (unescaped_from (SecondDigit d) cs)) (omega arith)

second_step : (d : ℕ) (found : Option ℕ) → Step (λ cs. with_digit found (λ e. in_front ((16 * d + e) ∷ []) (unescaped_from Outside cs))) 4
second_step d None = bad (λ cs. refl)
second_step d (Some e) = goes ((16 * d + e) ∷ []) Outside (λ cs. refl) (omega arith)

outside_step : (c : ℕ) (t : Bool) → Step (λ cs. cond t (unescaped_from Behind cs) (in_front (c ∷ []) (unescaped_from Outside cs))) 1
outside_step c true = goes [] Behind (λ cs. front_nil (unescaped_from Behind cs)) (omega arith)
outside_step c false = goes (c ∷ []) Outside (λ cs. refl) (omega arith)

one_step : (q : InEscape) (c : ℕ) → Step (λ cs. unescaped_from q (c ∷ cs)) (1 + begun q)
one_step Outside c = outside_step c (c == 92)
one_step Behind c = escape_step (escape_of c)
one_step FirstDigit c = first_step (digit_in 16 c)
one_step (SecondDigit d) c = second_step d (digit_in 16 c)

front_some : (bytes : List ℕ) (x : Option (List ℕ)) (t : List ℕ) → in_front bytes x ≡ Some t → (s : List ℕ) × (x ≡ Some s) × (length t ≡ length bytes + length s)
front_some bytes None t is = absurd cc
front_some bytes (Some s) t is = let e : bytes ++ s ≡ t = cc in (s, refl, ap length (sym e) ∙ length-append bytes s)

front_none : (bytes : List ℕ) (x : Option (List ℕ)) → in_front bytes x ≡ None → x ≡ None
front_none bytes None is = refl
front_none bytes (Some s) is = absurd cc

shorter_step : (f : List ℕ → Option (List ℕ)) (most : ℕ) (cs t : List ℕ) → Step f most
    → ((p : InEscape) (s : List ℕ) → unescaped_from p cs ≡ Some s → length s ≤ length cs + begun p) → f cs ≡ Some t → length t ≤ length cs + most
shorter_step f most cs t (bad none) rest is = let e = none cs in absurd cc
shorter_step f most cs t (goes bytes p same few) rest is =
    let some = front_some bytes (unescaped_from p cs) t (sym (same cs) ∙ is) in
    let left : length some.0 ≤ length cs + begun p = rest p some.0 some.1 in
    let all : length t ≡ length bytes + length some.0 = some.2 in
    omega arith

same_length : (xs ys : List ℕ) → ◌≡◌ {A = Option (List ℕ)} (Some xs) (Some ys) → length xs ≡ length ys
same_length xs ys is = let e : xs ≡ ys = cc in ap length e

shorter : (q : InEscape) (xs t : List ℕ) → unescaped_from q xs ≡ Some t → length t ≤ length xs + begun q
shorter Outside [] t is = let e = same_length [] t is in omega arith
shorter Behind [] t is = absurd cc
shorter FirstDigit [] t is = absurd cc
shorter (SecondDigit d) [] t is = absurd cc
shorter q (c ∷ cs) t is =
    let e : length t ≤ length cs + (1 + begun q) = shorter_step (λ xs. unescaped_from q (c ∷ xs)) (1 + begun q) cs t (one_step q c) (λ p s. shorter p cs s) is in
    omega arith

pub unescaped_shorter : (xs t : List ℕ) → unescaped xs ≡ Some t → length t ≤ length xs
unescaped_shorter xs t is = let e : length t ≤ length xs + 0 = shorter Outside xs t is in omega arith

-- where two digits are wanted and one is too few, one byte less was given
digits_step : (f : List ℕ → Option (List ℕ)) (most n : ℕ) (xs ys t : List ℕ) → Step f most
    → ((p : InEscape) (s : List ℕ) → unescaped_from p xs ≡ None → unescaped_from p ys ≡ Some s → length s ≤ n + begun p) → f xs ≡ None → f ys ≡ Some t → length t ≤ n + most
digits_step f most n xs ys t (bad none) rest few is = let e = none ys in absurd cc
digits_step f most n xs ys t (goes bytes p same less) rest few is =
    let some = front_some bytes (unescaped_from p ys) t (sym (same ys) ∙ is) in
    let left : length some.0 ≤ n + begun p = rest p some.0 (front_none bytes (unescaped_from p xs) (sym (same xs) ∙ few)) some.1 in
    let all : length t ≡ length bytes + length some.0 = some.2 in
    omega arith

shorter_digits : (q : InEscape) (xs t : List ℕ) → unescaped_from q (xs ++ 48 ∷ []) ≡ None → unescaped_from q (xs ++ 48 ∷ 48 ∷ []) ≡ Some t → length t ≤ length xs + begun q
unfolding escape_of
shorter_digits Outside [] t few is = absurd cc
shorter_digits Behind [] t few is = absurd cc
shorter_digits FirstDigit [] t few is = let e = same_length (0 ∷ []) t is in omega arith
shorter_digits (SecondDigit d) [] t few is = absurd cc
shorter_digits q (c ∷ cs) t few is =
    let e : length t ≤ length cs + (1 + begun q) =
    digits_step (λ xs. unescaped_from q (c ∷ xs)) (1 + begun q) (length cs) (cs ++ 48 ∷ []) (cs ++ 48 ∷ 48 ∷ []) t (one_step q c) (λ p s. shorter_digits p cs s) few is in
    omega arith

bound : (p : InEscape) (text given : List ℕ) → ((rest : List ℕ) → unescaped (text ++ rest) ≡ in_front given (unescaped_from p rest)) → length given ≤ length text
unfolding escape_of
bound Outside text given reads =
    let e : length (given ++ []) ≤ length (text ++ []) = unescaped_shorter (text ++ []) (given ++ []) (reads []) in
    omega (arith, length-append given [], length-append text [])
bound Behind text given reads =
    let e : length (given ++ 13 ∷ 10 ∷ []) ≤ length (text ++ 109 ∷ []) = unescaped_shorter (text ++ 109 ∷ []) (given ++ 13 ∷ 10 ∷ []) (reads (109 ∷ [])) in
    omega (arith, length-append given (13 ∷ 10 ∷ []), length-append text (109 ∷ []))
bound FirstDigit text given reads =
    let e : length (given ++ 0 ∷ []) ≤ length text + 0 = shorter_digits Outside text (given ++ 0 ∷ []) (reads (48 ∷ [])) (reads (48 ∷ 48 ∷ [])) in
    omega (arith, length-append given (0 ∷ []))
bound (SecondDigit d) text given reads =
    let e : length (given ++ (16 * d + 0) ∷ []) ≤ length (text ++ 48 ∷ []) = unescaped_shorter (text ++ 48 ∷ []) (given ++ (16 * d + 0) ∷ []) (reads (48 ∷ [])) in
    omega (arith, length-append given ((16 * d + 0) ∷ []), length-append text (48 ∷ []))

-- so a reader has never given more bytes than it has read
pub not_longer : (r : EscapeReader) (text given : List ℕ) → Reads r text given → length given ≤ length text
not_longer r text given reads = bound (in_escape r.place) text given reads
