-- The first line of a text.
use Rattle.std.proofs.Common.{◌≡◌, ℕ, zero, suc, ◌+◌, ◌-◌, ◌<◌, ◌≤◌, Bool, true, false, cond, ◌&&◌, ◌==◌, List, [], ◌∷◌, length, get_or, take, drop, slice_range, refl, sym, ◌∙◌, ap, arith, eq-eqb, None, Some}
use Rattle.std.specs.List.{position, position_or_len}
use Rattle.std.proofs.lemmas.Bool.{ne_eqb, eqb-true, eqb-false, ltb-false}
use Rattle.std.proofs.lemmas.List.{length-drop, length-take-le, drop-drop, take_rest}
use Rattle.std.proofs.Math.Seq.{drop-length}
use Rattle.std.proofs.lemmas.List.Quantifiers.{position-Some}
use Rattle.std.proofs.lemmas.List.Sums.{fails_before_first}
use Rattle.mi_model.specs.Lines.{lines_of, ends_line, onto_first}
use Rattle.mi_text.specs.Ending.{is_empty, without_last_cr}

-- no LF stands in this text below this place
abbrev pub NoneBelow : List ℕ → ℕ → Type 0
NoneBelow xs n = (k : ℕ) → k < n → get_or xs k 0 ≡ 10 → ⊥

-- a line ends here where no byte stands before its LF
pub ends-at : (xs : List ℕ) (n : ℕ) → n < length xs → get_or xs n 0 ≡ 10 → NoneBelow xs n → ends_line xs ≡ is_empty (take n xs)
ends-at [] n below is_lf none = absurd (omega arith)
ends-at (c ∷ cs) zero below is_lf none = eq-eqb c 10 is_lf
ends-at (c ∷ cs) (suc n) below is_lf none = ne_eqb c 10 (none 0 (omega arith))

-- a line without bytes has no CR
pub no-bytes : (xs : List ℕ) → is_empty xs ≡ true → without_last_cr xs ≡ []
no-bytes [] empty = refl
no-bytes (c ∷ cs) empty = cc

-- one more byte before a line
pub one-more : (t e : Bool) (c : ℕ) (lines rest : List (List ℕ)) (line : List ℕ) → lines ≡ line ∷ rest → (e ≡ true → line ≡ []) → cond (t && e) lines (onto_first c lines) ≡ cond (t && e) [] (c ∷ line) ∷ rest
one-more true true c lines rest line is empty = is ∙ ap (λ x. x ∷ rest) (empty refl)
one-more true false c lines rest line is empty = ap (λ x. onto_first c x) is
one-more false e c lines rest line is empty = ap (λ x. onto_first c x) is

-- a text is cut at its first LF
pub cut : (xs : List ℕ) (n : ℕ) → n < length xs → get_or xs n 0 ≡ 10 → NoneBelow xs n → lines_of xs ≡ without_last_cr (take n xs) ∷ lines_of (drop (suc n) xs)
cut [] n below is_lf none = absurd (omega arith)
cut (c ∷ cs) zero below is_lf none = rw (eq-eqb c 10 is_lf) refl
cut (c ∷ cs) (suc n) below is_lf none =
    let below_rest : n < length cs = omega arith in
    let none_rest : NoneBelow cs n = λ k less. none (suc k) (omega arith) in
    let ends = ends-at cs n below_rest is_lf none_rest in
    let more = one-more (c == 13) (ends_line cs) c (lines_of cs) (lines_of (drop (suc n) cs)) (without_last_cr (take n cs)) (cut cs n below_rest is_lf none_rest) (λ at_end. no-bytes (take n cs) (sym ends ∙ at_end)) in
    rw (ne_eqb c 10 (none 0 (omega arith))) (more ∙ ap (λ e. cond ((c == 13) && e) [] (c ∷ without_last_cr (take n cs)) ∷ lines_of (drop (suc n) cs)) ends)

-- the only line of a text, where it isn't empty
abbrev pub only_line : List ℕ → List (List ℕ)
only_line [] = []
only_line (c ∷ cs) = (c ∷ cs) ∷ []

pub onto-only : (c : ℕ) (line : List ℕ) → onto_first c (only_line line) ≡ (c ∷ line) ∷ []
onto-only c [] = refl
onto-only c (d ∷ ds) = refl

pub one-more-last : (t e : Bool) (c : ℕ) (lines : List (List ℕ)) (line : List ℕ) → lines ≡ only_line line → (e ≡ true → line ≡ []) → cond (t && e) lines (onto_first c lines) ≡ only_line (cond (t && e) [] (c ∷ line))
one-more-last true true c lines line is empty = is ∙ ap only_line (empty refl)
one-more-last true false c lines line is empty = ap (λ x. onto_first c x) is ∙ onto-only c line
one-more-last false e c lines line is empty = ap (λ x. onto_first c x) is ∙ onto-only c line

-- a line ends at the end of a text without an LF
pub ends-last : (xs : List ℕ) → NoneBelow xs (length xs) → ends_line xs ≡ is_empty xs
ends-last [] none = refl
ends-last (c ∷ cs) none = ne_eqb c 10 (none 0 (omega arith))

-- a text without an LF has one line or none
pub uncut : (xs : List ℕ) → NoneBelow xs (length xs) → lines_of xs ≡ only_line (without_last_cr xs)
uncut [] none = refl
uncut (c ∷ cs) none =
    let none_rest : NoneBelow cs (length cs) = λ k less. none (suc k) (omega arith) in
    let ends = ends-last cs none_rest in
    let more = one-more-last (c == 13) (ends_line cs) c (lines_of cs) (without_last_cr cs) (uncut cs none_rest) (λ at_end. no-bytes cs (sym ends ∙ at_end)) in
    rw (ne_eqb c 10 (none 0 (omega arith))) (more ∙ ap (λ e. only_line (cond ((c == 13) && e) [] (c ∷ without_last_cr cs))) ends)

-- is a byte an LF
abbrev pub is_line_feed : ℕ → Bool
is_line_feed byte = byte == 10

-- no place is found only where the test failed
pub no-place : (b : Bool) (place : ℕ) → cond b (Some place) None ≡ None → b ≡ false
no-place true place is = cc
no-place false place is = refl

-- where no LF is found, there is none
pub none-found : (xs : List ℕ) → position is_line_feed xs ≡ None → NoneBelow xs (length xs)
none-found xs is k less is_lf =
    let behind : length xs ≤ position_or_len is_line_feed xs = ltb-false _ _ (no-place _ _ is) in
    eqb-false _ _ (fails_before_first is_line_feed xs k 0 (omega arith)) is_lf

-- the first line of a text with an LF
pub first-line : (text : List ℕ) (from place end : ℕ) → position is_line_feed (slice_range text from (length text)) ≡ Some place → slice_range text from end ≡ without_last_cr (slice_range text from (from + place)) → lines_of (drop from text) ≡ slice_range text from end ∷ lines_of (drop (from + place + 1) text)
first-line text from place end found value =
    let rest : List ℕ = drop from text in
    let facts = position-Some is_line_feed rest place 0 (ap (position is_line_feed) (sym (take_rest text from)) ∙ found) in
    let cut_there = cut rest place facts.0 (eqb-true _ _ facts.1) (λ k less is_lf. eqb-false _ _ (facts.2 k less) is_lf) in
    let size : place ≡ from + place - from = omega arith in
    let line : without_last_cr (take place rest) ≡ slice_range text from end =
    ap (λ m. without_last_cr (take m rest)) size ∙ sym value in
    let next : from + suc place ≡ from + place + 1 = omega arith in
    let others : drop (suc place) rest ≡ drop (from + place + 1) text =
    drop-drop (suc place) from text ∙ ap (λ m. drop m text) next in
    cut_there ∙ ap (λ x. x ∷ lines_of (drop (suc place) rest)) line ∙ ap (λ x. slice_range text from end ∷ lines_of x) others

-- the lines of a text without an LF
pub last-line : (text : List ℕ) (from end : ℕ) → position is_line_feed (slice_range text from (length text)) ≡ None → slice_range text from end ≡ without_last_cr (slice_range text from (length text)) → lines_of (drop from text) ≡ only_line (slice_range text from end)
last-line text from end none value =
    uncut (drop from text) (none-found (drop from text) (ap (position is_line_feed) (sym (take_rest text from)) ∙ none))
    ∙ ap (λ x. only_line (without_last_cr x)) (sym (take_rest text from))
    ∙ ap only_line (sym value)

-- a line that has bytes is a line
pub only-line : (line : List ℕ) → 0 < length line → only_line line ≡ line ∷ []
only-line [] some = absurd (omega arith)
only-line (c ∷ cs) some = refl

-- an empty range is no line
pub no-line : (text : List ℕ) (from end : ℕ) → end ≡ from → only_line (slice_range text from end) ≡ []
no-line text from end is =
    let size : end - from ≡ 0 = omega arith in
    ap (λ m. only_line (take m (drop from text))) size

-- a range that isn't empty is the only line
pub some-line : (text : List ℕ) (from end : ℕ) → from < end → end ≤ length text → only_line (slice_range text from end) ≡ slice_range text from end ∷ lines_of (drop (length text) text)
some-line text from end some within =
    let some_bytes : 0 < length (slice_range text from end) = omega (arith, length-take-le (end - from) (drop from text) (simp length-drop (omega arith))) in
    only-line (slice_range text from end) some_bytes ∙ ap (λ x. slice_range text from end ∷ lines_of x) (sym (drop-length text))
