-- Texts that are cut at an LF, or have none.
use Rattle.std.proofs.Common.{◌≡◌, ℕ, zero, suc, ◌+◌, ◌-◌, ◌<◌, ◌≤◌, Bool, true, false, cond, ◌&&◌, ◌||◌, ◌==◌, nat_le, List, [], ◌∷◌, ◌++◌, length, take, refl, sym, ◌∙◌, ap, arith, length-append}
use Rattle.std.proofs.lemmas.Bool.{leb-true, leb-false, le-leb, lt-leb}
use Rattle.std.proofs.lemmas.List.{take_at}
use Rattle.mi_model.specs.Lines.{lines_of, ends_line, onto_first}
use Rattle.mi_model.specs.Run.{Input, has_line_feed, whole_lines}
use Rattle.mi_text.specs.Ending.{is_empty, without_last_cr}
use Rattle.mi_run.specs.Lines.{input_within}

or_false : (a b : Bool) → (a || b) ≡ false → (a ≡ false) × (b ≡ false)
or_false false b h = (refl, h)
or_false true b h = cc

or_true : (a b : Bool) → b ≡ true → (a || b) ≡ true
or_true true b h = refl
or_true false b h = h

-- a byte before another one stays
stays : (t : Bool) (xs ys : List ℕ) → cond (t && false) xs ys ≡ ys
stays true xs ys = refl
stays false xs ys = refl

no_bytes : (xs : List ℕ) → is_empty xs ≡ true → without_last_cr xs ≡ []
no_bytes [] empty = refl
no_bytes (c ∷ cs) empty = cc

-- one more byte before a line
one_more : (t e : Bool) (c : ℕ) (lines rest : List (List ℕ)) (line : List ℕ) → lines ≡ line ∷ rest → (e ≡ true → line ≡ []) → cond (t && e) lines (onto_first c lines) ≡ cond (t && e) [] (c ∷ line) ∷ rest
one_more true true c lines rest line is empty = is ∙ ap (λ x. x ∷ rest) (empty refl)
one_more true false c lines rest line is empty = ap (λ x. onto_first c x) is
one_more false e c lines rest line is empty = ap (λ x. onto_first c x) is

ends_at : (b rest : List ℕ) → has_line_feed b ≡ false → ends_line (b ++ 10 ∷ rest) ≡ is_empty b
ends_at [] rest h = refl
ends_at (c ∷ cs) rest h = (or_false (c == 10) (has_line_feed cs) h).0

-- a text is cut at its first LF
pub cut : (b rest : List ℕ) → has_line_feed b ≡ false → lines_of (b ++ 10 ∷ rest) ≡ without_last_cr b ∷ lines_of rest
cut [] rest h = refl
cut (c ∷ cs) rest h =
    let parts = or_false (c == 10) (has_line_feed cs) h in
    let ends = ends_at cs rest parts.1 in
    let more = one_more (c == 13) (ends_line (cs ++ 10 ∷ rest)) c (lines_of (cs ++ 10 ∷ rest)) (lines_of rest) (without_last_cr cs) (cut cs rest parts.1) (λ at_end. no_bytes cs (sym ends ∙ at_end)) in
    rw parts.0 (more ∙ ap (λ e. cond ((c == 13) && e) [] (c ∷ without_last_cr cs) ∷ lines_of rest) ends)

-- the only line of a text, where it isn't empty
abbrev pub only_line : List ℕ → List (List ℕ)
only_line [] = []
only_line (c ∷ cs) = (c ∷ cs) ∷ []

onto_only : (c : ℕ) (line : List ℕ) → onto_first c (only_line line) ≡ (c ∷ line) ∷ []
onto_only c [] = refl
onto_only c (d ∷ ds) = refl

one_more_last : (t e : Bool) (c : ℕ) (lines : List (List ℕ)) (line : List ℕ) → lines ≡ only_line line → (e ≡ true → line ≡ []) → cond (t && e) lines (onto_first c lines) ≡ only_line (cond (t && e) [] (c ∷ line))
one_more_last true true c lines line is empty = is ∙ ap only_line (empty refl)
one_more_last true false c lines line is empty = ap (λ x. onto_first c x) is ∙ onto_only c line
one_more_last false e c lines line is empty = ap (λ x. onto_first c x) is ∙ onto_only c line

ends_last : (b : List ℕ) → has_line_feed b ≡ false → ends_line b ≡ is_empty b
ends_last [] h = refl
ends_last (c ∷ cs) h = (or_false (c == 10) (has_line_feed cs) h).0

-- a text without an LF has one line or none
pub uncut : (b : List ℕ) → has_line_feed b ≡ false → lines_of b ≡ only_line (without_last_cr b)
uncut [] h = refl
uncut (c ∷ cs) h =
    let parts = or_false (c == 10) (has_line_feed cs) h in
    let ends = ends_last cs parts.1 in
    let more = one_more_last (c == 13) (ends_line cs) c (lines_of cs) (without_last_cr cs) (uncut cs parts.1) (λ at_end. no_bytes cs (sym ends ∙ at_end)) in
    rw parts.0 (more ∙ ap (λ e. only_line (cond ((c == 13) && e) [] (c ∷ without_last_cr cs))) ends)

-- the whole lines of a text that is cut at an LF, and of one that has none
has_one : (b rest : List ℕ) → has_line_feed (b ++ 10 ∷ rest) ≡ true
has_one [] rest = refl
has_one (c ∷ cs) rest = or_true (c == 10) (has_line_feed (cs ++ 10 ∷ rest)) (has_one cs rest)

pub whole_cut : (b rest : List ℕ) → whole_lines (b ++ 10 ∷ rest) ≡ b ++ 10 ∷ whole_lines rest
whole_cut [] rest = refl
whole_cut (c ∷ cs) rest =
    ap (λ t. cond t (c ∷ whole_lines (cs ++ 10 ∷ rest)) []) (has_one (c ∷ cs) rest) ∙ ap (λ xs. c ∷ xs) (whole_cut cs rest)

pub whole_none : (b : List ℕ) → has_line_feed b ≡ false → whole_lines b ≡ []
whole_none [] h = refl
whole_none (c ∷ cs) h = ap (λ t. cond t (c ∷ whole_lines cs) []) h

pub none_more : (b : List ℕ) (byte : ℕ) → has_line_feed b ≡ false → (byte == 10) ≡ false → has_line_feed (b ++ byte ∷ []) ≡ false
none_more [] byte h k = rw k refl
none_more (c ∷ cs) byte h k =
    let parts = or_false (c == 10) (has_line_feed cs) h in
    rw parts.0 (none_more cs byte parts.1 k)

take_past : (b rest : List ℕ) (n room : ℕ) → n ≡ length b + suc room → take n (b ++ 10 ∷ rest) ≡ b ++ 10 ∷ take room rest
take_past [] rest n room e = let f : n ≡ suc room = omega arith in rw f refl
take_past (c ∷ cs) rest n room e =
    let f : n ≡ suc (length cs + suc room) = omega arith in
    rw f (ap (λ xs. c ∷ xs) (take_past cs rest (length cs + suc room) room refl))

le_by : (t : Bool) (a b c d : ℕ) → nat_le a b ≡ t → (a ≤ b → c ≤ d) → (b < a → d < c) → nat_le c d ≡ t
le_by true a b c d e h k = le-leb c d (h (leb-true a b e))
le_by false a b c d e h k = lt-leb c d (k (leb-false a b e))

-- the lines and whether there is more, by whether the text is short enough
abbrev input_by : Bool → (room : ℕ) → List ℕ → Input
input_by t room text = cond t (record { lines = lines_of text; longer = false }) (record { lines = lines_of (whole_lines (take room text)); longer = true })

line_by : (t : Bool) (b rest : List ℕ) (old room : ℕ) → old ≡ length b + suc room → has_line_feed b ≡ false
    → ((input_by t old (b ++ 10 ∷ rest)).lines ≡ without_last_cr b ∷ (input_by t room rest).lines) × ((input_by t old (b ++ 10 ∷ rest)).longer ≡ (input_by t room rest).longer)
line_by true b rest old room e h = (cut b rest h, refl)
line_by false b rest old room e h =
    (ap (λ xs. lines_of (whole_lines xs)) (take_past b rest old room e) ∙ ap lines_of (whole_cut b (take room rest)) ∙ cut b (whole_lines (take room rest)) h, refl)

-- a line that ends with an LF
pub line_of_input : (b rest : List ℕ) (old room : ℕ) → old ≡ length b + suc room → has_line_feed b ≡ false
    → ((input_within old (b ++ 10 ∷ rest)).lines ≡ without_last_cr b ∷ (input_within room rest).lines) × ((input_within old (b ++ 10 ∷ rest)).longer ≡ (input_within room rest).longer)
line_of_input b rest old room e h =
    let size : length (b ++ 10 ∷ rest) ≡ length b + suc (length rest) = length-append b (10 ∷ rest) in
    let same : nat_le (length (b ++ 10 ∷ rest)) old ≡ nat_le (length rest) room = le_by (nat_le (length rest) room) (length rest) room _ _ refl (λ k. omega arith) (λ k. omega arith) in
    rw same (line_by (nat_le (length rest) room) b rest old room e h)

-- the end of the input
pub end_of_input : (b : List ℕ) (old room : ℕ) → old ≡ length b + room → has_line_feed b ≡ false
    → ((input_within old b).lines ≡ only_line (without_last_cr b)) × ((input_within old b).longer ≡ false)
end_of_input b old room e h = let short : nat_le (length b) old ≡ true = le-leb _ _ (omega arith) in rw short (uncut b h, refl)

-- a line that doesn't end within what may be read
pub too_long_in_input : (b rest : List ℕ) (c old : ℕ) → old ≡ length b → has_line_feed b ≡ false
    → ((input_within old (b ++ c ∷ rest)).lines ≡ []) × ((input_within old (b ++ c ∷ rest)).longer ≡ true)
too_long_in_input b rest c old e h =
    let size : length (b ++ c ∷ rest) ≡ length b + suc (length rest) = length-append b (c ∷ rest) in
    let long : nat_le (length (b ++ c ∷ rest)) old ≡ false = lt-leb _ _ (omega arith) in
    rw long (ap (λ xs. lines_of (whole_lines xs)) (take_at b (c ∷ rest) old (sym e)) ∙ ap lines_of (whole_none b h), refl)

empty_front : (n : ℕ) (xs : List ℕ) → is_empty (take (suc n) xs) ≡ is_empty xs
empty_front n [] = refl
empty_front n (c ∷ cs) = refl

-- a CR at the end of a line's front that is kept stands beyond what counts
pub front_without_cr : (n : ℕ) (b : List ℕ) → take n (without_last_cr (take (suc n) b)) ≡ take n (without_last_cr b)
front_without_cr zero b = refl
front_without_cr (suc n) [] = refl
front_without_cr (suc n) (c ∷ []) = refl
front_without_cr (suc n) (c ∷ d ∷ ds) =
    ap (take (suc n)) (stays (c == 13) [] (c ∷ without_last_cr (take (suc n) (d ∷ ds))))
    ∙ ap (λ xs. c ∷ xs) (front_without_cr n (d ∷ ds))
    ∙ sym (ap (take (suc n)) (stays (c == 13) [] (c ∷ without_last_cr (d ∷ ds))))
