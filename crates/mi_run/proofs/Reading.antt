-- A line that is being read, byte after byte.
use Rattle.std.proofs.Common.{◌≡◌, ◌⊎◌, inl, inr, nat_le, ℕ, zero, suc, ◌+◌, ◌-◌, ◌<◌, ◌≤◌, Bool, true, false, IsTrue, List, [], ◌∷◌, ◌++◌, length, take, Option, None, Some, IfSome, refl, sym, ◌∙◌, ap, arith, length-append, append_assoc, append-nil}
use Rattle.std.specs.Prelude.{IsSomeAnd}
use Rattle.std.proofs.lemmas.Bool.{ne_eqb, cases_Bool, leb-true, leb-false}
use Rattle.std.proofs.lemmas.List.{take_at, take-append-le, take_all, length-take-le}
use Rattle.mi_model.specs.Run.{Input, has_line_feed}
use Rattle.mi_text.specs.Ending.{without_last_cr}
use Rattle.mi_run.specs.declared.lines.Next.TheVariants.{Line, End, TooLong}
use Rattle.mi_run.specs.Lines.{text_of, input_within, IsSameToMachines, IsNext, TellsLine}
use Rattle.mi_run.specs.Reading.{TakesLine}
use Rattle.mi_run.proofs.Texts.{only_line, none_more, line_of_input, end_of_input, too_long_in_input, front_without_cr}

-- of a text the body of a line was read, which has no LF, and its front is kept
pub record HasRead (text rest : List ℕ) (old_room room : ℕ) (kept : List ℕ) : Type 0 where
  pub body : List ℕ
  pub is : text ≡ body ++ rest
  pub none : has_line_feed body ≡ false
  pub room_left : old_room ≡ length body + room
  pub front : kept ≡ take 1022 body

abbrev pub HasReadOf : (old new : Option (List ℕ)) → (old_room room : ℕ) → (kept : List ℕ) → Type 0
HasReadOf old new old_room room kept = IfSome old (λ text. IsSomeAnd new (λ rest. HasRead text rest old_room room kept))

pub begins : (old : Option (List ℕ)) (room : ℕ) → HasReadOf old old room room []
begins None room = tt
begins (Some text) room = record { body = []; is = refl; none = refl; room_left = omega arith; front = refl }

le_or_lt : (m n : ℕ) → (m ≤ n) ⊎ (n < m)
le_or_lt m n = elim (cases_Bool (nat_le m n)) [
  | inl is ↦ inl (leb-true m n is)
  | inr is ↦ inr (leb-false m n is)
]

pub not_both : (b : Bool) → b ≡ false → IsTrue b → ⊥
not_both true e h = cc
not_both false e h = cc

pub positive : (n : ℕ) → (n ≡ 0 → ⊥) → 0 < n
positive zero h = absurd (h refl)
positive (suc n) h = omega arith

-- the front of a line is kept with one byte more
kept_more : (body : List ℕ) (byte : ℕ) → take 1022 (take 1022 body ++ byte ∷ []) ≡ take 1022 (body ++ byte ∷ [])
kept_more body byte =
    elim (le_or_lt (length body) 1022) [
      | inl short ↦ ap (λ xs. take 1022 (xs ++ byte ∷ [])) (take_all 1022 body short)
      | inr long ↦
          let size : length (take 1022 body) ≡ 1022 = length-take-le 1022 body (omega arith) in
          take_at (take 1022 body) (byte ∷ []) 1022 size ∙ sym (take-append-le 1022 body (byte ∷ []) (omega arith))
    ]

read_more : (text bytes waiting after : List ℕ) (old_room room : ℕ) (kept : List ℕ) (byte : ℕ) → HasRead text (waiting ++ bytes) old_room room kept → waiting ≡ byte ∷ after → (byte ≡ 10 → ⊥) → 0 < room
    → HasRead text (after ++ bytes) old_room (room - 1) (take 1022 (kept ++ byte ∷ []))
read_more text bytes waiting after old_room room kept byte h w n some =
    record {
      body = h.body ++ byte ∷ [];
      is = h.is ∙ ap (λ xs. h.body ++ (xs ++ bytes)) w ∙ sym (append_assoc h.body (byte ∷ []) (after ++ bytes));
      none = none_more h.body byte h.none (ne_eqb byte 10 n);
      room_left = omega (arith, h.room_left, length-append h.body (byte ∷ []));
      front = ap (λ xs. take 1022 (xs ++ byte ∷ [])) h.front ∙ kept_more h.body byte;
    }

pub reads_more : (old left : Option (List ℕ)) (waiting after : List ℕ) (old_room room : ℕ) (kept : List ℕ) (byte : ℕ) → HasReadOf old (text_of waiting left) old_room room kept → waiting ≡ byte ∷ after → (byte ≡ 10 → ⊥) → 0 < room
    → HasReadOf old (text_of after left) old_room (room - 1) (take 1022 (kept ++ byte ∷ []))
reads_more None left waiting after old_room room kept byte h w n some = tt
reads_more (Some text) None waiting after old_room room kept byte h w n some = h
reads_more (Some text) (Some bytes) waiting after old_room room kept byte h w n some = read_more text bytes waiting after old_room room kept byte h w n some

-- the kept front of a line, without its CR
same_line : (body kept : List ℕ) → kept ≡ take 1022 body → IsSameToMachines (without_last_cr kept) (without_last_cr body)
same_line body kept e = ap (λ xs. take 1021 (without_last_cr xs)) e ∙ front_without_cr 1021 body

read_line : (text bytes waiting after : List ℕ) (old_room room : ℕ) (kept : List ℕ) → HasRead text (waiting ++ bytes) old_room room kept → waiting ≡ 10 ∷ after → 0 < room
    → IsNext Line (input_within old_room text) (input_within (room - 1) (after ++ bytes)) (without_last_cr kept)
read_line text bytes waiting after old_room room kept h w some =
    let is : text ≡ h.body ++ 10 ∷ (after ++ bytes) = h.is ∙ ap (λ xs. h.body ++ (xs ++ bytes)) w in
    let count : old_room ≡ length h.body + suc (room - 1) = omega (arith, h.room_left) in
    let facts = line_of_input h.body (after ++ bytes) old_room (room - 1) count h.none in
    (without_last_cr h.body, ap (λ xs. (input_within old_room xs).lines) is ∙ facts.0, ap (λ xs. (input_within old_room xs).longer) is ∙ facts.1, same_line h.body kept h.front)

pub reads_line : (old left : Option (List ℕ)) (waiting after : List ℕ) (old_room room : ℕ) (kept : List ℕ) (byte : ℕ) → HasReadOf old (text_of waiting left) old_room room kept → waiting ≡ byte ∷ after → byte ≡ 10 → 0 < room
    → TellsLine Line old (text_of after left) old_room (room - 1) (without_last_cr kept)
reads_line None left waiting after old_room room kept byte h w n some = tt
reads_line (Some text) None waiting after old_room room kept byte h w n some = h
reads_line (Some text) (Some bytes) waiting after old_room room kept byte h w n some = read_line text bytes waiting after old_room room kept h (w ∙ ap (λ c. c ∷ after) n) some

-- what was taken of the text as a line ends
take_line : (text bytes waiting after : List ℕ) (old_room room : ℕ) (kept : List ℕ) → HasRead text (waiting ++ bytes) old_room room kept → waiting ≡ 10 ∷ after → 0 < room
    → TakesLine text (after ++ bytes) old_room (room - 1) (without_last_cr kept)
take_line text bytes waiting after old_room room kept h w some =
    record {
      body = h.body;
      is = h.is ∙ ap (λ xs. h.body ++ (xs ++ bytes)) w;
      none = h.none;
      room_left = omega (arith, h.room_left);
      same = same_line h.body kept h.front;
    }

pub takes_line : (old left : Option (List ℕ)) (waiting after : List ℕ) (old_room room : ℕ) (kept : List ℕ) (byte : ℕ) → HasReadOf old (text_of waiting left) old_room room kept → waiting ≡ byte ∷ after → byte ≡ 10 → 0 < room
    → IfSome old (λ text. IsSomeAnd (text_of after left) (λ rest. TakesLine text rest old_room (room - 1) (without_last_cr kept)))
takes_line None left waiting after old_room room kept byte h w n some = tt
takes_line (Some text) None waiting after old_room room kept byte h w n some = h
takes_line (Some text) (Some bytes) waiting after old_room room kept byte h w n some = take_line text bytes waiting after old_room room kept h (w ∙ ap (λ c. c ∷ after) n) some

read_too_long : (text bytes waiting : List ℕ) (old_room room : ℕ) (kept : List ℕ) (new : Input) → HasRead text (waiting ++ bytes) old_room room kept → 0 < length waiting → room ≡ 0
    → IsNext TooLong (input_within old_room text) new kept
read_too_long text bytes [] old_room room kept new h some none = absurd (omega arith)
read_too_long text bytes (c ∷ cs) old_room room kept new h some none =
    let count : old_room ≡ length h.body = omega (arith, h.room_left) in
    let facts = too_long_in_input h.body (cs ++ bytes) c old_room count h.none in
    (ap (λ xs. (input_within old_room xs).lines) h.is ∙ facts.0, ap (λ xs. (input_within old_room xs).longer) h.is ∙ facts.1)

pub reads_too_long : (old left : Option (List ℕ)) (waiting : List ℕ) (old_room room : ℕ) (kept : List ℕ) → HasReadOf old (text_of waiting left) old_room room kept → 0 < length waiting → room ≡ 0
    → TellsLine TooLong old (text_of waiting left) old_room room kept
reads_too_long None left waiting old_room room kept h some none = tt
reads_too_long (Some text) None waiting old_room room kept h some none = h
reads_too_long (Some text) (Some bytes) waiting old_room room kept h some none = read_too_long text bytes waiting old_room room kept (input_within room (waiting ++ bytes)) h some none

-- the body of the last line is the whole text
whole_body : (text rest : List ℕ) (old_room room : ℕ) (kept : List ℕ) (h : HasRead text rest old_room room kept) → rest ≡ [] → text ≡ h.body
whole_body text rest old_room room kept h none = h.is ∙ ap (λ xs. h.body ++ xs) none ∙ append-nil h.body

-- where the kept front of a line is empty, the line is
empty_line : (kept line : List ℕ) → IsSameToMachines kept line → kept ≡ [] → line ≡ []
empty_line kept [] same none = refl
empty_line kept (c ∷ cs) same none = let h : [] ≡ take 1021 (c ∷ cs) = ap (take 1021) (sym none) ∙ same in cc

some_line : (kept line : List ℕ) → IsSameToMachines kept line → (kept ≡ [] → ⊥) → only_line line ≡ line ∷ []
some_line [] [] same some = absurd (some refl)
some_line (k ∷ ks) [] same some = let h : take 1021 (k ∷ ks) ≡ [] = same in cc
some_line kept (c ∷ cs) same some = refl

same_input : (a b : Input) → a.lines ≡ b.lines → a.longer ≡ b.longer → a ≡ b
same_input a b e f = ap (λ (xs : List (List ℕ)). record { lines = xs; longer = a.longer }) e ∙ ap (λ (t : Bool). record { lines = b.lines; longer = t }) f

read_end : (text rest : List ℕ) (old_room room : ℕ) (kept line : List ℕ) → HasRead text rest old_room room kept → rest ≡ [] → without_last_cr kept ≡ []
    → IsNext End (input_within old_room text) (input_within room rest) line
read_end text rest old_room room kept line h none empty =
    let is = whole_body text rest old_room room kept h none in
    let facts = end_of_input h.body old_room room h.room_left h.none in
    let nothing = empty_line (without_last_cr kept) (without_last_cr h.body) (same_line h.body kept h.front) empty in
    let lines : (input_within old_room text).lines ≡ [] = ap (λ xs. (input_within old_room xs).lines) is ∙ facts.0 ∙ ap only_line nothing in
    let longer : (input_within old_room text).longer ≡ false = ap (λ xs. (input_within old_room xs).longer) is ∙ facts.1 in
    let left = end_of_input [] room room (omega arith) refl in (
      lines,
      longer,
      same_input (input_within room rest) (input_within old_room text)
          (ap (λ xs. (input_within room xs).lines) none ∙ left.0 ∙ sym lines)
          (ap (λ xs. (input_within room xs).longer) none ∙ left.1 ∙ sym longer),
    )

pub reads_end : (old new : Option (List ℕ)) (old_room room : ℕ) (kept line : List ℕ) → HasReadOf old new old_room room kept → IfSome new (λ text. text ≡ []) → without_last_cr kept ≡ []
    → TellsLine End old new old_room room line
reads_end None new old_room room kept line h none empty = tt
reads_end (Some text) None old_room room kept line h none empty = h
reads_end (Some text) (Some rest) old_room room kept line h none empty = read_end text rest old_room room kept line h none empty

read_last : (text rest : List ℕ) (old_room room : ℕ) (kept : List ℕ) → HasRead text rest old_room room kept → rest ≡ [] → (without_last_cr kept ≡ [] → ⊥)
    → IsNext Line (input_within old_room text) (input_within room rest) (without_last_cr kept)
read_last text rest old_room room kept h none some =
    let is = whole_body text rest old_room room kept h none in
    let facts = end_of_input h.body old_room room h.room_left h.none in
    let same = same_line h.body kept h.front in
    let line : (input_within old_room text).lines ≡ without_last_cr h.body ∷ [] = ap (λ xs. (input_within old_room xs).lines) is ∙ facts.0 ∙ some_line (without_last_cr kept) (without_last_cr h.body) same some in
    let longer : (input_within old_room text).longer ≡ false = ap (λ xs. (input_within old_room xs).longer) is ∙ facts.1 in
    let left = end_of_input [] room room (omega arith) refl in (
      without_last_cr h.body,
      line ∙ ap (λ xs. without_last_cr h.body ∷ xs) (sym (ap (λ xs. (input_within room xs).lines) none ∙ left.0)),
      longer ∙ sym (ap (λ xs. (input_within room xs).longer) none ∙ left.1),
      same,
    )

pub reads_last : (old new : Option (List ℕ)) (old_room room : ℕ) (kept : List ℕ) → HasReadOf old new old_room room kept → IfSome new (λ text. text ≡ []) → (without_last_cr kept ≡ [] → ⊥)
    → TellsLine Line old new old_room room (without_last_cr kept)
reads_last None new old_room room kept h none some = tt
reads_last (Some text) None old_room room kept h none some = h
reads_last (Some text) (Some rest) old_room room kept h none some = read_last text rest old_room room kept h none some
