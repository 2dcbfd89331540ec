-- The digits that are read, one after another.
use Rattle.std.proofs.Common.{◌≡◌, ℕ, zero, suc, ◌+◌, ◌-◌, ◌*◌, ◌%◌, ◌^◌, ◌<◌, ◌≤◌, List, [], ◌∷◌, ◌++◌, length, Option, None, Some, Result, Ok, Err, refl, sym, ap, ◌∙◌, arith, append_assoc}
use Rattle.std.proofs.Math.Nat.{mod-add-mod}
use Rattle.std.proofs.lemmas.List.{append-nil}
use Rattle.mi_model.specs.declared.Fault.{Fault}
use Rattle.mi_model.specs.Ops.{Ops}
use Rattle.mi_model.specs.Action.Action.{Give}
use Rattle.mi_model.specs.Machine.{Machine, after, asked}
use Rattle.mi_model.specs.Region.{get}
use Rattle.mi_model.specs.Numbers.{digit_in}
use Rattle.mi_model.specs.Outcome.{outcome_of}
use Rattle.mi_model.specs.ConvertingNumbers.{read_digits, digit_or_end, extended}
use Rattle.mi_compile.specs.Digits.{extended_by}

pub with_digit : (a d w : ℕ) → (a % w + d) % w ≡ (a + d) % w
with_digit a d w = mod-add-mod a w d

-- answers that are no fault
abbrev digits : {M : Type 0} → List ℕ → M → Result (List ℕ × M) Fault
digits xs m = Ok (xs, m)

abbrev numbers : {M : Type 0} → (double count : ℕ) → M → Result ((ℕ × ℕ) × M) Fault
numbers double count m = Ok ((double, count), m)

-- digits in front of those that are read
abbrev behind : {M : Type 0} → List ℕ → Result (List ℕ × M) Fault → Result (List ℕ × M) Fault
behind before (Ok r) = Ok (before ++ r.0, r.1)
behind before (Err e) = Err e

behind_behind : {M : Type 0} (xs ys : List ℕ) (r : Result (List ℕ × M) Fault) → behind xs (behind ys r) ≡ behind (xs ++ ys) r
behind_behind xs ys (Ok r) = ap (λ (zs : List ℕ). digits zs r.1) (sym (append_assoc xs ys r.0))
behind_behind xs ys (Err e) = refl

-- what is read behind some digits begins with them; so for the rest of a text, and then for the text with a byte more
digit_behind : {C B : Type 0} (ops : Ops C B) (base left o : ℕ) (before : List ℕ) (m : Machine C B) (names : List C)
    → ((xs : List ℕ) → outcome_of ops (read_digits base left o xs) m names ≡ behind xs (outcome_of ops (read_digits base left o []) m names))
    → (found : Option ℕ)
    → outcome_of ops (digit_or_end found before (λ ds. read_digits base left o ds) (λ ds. Give ds)) m names
    ≡ behind before (outcome_of ops (digit_or_end found [] (λ ds. read_digits base left o ds) (λ ds. Give ds)) m names)
digit_behind ops base left o before m names rest None = ap (λ (zs : List ℕ). digits zs m) (sym (append-nil before))
digit_behind ops base left o before m names rest (Some d) =
    rest (before ++ (d ∷ [])) ∙ (sym (behind_behind before (d ∷ []) (outcome_of ops (read_digits base left o []) m names)) ∙ ap (behind before) (sym (rest (d ∷ []))))

byte_behind : {C B : Type 0} (ops : Ops C B) (base left o : ℕ) (before : List ℕ) (m : Machine C B) (names : List C)
    → ((xs : List ℕ) → outcome_of ops (read_digits base left o xs) m names ≡ behind xs (outcome_of ops (read_digits base left o []) m names))
    → (byte : Result ℕ Fault)
    → after byte (λ c. outcome_of ops (digit_or_end (digit_in base c) before (λ ds. read_digits base left o ds) (λ ds. Give ds)) m names)
    ≡ behind before (after byte (λ c. outcome_of ops (digit_or_end (digit_in base c) [] (λ ds. read_digits base left o ds) (λ ds. Give ds)) m names))
byte_behind ops base left o before m names rest (Ok c) = digit_behind ops base left o before m names rest (digit_in base c)
byte_behind ops base left o before m names rest (Err e) = refl

read_behind : {C B : Type 0} (ops : Ops C B) (base left o : ℕ) (before : List ℕ) (m : Machine C B) (names : List C)
    → outcome_of ops (read_digits base left o before) m names ≡ behind before (outcome_of ops (read_digits base left o []) m names)
read_behind ops base zero o before m names = ap (λ (zs : List ℕ). digits zs m) (sym (append-nil before))
read_behind ops base (suc left) o before m names =
    byte_behind ops base left (o + 1) before m names (λ xs. read_behind ops base left (o + 1) xs m names) (asked (ops.value (get ops m.bytes o)))

-- a digit in front goes behind the double first
extended_behind : {M : Type 0} (base double count d : ℕ) (r : Result (List ℕ × M) Fault)
    → extended_by base double count (behind (d ∷ []) r) ≡ extended_by base ((base * double + d) % 2 ^ 128) (count + 1) r
extended_behind base double count d (Ok r) =
    let e : count + suc (length r.0) ≡ count + 1 + length r.0 = omega arith in
    ap (λ (n : ℕ). numbers (extended base ((base * double + d) % 2 ^ 128) r.0) n r.1) e
extended_behind base double count d (Err e) = refl

-- what a byte leads to, if it is a digit
abbrev on_digit : {M : Type 0} → (double count : ℕ) → M → Option ℕ → (ℕ → Result ((ℕ × ℕ) × M) Fault) → Result ((ℕ × ℕ) × M) Fault
on_digit double count m None rest = Ok ((double, count), m)
on_digit double count m (Some d) rest = rest d

digit_next : {C B : Type 0} (ops : Ops C B) (base double left o i : ℕ) (m : Machine C B) (names : List C) (found : Option ℕ)
    → extended_by base double i (outcome_of ops (digit_or_end found [] (λ ds. read_digits base left o ds) (λ ds. Give ds)) m names)
    ≡ on_digit double i m found (λ d. extended_by base ((base * double + d) % 2 ^ 128) (i + 1) (outcome_of ops (read_digits base left o []) m names))
digit_next ops base double left o i m names None =
    let e : i + 0 ≡ i = omega arith in
    ap (λ (n : ℕ). numbers double n m) e
digit_next ops base double left o i m names (Some d) =
    ap (extended_by base double i) (read_behind ops base left o (d ∷ []) m names) ∙ extended_behind base double i d (outcome_of ops (read_digits base left o []) m names)

byte_next : {C B : Type 0} (ops : Ops C B) (base double left o i : ℕ) (m : Machine C B) (names : List C) (byte : Result ℕ Fault)
    → extended_by base double i (after byte (λ c. outcome_of ops (digit_or_end (digit_in base c) [] (λ ds. read_digits base left o ds) (λ ds. Give ds)) m names))
    ≡ after byte (λ c. on_digit double i m (digit_in base c) (λ d. extended_by base ((base * double + d) % 2 ^ 128) (i + 1) (outcome_of ops (read_digits base left o []) m names)))
byte_next ops base double left o i m names (Ok c) = digit_next ops base double left o i m names (digit_in base c)
byte_next ops base double left o i m names (Err e) = refl

pub digits_next : {C B : Type 0} (ops : Ops C B) (base double place count i : ℕ) (m : Machine C B) (names : List C) → i < count
    → extended_by base double i (outcome_of ops (read_digits base (count - i) (place + i) []) m names)
    ≡ after (asked (ops.value (get ops m.bytes (place + i)))) (λ c. on_digit double i m (digit_in base c) (λ d.
    extended_by base ((base * double + d) % 2 ^ 128) (i + 1) (outcome_of ops (read_digits base (count - (i + 1)) (place + (i + 1)) []) m names)))
digits_next ops base double place count i m names h =
    let e : count - i ≡ suc (count - (i + 1)) = omega arith in
    let f : place + (i + 1) ≡ place + i + 1 = omega arith in
    rw e (rw f (byte_next ops base double (count - (i + 1)) (place + i + 1) i m names (asked (ops.value (get ops m.bytes (place + i))))))

pub digits_done : {C B : Type 0} (ops : Ops C B) (base double place count i : ℕ) (m : Machine C B) (names : List C) → i ≤ count → count ≤ i
    → extended_by base double i (outcome_of ops (read_digits base (count - i) (place + i) []) m names) ≡ Ok ((double, i), m)
digits_done ops base double place count i m names h k =
    let e : count - i ≡ 0 = omega arith in
    let f : i + 0 ≡ i = omega arith in
    rw e (ap (λ (n : ℕ). numbers double n m) f)

-- the digits behind an answer
pub digits_of_answer : {M : Type 0} (base double d k : ℕ) (m : M) (r : Result (List ℕ × M) Fault) → Ok ((d, k), m) ≡ extended_by base double 0 r
    → (ds : List ℕ) × (r ≡ Ok (ds, m)) × (d ≡ extended base double ds) × (k ≡ length ds)
digits_of_answer {M} base double d k m (Ok r) h =
    let all : 0 + length r.0 ≡ length r.0 = omega arith in
    let same : ((d, k), m) ≡ ((extended base double r.0, 0 + length r.0), r.1) = cc in
    (r.0, ap (λ (x : M). digits r.0 x) (sym (ap (λ (p : (ℕ × ℕ) × M). p.1) same)), ap (λ (p : (ℕ × ℕ) × M). p.0.0) same, ap (λ (p : (ℕ × ℕ) × M). p.0.1) same ∙ all)
digits_of_answer base double d k m (Err e) h = absurd cc
