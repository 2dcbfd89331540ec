-- What the bytes of a text are that can be read, and what S\" does with such a text.
use Rattle.std.proofs.Common.{◌≡◌, ℕ, Bool, zero, suc, ◌+◌, ◌-◌, ◌<◌, ◌≤◌, List, [], ◌∷◌, ◌++◌, length, get_or, Option, None, Some, Result, Ok, Err, refl, sym, ap, subst, ◌∙◌, arith, append_assoc}
use Rattle.std.proofs.lemmas.List.{append-nil}
use Rattle.std.specs.Prelude.{negsuc}
use Rattle.mi_model.specs.declared.Effect.{Effect}
use Rattle.mi_model.specs.declared.Effect.TheVariants.{Went}
use Rattle.mi_model.specs.declared.Fault.{Fault}
use Rattle.mi_model.specs.declared.Fault.TheVariants.{Throw}
use Rattle.mi_model.specs.declared.Span.{Span}
use Rattle.mi_model.specs.Ops.{Ops}
use Rattle.mi_model.specs.Machine.{Machine, after, asked}
use Rattle.mi_model.specs.Region.{get}
use Rattle.mi_model.specs.Action.{action_by}
use Rattle.mi_model.specs.Action.Action.{Give}
use Rattle.mi_model.specs.Action.AnswerKind.{Effects, Texts}
use Rattle.mi_model.specs.Outcome.{outcome_of}
use Rattle.mi_model.specs.Parsing.{read_on, read_text}
use Rattle.mi_model.specs.Escapes.{unescaped}
use Rattle.mi_model.specs.Strings.{good_text}
use Rattle.mi_region.specs.View.{StateView, Gives, keeping, leading}
use Rattle.mi_compile.specs.Escaped.{replaced_text, StandsFor, take_text, take_escaped}
use Rattle.mi_compile.proofs.Shorter.{unescaped_shorter}

-- the bytes that were read before, and so many more from an offset on
abbrev pub read_bytes : {C B : Type 0} → Ops C B → List B → (left o : ℕ) → List ℕ → Result (List ℕ) Fault
read_bytes ops bytes zero o before = Ok before
read_bytes ops bytes (suc left) o before = after (asked (ops.value (get ops bytes o))) (λ c. read_bytes ops bytes left (o + 1) (before ++ c ∷ []))

-- an answer with the machine
abbrev pub answer : {M : Type 0} → M → List ℕ → Result (List ℕ × M) Fault
answer m text = Ok (text, m)

byte_is : {C B : Type 0} (ops : Ops C B) (left o : ℕ) (before : List ℕ) (m : Machine C B)
    → ((xs : List ℕ) → outcome_of ops (read_on left (o + 1) xs) m [] ≡ keeping m (read_bytes ops m.bytes left (o + 1) xs)) → (byte : Result ℕ Fault)
    → after byte (λ c. outcome_of ops (read_on left (o + 1) (before ++ c ∷ [])) m []) ≡ keeping m (after byte (λ c. read_bytes ops m.bytes left (o + 1) (before ++ c ∷ [])))
byte_is ops left o before m rest (Ok c) = rest (before ++ c ∷ [])
byte_is ops left o before m rest (Err e) = refl

pub read_is : {C B : Type 0} (ops : Ops C B) (left o : ℕ) (before : List ℕ) (m : Machine C B) → outcome_of ops (read_on left o before) m [] ≡ keeping m (read_bytes ops m.bytes left o before)
read_is ops zero o before m = refl
read_is ops (suc left) o before m = byte_is ops left o before m (λ xs. read_is ops left (o + 1) xs m) (asked (ops.value (get ops m.bytes o)))

-- all that is read: what was read before, and so many bytes more
byte_goes_on : {C B : Type 0} (ops : Ops C B) (bytes : List B) (left o : ℕ) (before full : List ℕ)
    → ((xs : List ℕ) → read_bytes ops bytes left (o + 1) xs ≡ Ok full → (more : List ℕ) × (full ≡ xs ++ more) × (length more ≡ left)) → (byte : Result ℕ Fault)
    → after byte (λ c. read_bytes ops bytes left (o + 1) (before ++ c ∷ [])) ≡ Ok full → (more : List ℕ) × (full ≡ before ++ more) × (length more ≡ suc left)
byte_goes_on ops bytes left o before full rest (Ok c) is =
    let r = rest (before ++ c ∷ []) is in
    (c ∷ r.0, r.1 ∙ append_assoc before (c ∷ []) r.0, ap (λ (n : ℕ). suc n) r.2)
byte_goes_on ops bytes left o before full rest (Err e) is = absurd cc

pub goes_on : {C B : Type 0} (ops : Ops C B) (bytes : List B) (left o : ℕ) (before full : List ℕ) → read_bytes ops bytes left o before ≡ Ok full
    → (more : List ℕ) × (full ≡ before ++ more) × (length more ≡ left)
goes_on ops bytes zero o before full is = let e : before ≡ full = cc in ([], sym e ∙ sym (append-nil before), refl)
goes_on ops bytes (suc left) o before full is =
    byte_goes_on ops bytes left o before full (λ xs. goes_on ops bytes left (o + 1) xs full) (asked (ops.value (get ops bytes o))) is

after_same : (r : Result ℕ Fault) (f g : ℕ → Result (List ℕ) Fault) → ((c : ℕ) → f c ≡ g c) → after r f ≡ after r g
after_same (Ok c) f g same = same c
after_same (Err e) f g same = refl

-- the same bytes at another place are read as the same text
pub read_same : {C B : Type 0} (ops : Ops C B) (bytes others : List B) (left o p : ℕ) (before : List ℕ)
    → ((i : ℕ) → i < left → get_or others (p + i) (ops.byte 0) ≡ get_or bytes (o + i) (ops.byte 0)) → read_bytes ops others left p before ≡ read_bytes ops bytes left o before
read_same ops bytes others zero o p before same = refl
read_same {B = B} ops bytes others (suc left) o p before same =
    let zero_o : o + 0 ≡ o = omega arith in
    let zero_p : p + 0 ≡ p = omega arith in
    let first : get ops others p ≡ get ops bytes o =
    ap (λ (k : ℕ). get ops others k) (sym zero_p) ∙ (same 0 (omega arith) ∙ ap (λ (k : ℕ). get ops bytes k) zero_o) in
    ap (λ (b : B). after (asked (ops.value b)) (λ c. read_bytes ops others left (p + 1) (before ++ c ∷ []))) first
    ∙ after_same (asked (ops.value (get ops bytes o))) (λ c. read_bytes ops others left (p + 1) (before ++ c ∷ [])) (λ c. read_bytes ops bytes left (o + 1) (before ++ c ∷ []))
    (λ c. read_same ops bytes others left (o + 1) (p + 1) (before ++ c ∷ [])
    (λ i h. let e : p + 1 + i ≡ p + (i + 1) = omega arith in let f : o + (i + 1) ≡ o + 1 + i = omega arith in
    ap (λ (k : ℕ). get ops others k) e ∙ (same (i + 1) (omega arith) ∙ ap (λ (k : ℕ). get ops bytes k) f)))

-- what the bytes of a text come to once they are read
abbrev pub replaced : {M : Type 0} → M → Option (List ℕ) → Result (List ℕ × M) Fault
replaced m None = Err (Throw (negsuc 23))
replaced m (Some text) = Ok (text, m)

good_is : {C B : Type 0} (ops : Ops C B) (m : Machine C B) (found : Option (List ℕ)) → outcome_of {i = Texts} ops (good_text found (λ a. Give a)) m [] ≡ replaced m found
good_is ops m None = refl
good_is ops m (Some text) = refl

read_good : {C B : Type 0} (ops : Ops C B) (m : Machine C B) (r : Result (List ℕ) Fault)
    → after (keeping m r) (λ x. outcome_of {i = Texts} ops (good_text (unescaped x.0) (λ a. Give a)) x.1 []) ≡ after r (λ full. replaced m (unescaped full))
read_good ops m (Ok full) = good_is ops m (unescaped full)
read_good ops m (Err e) = refl

pub replaced_is : {C B : Type 0} (ops : Ops C B) (span : Span) (m : Machine C B)
    → outcome_of ops (replaced_text span) m [] ≡ after (read_bytes ops m.bytes span.length span.place []) (λ full. replaced m (unescaped full))
unfolding read_text
replaced_is {C} {B} ops span m =
    ap (λ (r : Result (List ℕ × Machine C B) Fault). after r (λ x. outcome_of {i = Texts} ops (good_text (unescaped x.0) (λ a. Give a)) x.1 [])) (read_is ops span.length span.place [] m)
    ∙ read_good ops m (read_bytes ops m.bytes span.length span.place [])

-- a text that stands for another one was read
found_text : {M : Type 0} (m : M) (found : Option (List ℕ)) (text : List ℕ) → replaced m found ≡ Ok (text, m) → found ≡ Some text
found_text m None text is = absurd cc
found_text {M} m (Some t) text is = let e : ◌≡◌ {A = List ℕ × M} (t, m) (text, m) = cc in ap (λ (p : List ℕ × M). Some p.0) e

read_of : {M : Type 0} (m : M) (r : Result (List ℕ) Fault) (text : List ℕ) → after r (λ full. replaced m (unescaped full)) ≡ Ok (text, m)
    → (full : List ℕ) × (r ≡ Ok full) × (unescaped full ≡ Some text)
read_of m (Ok full) text is = (full, refl, found_text m (unescaped full) text is)
read_of m (Err e) text is = absurd cc

pub stands_read : {C B : Type 0} (ops : Ops C B) (span : Span) (m : Machine C B) (text : List ℕ) → StandsFor ops span m text
    → (full : List ℕ) × (read_bytes ops m.bytes span.length span.place [] ≡ Ok full) × (unescaped full ≡ Some text)
stands_read ops span m text stands = read_of m (read_bytes ops m.bytes span.length span.place []) text (sym (replaced_is ops span m) ∙ stands)

pub read_stands : {C B : Type 0} (ops : Ops C B) (span : Span) (m : Machine C B) (full text : List ℕ)
    → read_bytes ops m.bytes span.length span.place [] ≡ Ok full → unescaped full ≡ Some text → StandsFor ops span m text
read_stands ops span m full text read is =
    replaced_is ops span m ∙ (ap (λ (r : Result (List ℕ) Fault). after r (λ xs. replaced m (unescaped xs))) read ∙ ap (replaced m) is)

pub stands_short : {C B : Type 0} (ops : Ops C B) (span : Span) (m : Machine C B) (text : List ℕ) → StandsFor ops span m text → length text ≤ span.length
stands_short ops span m text stands =
    let read = stands_read ops span m text stands in
    let all = goes_on ops m.bytes span.length span.place [] read.0 read.1 in
    let size : length read.0 ≡ span.length = ap length all.1 ∙ all.2 in
    let few = unescaped_shorter read.0 text read.2 in
    omega arith

-- a text that can't be read, or has a bad escape
pub read_fails : {C B : Type 0} (ops : Ops C B) (span : Span) (m : Machine C B) (e : Fault) → read_bytes ops m.bytes span.length span.place [] ≡ Err e
    → outcome_of ops (replaced_text span) m [] ≡ Err e
read_fails ops span m e is = replaced_is ops span m ∙ ap (λ (r : Result (List ℕ) Fault). after r (λ xs. replaced m (unescaped xs))) is

pub escape_fails : {C B : Type 0} (ops : Ops C B) (span : Span) (m : Machine C B) (full : List ℕ) → read_bytes ops m.bytes span.length span.place [] ≡ Ok full
    → unescaped full ≡ None → outcome_of ops (replaced_text span) m [] ≡ Err (Throw (negsuc 23))
escape_fails ops span m full read is =
    replaced_is ops span m ∙ (ap (λ (r : Result (List ℕ) Fault). after r (λ xs. replaced m (unescaped xs))) read ∙ ap (replaced m) is)

-- one byte more, and the end
pub read_next : {C B : Type 0} (ops : Ops C B) (bytes : List B) (n i place : ℕ) (text : List ℕ) (byte : ℕ) → i < n → asked (ops.value (get ops bytes (place + i))) ≡ Ok byte
    → read_bytes ops bytes (n - i) (place + i) text ≡ read_bytes ops bytes (n - (i + 1)) (place + (i + 1)) (text ++ byte ∷ [])
read_next ops bytes n i place text byte h is =
    let e : n - i ≡ suc (n - (i + 1)) = omega arith in
    let f : place + i + 1 ≡ place + (i + 1) = omega arith in
    rw e (rw is (rw f refl))

pub read_fault : {C B : Type 0} (ops : Ops C B) (bytes : List B) (n i place : ℕ) (text : List ℕ) (e : Fault) → i < n → asked (ops.value (get ops bytes (place + i))) ≡ Err e
    → read_bytes ops bytes (n - i) (place + i) text ≡ Err e
read_fault ops bytes n i place text e h is =
    let f : n - i ≡ suc (n - (i + 1)) = omega arith in rw f (rw is refl)

pub read_end : {C B : Type 0} (ops : Ops C B) (bytes : List B) (n i o : ℕ) (text : List ℕ) → n ≤ i → read_bytes ops bytes (n - i) o text ≡ Ok text
read_end ops bytes n i o text h = let e : n - i ≡ 0 = omega arith in rw e refl

-- what is done with a text is done with what it stands for
good_taken : {C B : Type 0} (ops : Ops C B) (n : ℕ) (m : Machine C B) (names : List C) (found : Option (List ℕ))
    → outcome_of {i = Effects} ops (good_text found (λ text. take_text n text (λ _. Give Went))) m names
    ≡ after (outcome_of {i = Texts} ops (good_text found (λ a. Give a)) m []) (λ y. outcome_of ops (take_text n y.0 (λ _. Give Went)) y.1 names)
good_taken ops n m names None = refl
good_taken ops n m names (Some text) = refl

read_taken : {C B : Type 0} (ops : Ops C B) (n : ℕ) (names : List C) (r : Result (List ℕ × Machine C B) Fault)
    → after r (λ x. outcome_of {i = Effects} ops (good_text (unescaped x.0) (λ text. take_text n text (λ _. Give Went))) x.1 names)
    ≡ after (after r (λ x. outcome_of {i = Texts} ops (good_text (unescaped x.0) (λ a. Give a)) x.1 [])) (λ y. outcome_of ops (take_text n y.0 (λ _. Give Went)) y.1 names)
read_taken ops n names (Ok x) = good_taken ops n x.1 names (unescaped x.0)
read_taken ops n names (Err e) = refl

pub taken : {C B : Type 0} (ops : Ops C B) (span : Span) (m : Machine C B) (names : List C)
    → outcome_of ops (action_by (take_escaped span)) m names
    ≡ after (outcome_of ops (replaced_text span) m []) (λ y. outcome_of ops (action_by (take_text span.length y.0)) y.1 names)
taken ops span m names = read_taken ops span.length names (outcome_of ops (read_text span) m [])

pub taken_bad : {C B : Type 0} (ops : Ops C B) (span : Span) (m : Machine C B) (names : List C) (e : Fault) → outcome_of ops (replaced_text span) m [] ≡ Err e
    → outcome_of ops (action_by (take_escaped span)) m names ≡ Err e
taken_bad {C} {B} ops span m names e is =
    taken ops span m names ∙ ap (λ (r : Result (List ℕ × Machine C B) Fault). after r (λ y. outcome_of ops (action_by (take_text span.length y.0)) y.1 names)) is

pub taken_good : {C B : Type 0} (ops : Ops C B) (span : Span) (m : Machine C B) (names : List C) (text : List ℕ) → StandsFor ops span m text
    → outcome_of ops (action_by (take_escaped span)) m names ≡ outcome_of ops (action_by (take_text span.length text)) m names
taken_good {C} {B} ops span m names text is =
    taken ops span m names ∙ ap (λ (r : Result (List ℕ × Machine C B) Fault). after r (λ y. outcome_of ops (action_by (take_text span.length y.0)) y.1 names)) is

-- what a call gives is the same where it is told the same
pub gives_same : {A C B : Type 0} (grows : Bool) (r : Result Effect Fault) (s t : StateView A C B) (x y : Result (Effect × Machine C B) Fault) → x ≡ y
    → Gives grows r s t (leading s y) → Gives grows r s t (leading s x)
gives_same {A} {C} {B} grows r s t x y e h = subst (λ (o : Result (Effect × Machine C B) Fault). Gives grows r s t (leading s o)) (sym e) h
