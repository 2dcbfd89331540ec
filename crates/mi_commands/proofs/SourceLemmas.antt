-- The sources that are read, one after another.
use Rattle.std.proofs.Common.{◌≡◌, ◌≤◌, ◌<◌, ◌+◌, ℕ, List, [], ◌∷◌, ◌++◌, length, map, Option, None, Some, Result, Ok, Err, true, false, rules, arith, refl, sym, ap, ◌∙◌, subst, Bool, inl, inr, append_assoc, append-nil, length-append, length-drop, drop, get_or}
use Rattle.std.proofs.lemmas.List.{length-map, drop_more}
use Rattle.std.specs.Prelude.{Vec, ◌⊎◌, cond, nat_lt, IfSome, IsSomeAnd}
use Rattle.std.specs.Borrow.{Bor}
use Rattle.std.specs.declared.alloc.Global.{Global}
use Rattle.mi_outside.specs.Holding.{Holding, SameFiles}
use Rattle.mi_outside.specs.Telling.{WhileTold}
use Rattle.mi_commands.specs.declared.outcome.Outcome.{Outcome}
use Rattle.mi_commands.specs.declared.outcome.Outcome.TheVariants.{TooManySources, SourceTooLong}
use Rattle.mi_commands.specs.declared.reading.ReadProblem.{ReadProblem}
use Rattle.mi_commands.specs.declared.reading.ReadProblem.TheVariants.{Missing, TooLong, Fault, NoMemory}
use Rattle.mi_commands.specs.Limits.{source_limit, source_count}
use Rattle.mi_commands.specs.Options.{words_of}
use Rattle.mi_commands.proofs.Told.{while_then}
use Rattle.mi_commands.specs.Causes.{AreRead, HaveTexts}
use Rattle.mi_commands.specs.Outcomes.{IsFault}
use Rattle.mi_commands.specs.commands.Build.{with_text, read_from, sources_read, contents_of}
use Rattle.mi_commands.specs.Reading.{ReadsSource, outcome_of_problem, behind_texts, TakesSource, RefusesSource}

abbrev ok_texts : List (List ℕ) → Result (List (List ℕ)) Outcome
ok_texts texts = Ok texts

abbrev err_texts : Outcome → Result (List (List ℕ)) Outcome
err_texts outcome = Err outcome

short_enough : {X : Type 0} (n : ℕ) (a b : X) → n ≤ source_limit → cond (nat_lt source_limit n) a b ≡ b
short_enough n a b h = let e : nat_lt source_limit n ≡ false = search rules in rw e refl

too_long : {X : Type 0} (n : ℕ) (a b : X) → source_limit < n → cond (nat_lt source_limit n) a b ≡ a
too_long n a b h = let e : nat_lt source_limit n ≡ true = search rules in rw e refl

few_enough : {X : Type 0} (n : ℕ) (a b : X) → n ≤ source_count → cond (nat_lt source_count n) a b ≡ b
few_enough n a b h = let e : nat_lt source_count n ≡ false = search rules in rw e refl

too_many : {X : Type 0} (n : ℕ) (a b : X) → source_count < n → cond (nat_lt source_count n) a b ≡ a
too_many n a b h = let e : nat_lt source_count n ≡ true = search rules in rw e refl

-- a text goes behind the others
behind_one : (done : List (List ℕ)) (text : List ℕ) (r : Result (List (List ℕ)) Outcome) → behind_texts done (with_text text r) ≡ behind_texts (done ++ text ∷ []) r
behind_one done text (Ok rest) = ap (λ (texts : List (List ℕ)). ok_texts texts) (sym (append_assoc done (text ∷ []) rest))
behind_one done text (Err outcome) = refl

text_taken : (text : List ℕ) (old new : List (List ℕ)) (content : Option (List ℕ)) (rest : List (Option (List ℕ))) → content ≡ Some text → length text ≤ source_limit → new ≡ old ++ text ∷ []
    → behind_texts old (read_from (length old + 1) (content ∷ rest)) ≡ behind_texts new (read_from (length new + 1) rest)
text_taken text old new content rest is short grown =
    let longer : length new ≡ length old + 1 = omega (arith, ap (λ (texts : List (List ℕ)). length texts) grown, length-append old (text ∷ [])) in
    let taken : read_from (length old + 1) (content ∷ rest) ≡ with_text text (read_from (length old + 1 + 1) rest) =
    ap (λ (c : Option (List ℕ)). read_from (length old + 1) (c ∷ rest)) is ∙ short_enough (length text) (Err (SourceTooLong (length old + 1))) (with_text text (read_from (length old + 1 + 1) rest)) short in
    ap (λ (r : Result (List (List ℕ)) Outcome). behind_texts old r) taken ∙ (behind_one old text (read_from (length old + 1 + 1) rest)
    ∙ (ap (λ (texts : List (List ℕ)). behind_texts texts (read_from (length old + 1 + 1) rest)) (sym grown)
    ∙ ap (λ (n : ℕ). behind_texts new (read_from (n + 1) rest)) (sym longer)))

-- a source was read, and its text put behind the others
pub source_taken : (v : Vec ℕ Global) (name : List ℕ) (old new : List (List ℕ)) (a b : Option Holding) → length v.items ≤ source_limit → new ≡ old ++ v.items ∷ [] → WhileTold a b (ReadsSource (Ok v) name) → IfSome a (TakesSource name old new)
source_taken v name old new None b short grown r = tt
source_taken v name old new (Some x) None short grown r = elim r [ ]
source_taken v name old new (Some x) (Some y) short grown r = λ rest. text_taken v.items old new (x.file name) rest r.answer short grown

long_refused : (file : ℕ) (content : Option (List ℕ)) (rest : List (Option (List ℕ))) → IsSomeAnd content (λ bytes. source_limit < length bytes) → read_from file (content ∷ rest) ≡ Err (SourceTooLong file)
long_refused file None rest h = elim h [ ]
long_refused file (Some text) rest h = too_long (length text) (Err (SourceTooLong file)) (with_text text (read_from (file + 1) rest)) h

missing_told : (name : List ℕ) (before : ℕ) (a b : Option Holding) → WhileTold a b (ReadsSource (Err Missing) name) → IfSome a (λ old. (rest : List (Option (List ℕ))) → read_from (before + 1) (old.file name ∷ rest) ≡ Err (outcome_of_problem (before + 1) Missing))
missing_told name before None b r = tt
missing_told name before (Some x) None r = elim r [ ]
missing_told name before (Some x) (Some y) r = λ rest. ap (λ (c : Option (List ℕ)). read_from (before + 1) (c ∷ rest)) r.answer

long_told : (name : List ℕ) (before : ℕ) (a b : Option Holding) → WhileTold a b (ReadsSource (Err TooLong) name) → IfSome a (λ old. (rest : List (Option (List ℕ))) → read_from (before + 1) (old.file name ∷ rest) ≡ Err (outcome_of_problem (before + 1) TooLong))
long_told name before None b r = tt
long_told name before (Some x) None r = elim r [ ]
long_told name before (Some x) (Some y) r = λ rest. long_refused (before + 1) (x.file name) rest r.answer

-- a source was not read
pub source_refused : (problem : ReadProblem) (name : List ℕ) (before : ℕ) (a b : Option Holding) → WhileTold a b (ReadsSource (Err problem) name) → RefusesSource name before (outcome_of_problem (before + 1) problem) a
source_refused Missing name before a b r = inr (missing_told name before a b r)
source_refused TooLong name before a b r = inr (long_told name before a b r)
source_refused Fault name before a b r = inl (inr (inl refl))
source_refused NoMemory name before a b r = inl (inl refl)

behind_none : (r : Result (List (List ℕ)) Outcome) → r ≡ behind_texts [] r
behind_none (Ok texts) = refl
behind_none (Err outcome) = refl

-- the texts so far and the sources that are left give what all sources give
abbrev pub GivesAll : (names done left : List (List ℕ)) → Holding → Type 0
GivesAll names done left old = read_from 1 (contents_of old names) ≡ behind_texts done (read_from (length done + 1) (contents_of old left))

-- no text is there yet
pub none_read : (names : List (List ℕ)) (a : Option Holding) → IfSome a (GivesAll names [] names)
none_read names None = tt
none_read names (Some x) = behind_none (read_from 1 (contents_of x names))

-- one more source was read
pub next_read : (names done new left rest : List (List ℕ)) (name : List ℕ) (a b : Option Holding) → left ≡ name ∷ rest → WhileTold a b SameFiles → IfSome b (TakesSource name done new) → IfSome a (GivesAll names done left) → IfSome a (GivesAll names new rest)
next_read names done new left rest name None b is same takes r = tt
next_read names done new left rest name (Some x) None is same takes r = elim same [ ]
next_read names done new left rest name (Some x) (Some y) is same takes r =
    r ∙ (ap (λ (ns : List (List ℕ)). behind_texts done (read_from (length done + 1) (contents_of x ns))) is
    ∙ (ap (λ (c : Option (List ℕ)). behind_texts done (read_from (length done + 1) (c ∷ contents_of x rest))) (sym (same name))
    ∙ takes (contents_of x rest)))

few_read : (names : List (List ℕ)) (x : Holding) → length names ≤ source_count → sources_read (contents_of x names) ≡ read_from 1 (contents_of x names)
few_read names x few =
    let same : length (contents_of x names) ≡ length names = length-map names (λ (name : List ℕ). x.file name) in
    few_enough (length (contents_of x names)) (Err (TooManySources (length (contents_of x names)))) (read_from 1 (contents_of x names)) (omega (arith, same, few))

-- all sources were read
pub all_read : (names done left : List (List ℕ)) (a : Option Holding) → length names ≤ source_count → length left ≡ 0 → IfSome a (GivesAll names done left) → AreRead names done a
all_read names done left None few none r = tt
all_read names done [] (Some x) few none r = few_read names x few ∙ (r ∙ ap (λ (texts : List (List ℕ)). ok_texts texts) (append-nil done))
all_read names done (name ∷ left) (Some x) few none r = absurd (omega (arith, none))

-- a source was refused
refused_told : (names done left rest : List (List ℕ)) (name : List ℕ) (outcome : Outcome) (a b : Option Holding) → length names ≤ source_count → left ≡ name ∷ rest → WhileTold a b SameFiles
    → IfSome b (λ old. (more : List (Option (List ℕ))) → read_from (length done + 1) (old.file name ∷ more) ≡ Err outcome) → IfSome a (GivesAll names done left) → IfSome a (λ old. sources_read (contents_of old names) ≡ Err outcome)
refused_told names done left rest name outcome None b few is same refuses r = tt
refused_told names done left rest name outcome (Some x) None few is same refuses r = elim same [ ]
refused_told names done left rest name outcome (Some x) (Some y) few is same refuses r =
    few_read names x few ∙ (r ∙ (ap (λ (ns : List (List ℕ)). behind_texts done (read_from (length done + 1) (contents_of x ns))) is
    ∙ (ap (λ (c : Option (List ℕ)). behind_texts done (read_from (length done + 1) (c ∷ contents_of x rest))) (sym (same name))
    ∙ ap (λ (r : Result (List (List ℕ)) Outcome). behind_texts done r) (refuses (contents_of x rest)))))

pub next_refused : (names done left rest : List (List ℕ)) (name : List ℕ) (outcome : Outcome) (a b : Option Holding) → length names ≤ source_count → left ≡ name ∷ rest → WhileTold a b SameFiles
    → RefusesSource name (length done) outcome b → IfSome a (GivesAll names done left) → IsFault outcome ⊎ IfSome a (λ old. sources_read (contents_of old names) ≡ Err outcome)
next_refused names done left rest name outcome a b few is same (inl fault) r = inl fault
next_refused names done left rest name outcome a b few is same (inr refuses) r = inr (refused_told names done left rest name outcome a b few is same refuses r)

-- there are too many
pub many_refused : (names : List (List ℕ)) (a : Option Holding) → source_count < length names → IfSome a (λ old. sources_read (contents_of old names) ≡ Err (TooManySources (length names)))
many_refused names None many = tt
many_refused names (Some x) many =
    let same : length (contents_of x names) ≡ length names = length-map names (λ (name : List ℕ). x.file name) in
    too_many (length (contents_of x names)) (Err (TooManySources (length (contents_of x names)))) (read_from 1 (contents_of x names)) (omega (arith, same, many))
    ∙ ap (λ (n : ℕ). err_texts (TooManySources n)) same

-- texts that were read are the contents
texts_behind : (text : List ℕ) (contents : List (Option (List ℕ))) (texts : List (List ℕ)) (r : Result (List (List ℕ)) Outcome) → ((rest : List (List ℕ)) → r ≡ Ok rest → contents ≡ map (λ t. Some t) rest) → with_text text r ≡ Ok texts → Some text ∷ contents ≡ map (λ t. Some t) texts
texts_behind text contents texts (Ok rest) h e =
    let same : text ∷ rest ≡ texts = cc in
    subst (λ (ts : List (List ℕ)). Some text ∷ contents ≡ map (λ t. Some t) ts) same (ap (λ (cs : List (Option (List ℕ))). Some text ∷ cs) (h rest refl))
texts_behind text contents texts (Err outcome) h e = let no : ⊥ = cc in absurd no

text_behind : (long : Bool) (outcome : Outcome) (text : List ℕ) (contents : List (Option (List ℕ))) (texts : List (List ℕ)) (r : Result (List (List ℕ)) Outcome) → ((rest : List (List ℕ)) → r ≡ Ok rest → contents ≡ map (λ t. Some t) rest)
    → cond long (Err outcome) (with_text text r) ≡ Ok texts → Some text ∷ contents ≡ map (λ t. Some t) texts
text_behind true outcome text contents texts r h e = let no : ⊥ = cc in absurd no
text_behind false outcome text contents texts r h e = texts_behind text contents texts r h e

texts_from : (file : ℕ) (contents : List (Option (List ℕ))) (texts : List (List ℕ)) → read_from file contents ≡ Ok texts → contents ≡ map (λ text. Some text) texts
texts_from file [] texts e =
    let same : [] ≡ texts = cc in
    subst (λ (ts : List (List ℕ)). [] ≡ map (λ text. Some text) ts) same refl
texts_from file (None ∷ contents) texts e = let no : ⊥ = cc in absurd no
texts_from file (Some text ∷ contents) texts e =
    text_behind (nat_lt source_limit (length text)) (SourceTooLong file) text contents texts (read_from (file + 1) contents) (λ rest k. texts_from (file + 1) contents rest k) e

texts_of_all : (many : Bool) (outcome : Outcome) (contents : List (Option (List ℕ))) (texts : List (List ℕ)) → cond many (Err outcome) (read_from 1 contents) ≡ Ok texts → contents ≡ map (λ text. Some text) texts
texts_of_all true outcome contents texts e = let no : ⊥ = cc in absurd no
texts_of_all false outcome contents texts e = texts_from 1 contents texts e

pub have_texts : (sources texts : List (List ℕ)) (held : Option Holding) → AreRead sources texts held → HaveTexts sources texts held
have_texts sources texts None r = tt
have_texts sources texts (Some x) r =
    texts_of_all (nat_lt source_count (length (contents_of x sources))) (TooManySources (length (contents_of x sources))) (contents_of x sources) texts r

-- the same of words behind references
pub words_length : (names : List (Bor (List ℕ))) → length (words_of names) ≡ length names
words_length names = length-map names (λ (w : Bor (List ℕ)). w.now)

pub all_words_read : (names : List (Bor (List ℕ))) (done : List (List ℕ)) (i : ℕ) (a : Option Holding) → length names ≤ source_count → length names ≤ i → IfSome a (GivesAll (words_of names) done (drop i (words_of names))) → AreRead (words_of names) done a
all_words_read names done i a few all r =
    all_read (words_of names) done (drop i (words_of names)) a (omega (arith, words_length names, few)) (omega (arith, length-drop i (words_of names), words_length names, all)) r

word_next : (names : List (Bor (List ℕ))) (i : ℕ) (word : List ℕ) → i < length names → word ≡ get_or (words_of names) i [] → drop i (words_of names) ≡ word ∷ drop (i + 1) (words_of names)
word_next names i word within is =
    drop_more (words_of names) i [] (omega (arith, words_length names, within)) ∙ ap (λ (w : List ℕ). w ∷ drop (i + 1) (words_of names)) (sym is)

pub next_word_read : (names : List (Bor (List ℕ))) (done new : List (List ℕ)) (i : ℕ) (word : List ℕ) (a b : Option Holding) → i < length names → word ≡ get_or (words_of names) i [] → WhileTold a b SameFiles → IfSome b (TakesSource word done new)
    → IfSome a (GivesAll (words_of names) done (drop i (words_of names))) → IfSome a (GivesAll (words_of names) new (drop (i + 1) (words_of names)))
next_word_read names done new i word a b within is same takes r = next_read (words_of names) done new (drop i (words_of names)) (drop (i + 1) (words_of names)) word a b (word_next names i word within is) same takes r

pub next_word_refused : (names : List (Bor (List ℕ))) (done : List (List ℕ)) (i : ℕ) (word : List ℕ) (outcome : Outcome) (a b : Option Holding) → length names ≤ source_count → i < length names → word ≡ get_or (words_of names) i [] → WhileTold a b SameFiles
    → RefusesSource word (length done) outcome b → IfSome a (GivesAll (words_of names) done (drop i (words_of names))) → IsFault outcome ⊎ IfSome a (λ old. sources_read (contents_of old (words_of names)) ≡ Err outcome)
next_word_refused names done i word outcome a b few within is same refuses r =
    next_refused (words_of names) done (drop i (words_of names)) (drop (i + 1) (words_of names)) word outcome a b (omega (arith, words_length names, few)) (word_next names i word within is) same refuses r

pub many_words_refused : (names : List (Bor (List ℕ))) (a : Option Holding) → source_count < length names → IfSome a (λ old. sources_read (contents_of old (words_of names)) ≡ Err (TooManySources (length names)))
many_words_refused names a many =
    let same : length (words_of names) ≡ length names = words_length names in
    subst (λ (n : ℕ). IfSome a (λ old. sources_read (contents_of old (words_of names)) ≡ Err (TooManySources n))) same (many_refused (words_of names) a (omega (arith, same, many)))

-- no file changed, twice
pub same_twice : (a b c : Option Holding) → WhileTold a b SameFiles → WhileTold b c SameFiles → WhileTold a c SameFiles
same_twice a b c r s = while_then SameFiles SameFiles SameFiles (λ x y z k l name. l name ∙ k name) a b c r s
