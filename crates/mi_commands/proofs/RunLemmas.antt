-- What a run comes to, from call to call.
use Rattle.std.proofs.Common.{◌≡◌, ◌≢◌, ℕ, List, [], Bool, true, false, cond, Option, None, Some, refl, sym, ap, ◌∙◌, inl, inr, subst, rules}
use Rattle.std.specs.Prelude.{◌⊎◌, ◌↔◌, IfSome}
use Rattle.mi_model.specs.declared.Pair.{Pair}
use Rattle.mi_model.specs.declared.Kind.{Kind}
use Rattle.mi_model.specs.declared.Kind.TheVariants.{Relocatable, Fixed}
use Rattle.mi_model.specs.Pairs.{IsAllowedPair}
use Rattle.mi_model.specs.Image.{ImageRecord}
use Rattle.mi_reloc.specs.declared.ending.RunEnd.{RunEnd}
use Rattle.mi_reloc.specs.declared.ending.RunEnd.TheVariants.{Bye, Thrown, Spent, ReadFault, WriteFault, InputTooLong, PairNotAllowed, MadeFor, NoMemory}
use Rattle.mi_outside.specs.Gathered.{last_of}
use Rattle.mi_outside.specs.Written.{Emits, EmitsFront}
use Rattle.mi_outside.proofs.Writing.{front_whole, front_more}
use Rattle.mi_model.specs.Run.{RunEnd as ModelEnd}
use Rattle.mi_model.specs.Run.RunEnd.{Bye as ModelBye, Thrown as ModelThrown, Spent as ModelSpent, InputTooLong as ModelTooLong}
use Rattle.mi_run.specs.Ending.{run_of, EndsAs, WritesAs, KeepsLast, IsRefusal}
use Rattle.mi_commands.specs.declared.outcome.Outcome.{Outcome}
use Rattle.mi_commands.specs.declared.outcome.Outcome.TheVariants as outcomes
use Rattle.mi_commands.specs.Causes.{outcome_of_answer}
use Rattle.mi_commands.specs.Outcomes.{IsFault}
use Rattle.mi_commands.specs.commands.Run.{is_allowed, is_of_other, Ending, refusal, outcome_of_end, ending_of, ending_at}

-- the test and the fact
test_allowed : (pair : Pair) → IsAllowedPair pair → is_allowed pair ≡ true
test_allowed pair h = let a = h.d_aligned in let b = h.k_aligned in let c = h.d_least in let d = h.d_most in let e = h.k_least in let f = h.k_most in search rules

allowed_by : (pair : Pair) → is_allowed pair ≡ true → IsAllowedPair pair
allowed_by pair h = search rules

is_true : (b : Bool) → (b ≡ false → ⊥) → b ≡ true
is_true true h = refl
is_true false h = absurd (h refl)

is_false : (b : Bool) → (b ≡ true → ⊥) → b ≡ false
is_false true h = absurd (h refl)
is_false false h = refl

both : (b : Bool) → b ≡ false → b ≡ true → ⊥
both true h k = cc
both false h k = cc

other_same : (own : Pair) → is_of_other Fixed own own ≡ false
other_same own = search rules

fixed_of_other : (kind : Kind) (own pair : Pair) → is_of_other kind own pair ≡ true → kind ≡ Fixed
fixed_of_other Relocatable own pair h = let no : ⊥ = cc in absurd no
fixed_of_other Fixed own pair h = refl

differs_of_other : (kind : Kind) (own pair : Pair) → is_of_other kind own pair ≡ true → own ≢ pair
differs_of_other Relocatable own pair h same = let no : ⊥ = cc in no
differs_of_other Fixed own pair h same = both (is_of_other Fixed own own) (other_same own) (subst (λ (p : Pair). is_of_other Fixed own p ≡ true) (sym same) h)

same_pair : (own pair : Pair) → own.d ≡ pair.d → own.k ≡ pair.k → own ≡ pair
same_pair own pair e f = ap (λ (d : ℕ). record { d = d; k = own.k }) e ∙ ap (λ (k : ℕ). record { d = pair.d; k = k }) f

same_bases : (own pair : Pair) → is_of_other Fixed own pair ≡ false → (own.d ≡ pair.d) × (own.k ≡ pair.k)
same_bases own pair h = search rules

of_other : (kind : Kind) (own pair : Pair) → kind ≡ Fixed → own ≢ pair → is_of_other kind own pair ≡ true
of_other Relocatable own pair h differs = let no : ⊥ = cc in absurd no
of_other Fixed own pair h differs = is_true (is_of_other Fixed own pair) (λ e. let same : (own.d ≡ pair.d) × (own.k ≡ pair.k) = same_bases own pair e in differs (same_pair own pair same.0 same.1))

-- when a run is refused
abbrev pub RefusedPair : RunEnd → Pair → Type 0
RefusedPair end pair = (end ≡ PairNotAllowed) ↔ ¬ (IsAllowedPair pair)

abbrev pub RefusedImage : RunEnd → ImageRecord → Pair → Type 0
RefusedImage end image pair = (other : Pair) → (end ≡ MadeFor other) ↔ (IsAllowedPair pair × (image.kind ≡ Fixed) × (image.pair ≢ pair) × (other ≡ image.pair))

-- the image may stand at the pair
at_allowed : (image : ImageRecord) (pair : Pair) (input : List ℕ) (turns : ℕ) → is_allowed pair ≡ true → is_of_other image.kind image.pair pair ≡ false → ending_at image pair input turns ≡ ending_of image pair input turns
at_allowed image pair input turns first second =
    ap (λ (b : Bool). cond b (cond (is_of_other image.kind image.pair pair) (refusal (outcomes.MadeFor image.pair)) (ending_of image pair input turns)) (refusal (outcomes.PairNotAllowed pair))) first
    ∙ ap (λ (b : Bool). cond b (refusal (outcomes.MadeFor image.pair)) (ending_of image pair input turns)) second

at_other : (image : ImageRecord) (pair : Pair) (input : List ℕ) (turns : ℕ) → is_allowed pair ≡ true → is_of_other image.kind image.pair pair ≡ true → ending_at image pair input turns ≡ refusal (outcomes.MadeFor image.pair)
at_other image pair input turns first second =
    ap (λ (b : Bool). cond b (cond (is_of_other image.kind image.pair pair) (refusal (outcomes.MadeFor image.pair)) (ending_of image pair input turns)) (refusal (outcomes.PairNotAllowed pair))) first
    ∙ ap (λ (b : Bool). cond b (refusal (outcomes.MadeFor image.pair)) (ending_of image pair input turns)) second

at_none : (image : ImageRecord) (pair : Pair) (input : List ℕ) (turns : ℕ) → is_allowed pair ≡ false → ending_at image pair input turns ≡ refusal (outcomes.PairNotAllowed pair)
at_none image pair input turns h =
    ap (λ (b : Bool). cond b (cond (is_of_other image.kind image.pair pair) (refusal (outcomes.MadeFor image.pair)) (ending_of image pair input turns)) (refusal (outcomes.PairNotAllowed pair))) h

-- a run that isn't refused
stands : (end : RunEnd) (image : ImageRecord) (pair : Pair) (input : List ℕ) (turns : ℕ) → RefusedPair end pair → RefusedImage end image pair → end ≢ PairNotAllowed → ((other : Pair) → end ≢ MadeFor other) → ending_at image pair input turns ≡ ending_of image pair input turns
stands end image pair input turns bad made good none =
    let allowed : is_allowed pair ≡ true = is_true (is_allowed pair) (λ e. good (bad.1 (λ h. both (is_allowed pair) e (test_allowed pair h)))) in
    let own : is_of_other image.kind image.pair pair ≡ false = is_false (is_of_other image.kind image.pair pair) (λ e.
    none image.pair ((made image.pair).1 (allowed_by pair allowed, fixed_of_other image.kind image.pair pair e, differs_of_other image.kind image.pair pair e, refl))) in
    at_allowed image pair input turns allowed own

-- a run that is refused for the pair, or for the image
refused_pair : (image : ImageRecord) (pair : Pair) (input : List ℕ) (turns : ℕ) → RefusedPair PairNotAllowed pair → ending_at image pair input turns ≡ refusal (outcomes.PairNotAllowed pair)
refused_pair image pair input turns bad = at_none image pair input turns (is_false (is_allowed pair) (λ e. bad.0 refl (allowed_by pair e)))

refused_image : (other : Pair) (image : ImageRecord) (pair : Pair) (input : List ℕ) (turns : ℕ) → RefusedImage (MadeFor other) image pair → ending_at image pair input turns ≡ refusal (outcomes.MadeFor other)
refused_image other image pair input turns made =
    let h = (made other).0 refl in
    at_other image pair input turns (test_allowed pair h.0) (of_other image.kind image.pair pair h.1 h.2) ∙ ap (λ (p : Pair). refusal (outcomes.MadeFor p)) (sym h.3)

outcome_as : (image : ImageRecord) (pair : Pair) (input : List ℕ) (turns : ℕ) (end : ModelEnd) → (run_of image pair input turns).end ≡ end → (ending_of image pair input turns).outcome ≡ outcome_of_end end turns
unfolding ending_of
outcome_as image pair input turns end told = ap (λ (e : ModelEnd). outcome_of_end e turns) told

emitted_as : (image : ImageRecord) (pair : Pair) (input : List ℕ) (turns : ℕ) → (ending_of image pair input turns).emitted ≡ (run_of image pair input turns).output
unfolding ending_of
emitted_as image pair input turns = refl

ended : (end : RunEnd) (image : ImageRecord) (pair : Pair) (input : List ℕ) (turns : ℕ) (told : ModelEnd) → RefusedPair end pair → RefusedImage end image pair → end ≢ PairNotAllowed → ((other : Pair) → end ≢ MadeFor other)
    → (run_of image pair input turns).end ≡ told → outcome_of_end told turns ≡ (ending_at image pair input turns).outcome
ended end image pair input turns told bad made good none is =
    sym (ap (λ (e : Ending). e.outcome) (stands end image pair input turns bad made good none) ∙ outcome_as image pair input turns told is)

emitted : (end : RunEnd) (image : ImageRecord) (pair : Pair) (input : List ℕ) (turns : ℕ) → RefusedPair end pair → RefusedImage end image pair → end ≢ PairNotAllowed → ((other : Pair) → end ≢ MadeFor other)
    → (run_of image pair input turns).output ≡ (ending_at image pair input turns).emitted
emitted end image pair input turns bad made good none =
    sym (ap (λ (e : Ending). e.emitted) (stands end image pair input turns bad made good none) ∙ emitted_as image pair input turns)

run_comes : (end : RunEnd) (image : ImageRecord) (pair : Pair) (input : List ℕ) (turns : ℕ) → RefusedPair end pair → RefusedImage end image pair → EndsAs end turns (run_of image pair input turns).end
    → IsFault (outcome_of_answer end pair) ⊎ (outcome_of_answer end pair ≡ (ending_at image pair input turns).outcome)
run_comes Bye image pair input turns bad made h = inr (ended Bye image pair input turns ModelBye bad made (λ e. absurd cc) (λ other e. absurd cc) h)
run_comes (Thrown code) image pair input turns bad made h = inr (ended (Thrown code) image pair input turns (ModelThrown code) bad made (λ e. absurd cc) (λ other e. absurd cc) h)
run_comes (Spent taken) image pair input turns bad made h =
    inr (ap (λ (n : ℕ). outcomes.Spent n) h.1 ∙ ended (Spent taken) image pair input turns ModelSpent bad made (λ e. absurd cc) (λ other e. absurd cc) h.0)
run_comes InputTooLong image pair input turns bad made h = inr (ended InputTooLong image pair input turns ModelTooLong bad made (λ e. absurd cc) (λ other e. absurd cc) h)
run_comes ReadFault image pair input turns bad made h = inl (inr (inl refl))
run_comes WriteFault image pair input turns bad made h = inl (inr (inr refl))
run_comes PairNotAllowed image pair input turns bad made h = inr (sym (ap (λ (e : Ending). e.outcome) (refused_pair image pair input turns bad)))
run_comes (MadeFor other) image pair input turns bad made h = inr (sym (ap (λ (e : Ending). e.outcome) (refused_image other image pair input turns made)))
run_comes NoMemory image pair input turns bad made h = inl (inl refl)

-- nothing was written
none_front : (a b : Option (List ℕ)) (bytes : List ℕ) → Emits a b [] → EmitsFront a b bytes
none_front a b bytes h = front_more a b [] bytes (front_whole a b [] h)

as_emitted : (a b : Option (List ℕ)) (bytes all : List ℕ) → bytes ≡ all → EmitsFront a b bytes → EmitsFront a b all
as_emitted a b bytes all is h = subst (λ (xs : List ℕ). EmitsFront a b xs) is h

run_front : (end : RunEnd) (image : ImageRecord) (pair : Pair) (input : List ℕ) (turns : ℕ) (a b : Option (List ℕ)) → RefusedPair end pair → RefusedImage end image pair → WritesAs end a b (run_of image pair input turns).output → EmitsFront a b (ending_at image pair input turns).emitted
run_front Bye image pair input turns a b bad made h =
    as_emitted a b (run_of image pair input turns).output (ending_at image pair input turns).emitted (emitted Bye image pair input turns bad made (λ e. absurd cc) (λ other e. absurd cc)) (front_whole a b (run_of image pair input turns).output h)
run_front (Thrown code) image pair input turns a b bad made h =
    as_emitted a b (run_of image pair input turns).output (ending_at image pair input turns).emitted (emitted (Thrown code) image pair input turns bad made (λ e. absurd cc) (λ other e. absurd cc)) (front_whole a b (run_of image pair input turns).output h)
run_front (Spent taken) image pair input turns a b bad made h =
    as_emitted a b (run_of image pair input turns).output (ending_at image pair input turns).emitted (emitted (Spent taken) image pair input turns bad made (λ e. absurd cc) (λ other e. absurd cc)) (front_whole a b (run_of image pair input turns).output h)
run_front ReadFault image pair input turns a b bad made h =
    as_emitted a b (run_of image pair input turns).output (ending_at image pair input turns).emitted (emitted ReadFault image pair input turns bad made (λ e. absurd cc) (λ other e. absurd cc)) (h)
run_front WriteFault image pair input turns a b bad made h =
    as_emitted a b (run_of image pair input turns).output (ending_at image pair input turns).emitted (emitted WriteFault image pair input turns bad made (λ e. absurd cc) (λ other e. absurd cc)) (h)
run_front InputTooLong image pair input turns a b bad made h =
    as_emitted a b (run_of image pair input turns).output (ending_at image pair input turns).emitted (emitted InputTooLong image pair input turns bad made (λ e. absurd cc) (λ other e. absurd cc)) (front_whole a b (run_of image pair input turns).output h)
run_front PairNotAllowed image pair input turns a b bad made h = none_front a b (ending_at image pair input turns).emitted h
run_front (MadeFor other) image pair input turns a b bad made h = none_front a b (ending_at image pair input turns).emitted h
run_front NoMemory image pair input turns a b bad made h = none_front a b (ending_at image pair input turns).emitted h

all_emitted : (a b : Option (List ℕ)) (bytes all : List ℕ) → bytes ≡ all → Emits a b bytes → Emits a b all
all_emitted a b bytes all is h = subst (λ (xs : List ℕ). Emits a b xs) is h

run_whole : (end : RunEnd) (image : ImageRecord) (pair : Pair) (input : List ℕ) (turns : ℕ) (a b : Option (List ℕ)) → RefusedPair end pair → RefusedImage end image pair → WritesAs end a b (run_of image pair input turns).output
    → outcome_of_answer end pair ≢ outcomes.NoMemory → outcome_of_answer end pair ≢ outcomes.ReadFault → outcome_of_answer end pair ≢ outcomes.WriteFault → Emits a b (ending_at image pair input turns).emitted
run_whole Bye image pair input turns a b bad made h m r w =
    all_emitted a b (run_of image pair input turns).output (ending_at image pair input turns).emitted (emitted Bye image pair input turns bad made (λ e. absurd cc) (λ other e. absurd cc)) h
run_whole (Thrown code) image pair input turns a b bad made h m r w =
    all_emitted a b (run_of image pair input turns).output (ending_at image pair input turns).emitted (emitted (Thrown code) image pair input turns bad made (λ e. absurd cc) (λ other e. absurd cc)) h
run_whole (Spent taken) image pair input turns a b bad made h m r w =
    all_emitted a b (run_of image pair input turns).output (ending_at image pair input turns).emitted (emitted (Spent taken) image pair input turns bad made (λ e. absurd cc) (λ other e. absurd cc)) h
run_whole ReadFault image pair input turns a b bad made h m r w = absurd (r refl)
run_whole WriteFault image pair input turns a b bad made h m r w = absurd (w refl)
run_whole InputTooLong image pair input turns a b bad made h m r w =
    all_emitted a b (run_of image pair input turns).output (ending_at image pair input turns).emitted (emitted InputTooLong image pair input turns bad made (λ e. absurd cc) (λ other e. absurd cc)) h
run_whole PairNotAllowed image pair input turns a b bad made h m r w =
    all_emitted a b [] (ending_at image pair input turns).emitted (sym (ap (λ (e : Ending). e.emitted) (refused_pair image pair input turns bad))) h
run_whole (MadeFor other) image pair input turns a b bad made h m r w =
    all_emitted a b [] (ending_at image pair input turns).emitted (sym (ap (λ (e : Ending). e.emitted) (refused_image other image pair input turns made))) h
run_whole NoMemory image pair input turns a b bad made h m r w = absurd (m refl)

run_last : (end : RunEnd) (image : ImageRecord) (pair : Pair) (input : List ℕ) (turns before now : ℕ) → RefusedPair end pair → RefusedImage end image pair → KeepsLast end before now (run_of image pair input turns).output
    → outcome_of_answer end pair ≢ outcomes.NoMemory → outcome_of_answer end pair ≢ outcomes.ReadFault → outcome_of_answer end pair ≢ outcomes.WriteFault → now ≡ last_of before (ending_at image pair input turns).emitted
run_last Bye image pair input turns before now bad made h m r w = h ∙ ap (λ (xs : List ℕ). last_of before xs) (emitted Bye image pair input turns bad made (λ e. absurd cc) (λ other e. absurd cc))
run_last (Thrown code) image pair input turns before now bad made h m r w = h ∙ ap (λ (xs : List ℕ). last_of before xs) (emitted (Thrown code) image pair input turns bad made (λ e. absurd cc) (λ other e. absurd cc))
run_last (Spent taken) image pair input turns before now bad made h m r w = h ∙ ap (λ (xs : List ℕ). last_of before xs) (emitted (Spent taken) image pair input turns bad made (λ e. absurd cc) (λ other e. absurd cc))
run_last ReadFault image pair input turns before now bad made h m r w = absurd (r refl)
run_last WriteFault image pair input turns before now bad made h m r w = absurd (w refl)
run_last InputTooLong image pair input turns before now bad made h m r w = h ∙ ap (λ (xs : List ℕ). last_of before xs) (emitted InputTooLong image pair input turns bad made (λ e. absurd cc) (λ other e. absurd cc))
run_last PairNotAllowed image pair input turns before now bad made h m r w = h ∙ ap (λ (e : Ending). last_of before e.emitted) (sym (refused_pair image pair input turns bad))
run_last (MadeFor other) image pair input turns before now bad made h m r w = h ∙ ap (λ (e : Ending). last_of before e.emitted) (sym (refused_image other image pair input turns made))
run_last NoMemory image pair input turns before now bad made h m r w = absurd (m refl)

-- the same of an input that may tell
pub answer_last : (end : RunEnd) (image : ImageRecord) (pair : Pair) (turns : ℕ) (left : Option (List ℕ)) (before now : ℕ) (result : Outcome) → result ≡ outcome_of_answer end pair → RefusedPair end pair → RefusedImage end image pair
    → IfSome left (λ text. KeepsLast end before now (run_of image pair text turns).output) → result ≢ outcomes.NoMemory → result ≢ outcomes.ReadFault → result ≢ outcomes.WriteFault → IfSome left (λ text. now ≡ last_of before (ending_at image pair text turns).emitted)
answer_last end image pair turns None before now result is bad made h m r w = tt
answer_last end image pair turns (Some text) before now result is bad made h m r w =
    run_last end image pair text turns before now bad made h (λ e. m (is ∙ e)) (λ e. r (is ∙ e)) (λ e. w (is ∙ e))

-- only a run that wasn't begun answers that there is no memory
pub memory_refused : (end : RunEnd) (pair : Pair) → outcome_of_answer end pair ≡ outcomes.NoMemory → IsRefusal end
memory_refused Bye pair h = let no : ⊥ = cc in absurd no
memory_refused (Thrown code) pair h = let no : ⊥ = cc in absurd no
memory_refused (Spent taken) pair h = let no : ⊥ = cc in absurd no
memory_refused ReadFault pair h = let no : ⊥ = cc in absurd no
memory_refused WriteFault pair h = let no : ⊥ = cc in absurd no
memory_refused InputTooLong pair h = let no : ⊥ = cc in absurd no
memory_refused PairNotAllowed pair h = tt
memory_refused (MadeFor other) pair h = tt
memory_refused NoMemory pair h = tt

pub answer_comes : (end : RunEnd) (image : ImageRecord) (pair : Pair) (turns : ℕ) (left : Option (List ℕ)) (result : Outcome) → result ≡ outcome_of_answer end pair → RefusedPair end pair → RefusedImage end image pair
    → IfSome left (λ text. EndsAs end turns (run_of image pair text turns).end) → IsFault result ⊎ IfSome left (λ text. result ≡ (ending_at image pair text turns).outcome)
answer_comes end image pair turns None result is bad made h = inr tt
answer_comes end image pair turns (Some text) result is bad made h = elim (run_comes end image pair text turns bad made h) [
  | inl fault ↦ inl (subst (λ (o : Outcome). IsFault o) (sym is) fault)
  | inr told ↦ inr (is ∙ told)
]

pub answer_front : (end : RunEnd) (image : ImageRecord) (pair : Pair) (turns : ℕ) (left a b : Option (List ℕ)) → RefusedPair end pair → RefusedImage end image pair
    → IfSome left (λ text. WritesAs end a b (run_of image pair text turns).output) → IfSome left (λ text. EmitsFront a b (ending_at image pair text turns).emitted)
answer_front end image pair turns None a b bad made h = tt
answer_front end image pair turns (Some text) a b bad made h = run_front end image pair text turns a b bad made h

pub answer_whole : (end : RunEnd) (image : ImageRecord) (pair : Pair) (turns : ℕ) (left a b : Option (List ℕ)) (result : Outcome) → result ≡ outcome_of_answer end pair → RefusedPair end pair → RefusedImage end image pair
    → IfSome left (λ text. WritesAs end a b (run_of image pair text turns).output) → result ≢ outcomes.NoMemory → result ≢ outcomes.ReadFault → result ≢ outcomes.WriteFault → IfSome left (λ text. Emits a b (ending_at image pair text turns).emitted)
answer_whole end image pair turns None a b result is bad made h m r w = tt
answer_whole end image pair turns (Some text) a b result is bad made h m r w =
    run_whole end image pair text turns a b bad made h (λ e. m (is ∙ e)) (λ e. r (is ∙ e)) (λ e. w (is ∙ e))

pub read_failed : (end : RunEnd) (pair : Pair) → outcome_of_answer end pair ≡ outcomes.ReadFault → end ≡ ReadFault
read_failed Bye pair h = let no : ⊥ = cc in absurd no
read_failed (Thrown code) pair h = let no : ⊥ = cc in absurd no
read_failed (Spent taken) pair h = let no : ⊥ = cc in absurd no
read_failed ReadFault pair h = refl
read_failed WriteFault pair h = let no : ⊥ = cc in absurd no
read_failed InputTooLong pair h = let no : ⊥ = cc in absurd no
read_failed PairNotAllowed pair h = let no : ⊥ = cc in absurd no
read_failed (MadeFor other) pair h = let no : ⊥ = cc in absurd no
read_failed NoMemory pair h = let no : ⊥ = cc in absurd no

pub write_failed : (end : RunEnd) (pair : Pair) → outcome_of_answer end pair ≡ outcomes.WriteFault → end ≡ WriteFault
write_failed Bye pair h = let no : ⊥ = cc in absurd no
write_failed (Thrown code) pair h = let no : ⊥ = cc in absurd no
write_failed (Spent taken) pair h = let no : ⊥ = cc in absurd no
write_failed ReadFault pair h = let no : ⊥ = cc in absurd no
write_failed WriteFault pair h = refl
write_failed InputTooLong pair h = let no : ⊥ = cc in absurd no
write_failed PairNotAllowed pair h = let no : ⊥ = cc in absurd no
write_failed (MadeFor other) pair h = let no : ⊥ = cc in absurd no
write_failed NoMemory pair h = let no : ⊥ = cc in absurd no
