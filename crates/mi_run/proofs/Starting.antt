-- The start of a run.
use Rattle.std.proofs.Common.{◌≡◌, ℕ, Bool, true, false, ◌≤◌, List, [], ◌++◌, length, Option, None, Some, Result, Ok, Err, IfSome, refl, sym, ◌∙◌, ap, subst}
use Rattle.std.specs.Prelude.{option_map, IsSomeAnd}
use Rattle.mi_model.specs.declared.Fault.{Fault}
use Rattle.mi_model.specs.Layout.{entry_cell}
use Rattle.mi_model.specs.Ops.{Ops}
use Rattle.mi_model.specs.Ops.Test.{Equal}
use Rattle.mi_model.specs.Machine.{Machine, after, asked}
use Rattle.mi_model.specs.Region.{fetch_at}
use Rattle.mi_model.specs.Outcome.{outcome_of}
use Rattle.mi_model.specs.Kernel.{whole_kernel}
use Rattle.mi_model.specs.Run.{Run, run, run_started, run_on, start_entry, machine_on, input_of, input_limit}
use Rattle.mi_run.specs.Lines.{text_of}
use Rattle.mi_run.specs.Ending.{at_start}
use Rattle.mi_outside.specs.Written.{Emits}
use Rattle.mi_outside.specs.Puts.{Output, Puts}
use Rattle.mi_run.specs.Course.{course_within}
use Rattle.mi_run.specs.Waits.{input_taken, run_taken, StopsAtWait, StopsThere}
use Rattle.mi_run.specs.Taking.{course_taken, StopsAt}

after_same : {X Y : Type 0} (r : Result X Fault) (f g : X → Result Y Fault) → ((x : X) → f x ≡ g x) → after r f ≡ after r g
after_same (Ok x) f g h = h x
after_same (Err e) f g h = refl

cases_same : {Y : Type 0} (f g : Bool → Y) → f true ≡ g true → f false ≡ g false → (t : Bool) → f t ≡ g t
cases_same f g h k true = h
cases_same f g h k false = k

-- the start sets the instruction address, so it doesn't matter what it was
pub starts_anywhere : (ops : Ops ℕ ℕ) (m : Machine ℕ ℕ) (x : ℕ) → outcome_of ops start_entry (record m { ip = x }) [] ≡ outcome_of ops start_entry m []
unfolding start_entry
starts_anywhere ops m x =
    after_same (fetch_at ops m.bytes entry_cell) _ _ (λ entry. after_same (asked (ops.test Equal entry (ops.plain 0))) _ _ (cases_same _ _ refl refl))

pub run_begins : (ops : Ops ℕ ℕ) (region text : List ℕ) (turns : ℕ) (entered : Bool) (m : Machine ℕ ℕ) → outcome_of ops start_entry (at_start ops region) [] ≡ Ok (entered, m)
    → run whole_kernel ops region text turns ≡ run_on whole_kernel ops turns (course_within input_limit entered text) m
unfolding run
run_begins ops region text turns entered m told =
    ap (run_started whole_kernel ops turns (input_of text)) (sym (starts_anywhere ops (machine_on ops region) (ops.region_cell 264)) ∙ told)

-- what holds of what is left of a run that has just begun holds of the run
pub begun_run : (P : Run → Type 0) (ops : Ops ℕ ℕ) (region waiting : List ℕ) (room turns : ℕ) (entered : Bool) (m : Machine ℕ ℕ) (left : Option (List ℕ)) → waiting ≡ [] → room ≡ input_limit
    → outcome_of ops start_entry (at_start ops region) [] ≡ Ok (entered, m)
    → IfSome (option_map (λ text. run_on whole_kernel ops turns (course_within room entered text) m) (text_of waiting left)) P
    → IfSome left (λ text. P (run whole_kernel ops region text turns))
begun_run P ops region waiting room turns entered m None w r told h = tt
begun_run P ops region waiting room turns entered m (Some text) w r told h =
    let same : run whole_kernel ops region text turns ≡ run_on whole_kernel ops turns (course_within room entered (waiting ++ text)) m =
    run_begins ops region text turns entered m told
    ∙ ap (λ (xs : List ℕ). run_on whole_kernel ops turns (course_within input_limit entered (xs ++ text)) m) (sym w)
    ∙ ap (λ (k : ℕ). run_on whole_kernel ops turns (course_within k entered (waiting ++ text)) m) (sym r) in
    subst P (sym same) h

-- the same of a run with only the bytes that were taken
run_taken_begins : (ops : Ops ℕ ℕ) (region taken : List ℕ) (turns : ℕ) (entered : Bool) (m : Machine ℕ ℕ) → outcome_of ops start_entry (at_start ops region) [] ≡ Ok (entered, m)
    → run_taken whole_kernel ops region turns taken ≡ run_on whole_kernel ops turns (course_taken entered taken) m
run_taken_begins ops region taken turns entered m told =
    ap (run_started whole_kernel ops turns (input_taken taken)) (sym (starts_anywhere ops (machine_on ops region) (ops.region_cell 264)) ∙ told)

-- a run that has just begun and stops at a wait, and whose output is then written
stops_there : (ops : Ops ℕ ℕ) (region waiting text rest : List ℕ) (room turns : ℕ) (entered : Bool) (m : Machine ℕ ℕ) (first second : Output) (now : Option (List ℕ)) → waiting ≡ [] → room ≡ input_limit
    → outcome_of ops start_entry (at_start ops region) [] ≡ Ok (entered, m)
    → ((bytes : List ℕ) → Puts first second bytes → Emits first.written now bytes)
    → StopsAt (waiting ++ text) rest room (λ taken. run_on whole_kernel ops turns (course_taken entered taken) m) first second
    → StopsAtWait (run_taken whole_kernel ops region turns) text rest first.written now
stops_there ops region waiting text rest room turns entered m first second now w r told written h =
    let same = run_taken_begins ops region h.taken turns entered m told in
    record {
      taken = h.taken;
      is = sym (ap (λ (xs : List ℕ). xs ++ text) w) ∙ h.is;
      within = subst (λ (k : ℕ). length h.taken ≤ k) r h.within;
      reached = ap (λ (x : Run). x.end) same ∙ h.reached;
      written = subst (λ (x : Run). Emits first.written now x.output) (sym same) (written _ h.puts);
    }

pub begun_stops : (ops : Ops ℕ ℕ) (region waiting : List ℕ) (room turns : ℕ) (entered : Bool) (m : Machine ℕ ℕ) (old left : Option (List ℕ)) (first second : Output) (now : Option (List ℕ)) → waiting ≡ [] → room ≡ input_limit
    → outcome_of ops start_entry (at_start ops region) [] ≡ Ok (entered, m)
    → ((bytes : List ℕ) → Puts first second bytes → Emits first.written now bytes)
    → IfSome (text_of waiting old) (λ text. IsSomeAnd left (λ rest. StopsAt text rest room (λ taken. run_on whole_kernel ops turns (course_taken entered taken) m) first second))
    → StopsThere (run_taken whole_kernel ops region turns) old left first.written now
begun_stops ops region waiting room turns entered m None left first second now w r told written h = tt
begun_stops ops region waiting room turns entered m (Some text) None first second now w r told written h = h
begun_stops ops region waiting room turns entered m (Some text) (Some rest) first second now w r told written h = stops_there ops region waiting text rest room turns entered m first second now w r told written h
