-- How a run goes on, call by call.
use Rattle.std.proofs.Common.{◌≡◌, inl, inr, ℕ, ℤ, zero, suc, ◌-◌, ◌<◌, ◌≤◌, nat_le, Bool, true, false, cond, List, [], ◌∷◌, length, take, Option, None, Some, Result, Ok, Err, IfSome, OnOk, refl, sym, ◌∙◌, ap, subst, arith, append-nil}
use Rattle.std.specs.Prelude.{option_map, IfErr}
use Rattle.std.proofs.lemmas.Bool.{cases_Bool, leb-true, leb-false, lt-leb}
use Rattle.std.proofs.lemmas.List.{take_all, length-take}
use Rattle.mi_model.specs.declared.Fault.{Fault}
use Rattle.mi_model.specs.declared.Fault.TheVariants.{Throw}
use Rattle.mi_model.specs.declared.Effect.{Effect}
use Rattle.mi_model.specs.declared.Effect.TheVariants.{Went, Emit, Want, Halt}
use Rattle.mi_model.specs.Ops.{Ops}
use Rattle.mi_model.specs.Machine.{Machine, parsed_string_overflow}
use Rattle.mi_model.specs.Outcome.{outcome_of}
use Rattle.mi_model.specs.Kernel.{whole_kernel}
use Rattle.mi_model.specs.Table.{step}
use Rattle.mi_model.specs.Input.{give_line, give_end}
use Rattle.mi_model.specs.Recovery.{recover, recovery_text}
use Rattle.mi_model.specs.Run.{Run, Course, Rest, Input, ends, writes, after_recovery, after_fault, after_line, after_end, at_wait, after_instruction, run_on, RunEnd as ModelEnd}
use Rattle.mi_model.specs.Run.RunEnd.{Thrown as ModelThrown, Spent as ModelSpent, InputTooLong as ModelTooLong}
use Rattle.mi_arith.specs.declared.plain.Plain.{Plain}
use Rattle.mi_region.specs.View.{StateView}
use Rattle.mi_machine.specs.Steps.{ops_of}
use Rattle.mi_outside.specs.Puts.{Output, PutsButRest, Puts}
use Rattle.mi_outside.proofs.Putting.{puts_nothing, puts_none, puts_on, puts_front, front_none, front_on, lost_more, lost_on}
use Rattle.mi_reloc.specs.declared.ending.RunEnd.{RunEnd}
use Rattle.mi_reloc.specs.declared.ending.RunEnd.TheVariants.{Bye, Thrown, Spent, ReadFault, WriteFault, InputTooLong, PairNotAllowed, MadeFor, NoMemory}
use Rattle.mi_run.specs.declared.lines.Next.TheVariants.{Line, End, TooLong}
use Rattle.mi_run.specs.Lines.{input_within, IsSameToMachines, TellsLine}
use Rattle.mi_run.specs.Ending.{EndsAs, IsRefusal}
use Rattle.mi_run.specs.Course.{course_within, PutsPiece, PutsAs, Goes, GoesTo, GoesFrom}
use Rattle.mi_run.proofs.Pieces.{on_ok}

-- nothing was done yet
pub stays : (turns : ℕ) (run : Run) (before : Output) → Goes (Ok tt) turns run run before before
stays turns run before = (refl, puts_nothing before run.output run.output refl)

-- a piece is written, and the rest is left
pub after_piece : (r : Result (Unit {0}) RunEnd) (turns : ℕ) (piece : List ℕ) (rest : Run) (before now : Output) → PutsPiece r before now piece → Goes r turns (writes piece rest) rest before now
after_piece (Ok x) turns piece rest before now h = (refl, puts_front before now piece rest.output h)
after_piece (Err WriteFault) turns piece rest before now h = (tt, lost_more before now piece rest.output h.1)
after_piece (Err Bye) turns piece rest before now h = let e : Bye ≡ WriteFault = h.0 in cc
after_piece (Err (Thrown code)) turns piece rest before now h = let e : Thrown code ≡ WriteFault = h.0 in cc
after_piece (Err (Spent n)) turns piece rest before now h = let e : Spent n ≡ WriteFault = h.0 in cc
after_piece (Err ReadFault) turns piece rest before now h = let e : ReadFault ≡ WriteFault = h.0 in cc
after_piece (Err InputTooLong) turns piece rest before now h = let e : InputTooLong ≡ WriteFault = h.0 in cc
after_piece (Err PairNotAllowed) turns piece rest before now h = let e : PairNotAllowed ≡ WriteFault = h.0 in cc
after_piece (Err (MadeFor pair)) turns piece rest before now h = let e : MadeFor pair ≡ WriteFault = h.0 in cc
after_piece (Err NoMemory) turns piece rest before now h = let e : NoMemory ≡ WriteFault = h.0 in cc

-- a throw that ends the run, and one that the machine recovers from
pub thrown : (ops : Ops ℕ ℕ) (rest : Rest ℕ ℕ) (c : Course) (m : Machine ℕ ℕ) (code : ℤ) (turns : ℕ) (next : Run) (before : Output) → c.entered ≡ true
    → Goes (Err (Thrown code)) turns (after_fault ops rest c m (Throw code)) next before before
thrown ops rest c m code turns next before e =
    subst (λ (t : Bool). Goes (Err (Thrown code)) turns (cond t (ends (ModelThrown code)) (after_recovery rest c code (outcome_of ops recover m []))) next before before) (sym e) (refl, puts_none before)

pub recovered : (r : Result (Unit {0}) RunEnd) (ops : Ops ℕ ℕ) (rest : Rest ℕ ℕ) (c : Course) (m n : Machine ℕ ℕ) (code : ℤ) (turns : ℕ) (before now : Output) → c.entered ≡ false
    → outcome_of ops recover m [] ≡ Ok (tt, n) → PutsPiece r before now (recovery_text code) → Goes r turns (after_fault ops rest c m (Throw code)) (rest c n) before now
recovered r ops rest c m n code turns before now e told piece =
    subst (λ (t : Bool). Goes r turns (cond t (ends (ModelThrown code)) (after_recovery rest c code (outcome_of ops recover m []))) (rest c n) before now) (sym e)
    (subst (λ (o : Result (Unit {0} × Machine ℕ ℕ) Fault). Goes r turns (after_recovery rest c code o) (rest c n) before now) (sym told)
    (after_piece r turns (recovery_text code) (rest c n) before now piece))

-- a fault of a machine whose state is as it was
pub same_fault : (r : Result (Unit {0}) RunEnd) (rest : Rest ℕ ℕ) (c : Course) (s n : StateView Plain ℕ ℕ) (passed code : ℤ) (turns : ℕ) (next : Run) (before now : Output) → passed ≡ code → n ≡ s
    → Goes r turns (after_fault (ops_of n.arith) rest c n.machine (Throw passed)) next before now → Goes r turns (after_fault (ops_of s.arith) rest c s.machine (Throw code)) next before now
same_fault r rest c s n passed code turns next before now k e h =
    subst (λ (z : ℤ). Goes r turns (after_fault (ops_of s.arith) rest c s.machine (Throw z)) next before now) k
    (subst (λ (x : StateView Plain ℕ ℕ). Goes r turns (after_fault (ops_of x.arith) rest c x.machine (Throw passed)) next before now) e h)

pub line_passed : (ops : Ops ℕ ℕ) (rest : Rest ℕ ℕ) (c : Course) (m n : Machine ℕ ℕ) (o : Result (Unit {0} × Machine ℕ ℕ) Fault) (turns : ℕ) (before : Output) → o ≡ Ok (tt, n)
    → Goes (Ok tt) turns (after_line ops rest c m o) (rest c n) before before
line_passed ops rest c m n o turns before e =
    subst (λ (x : Result (Unit {0} × Machine ℕ ℕ) Fault). Goes (Ok tt) turns (after_line ops rest c m x) (rest c n) before before) (sym e) (stays turns (rest c n) before)

pub line_thrown : (r : Result (Unit {0}) RunEnd) (ops : Ops ℕ ℕ) (rest : Rest ℕ ℕ) (c : Course) (m : Machine ℕ ℕ) (o : Result (Unit {0} × Machine ℕ ℕ) Fault) (code : ℤ) (turns : ℕ) (next : Run) (before now : Output) → o ≡ Err (Throw code)
    → Goes r turns (after_fault ops rest c m (Throw code)) next before now → Goes r turns (after_line ops rest c m o) next before now
line_thrown r ops rest c m o code turns next before now e h =
    subst (λ (x : Result (Unit {0} × Machine ℕ ℕ) Fault). Goes r turns (after_line ops rest c m x) next before now) (sym e) h

pub end_passed : (ops : Ops ℕ ℕ) (rest : Rest ℕ ℕ) (c : Course) (m n : Machine ℕ ℕ) (o : Result (Effect × Machine ℕ ℕ) Fault) (turns : ℕ) (before : Output) → o ≡ Ok (Went, n)
    → Goes (Ok tt) turns (after_end ops rest c m o) (rest c n) before before
end_passed ops rest c m n o turns before e =
    subst (λ (x : Result (Effect × Machine ℕ ℕ) Fault). Goes (Ok tt) turns (after_end ops rest c m x) (rest c n) before before) (sym e) (stays turns (rest c n) before)

pub end_halted : (ops : Ops ℕ ℕ) (rest : Rest ℕ ℕ) (c : Course) (m n : Machine ℕ ℕ) (o : Result (Effect × Machine ℕ ℕ) Fault) (turns : ℕ) (next : Run) (before : Output) → o ≡ Ok (Halt, n)
    → Goes (Err Bye) turns (after_end ops rest c m o) next before before
end_halted ops rest c m n o turns next before e =
    subst (λ (x : Result (Effect × Machine ℕ ℕ) Fault). Goes (Err Bye) turns (after_end ops rest c m x) next before before) (sym e) (refl, puts_none before)

pub end_thrown : (r : Result (Unit {0}) RunEnd) (ops : Ops ℕ ℕ) (rest : Rest ℕ ℕ) (c : Course) (m : Machine ℕ ℕ) (o : Result (Effect × Machine ℕ ℕ) Fault) (code : ℤ) (turns : ℕ) (next : Run) (before now : Output) → o ≡ Err (Throw code)
    → Goes r turns (after_fault ops rest c m (Throw code)) next before now → Goes r turns (after_end ops rest c m o) next before now
end_thrown r ops rest c m o code turns next before now e h =
    subst (λ (x : Result (Effect × Machine ℕ ℕ) Fault). Goes r turns (after_end ops rest c m x) next before now) (sym e) h

-- lines that are the same to machines
long_throws : (ops : Ops ℕ ℕ) (m : Machine ℕ ℕ) (line : List ℕ) → nat_le (length line) 1020 ≡ false → outcome_of ops (give_line line) m [] ≡ Err (Throw parsed_string_overflow)
unfolding give_line
long_throws ops m line h = rw h refl

same_short : (kept line : List ℕ) → IsSameToMachines kept line → length kept ≤ 1020 → kept ≡ line
same_short kept line same short =
    let whole : take 1021 kept ≡ kept = take_all 1021 kept (omega arith) in
    let size : length (take 1021 line) ≡ length kept = ap length (sym same ∙ whole) in
    let fits : length line ≤ 1021 = omega (arith, length-take 1021 line) in
    sym whole ∙ same ∙ take_all 1021 line fits

same_long : (kept line : List ℕ) → IsSameToMachines kept line → 1020 < length kept → 1020 < length line
same_long kept line same long =
    let size : length (take 1021 kept) ≡ length (take 1021 line) = ap length same in
    omega (arith, length-take 1021 kept, length-take 1021 line)

pub same_outcome : (ops : Ops ℕ ℕ) (m : Machine ℕ ℕ) (kept line : List ℕ) → IsSameToMachines kept line → outcome_of ops (give_line kept) m [] ≡ outcome_of ops (give_line line) m []
same_outcome ops m kept line same =
    elim (cases_Bool (nat_le (length kept) 1020)) [
      | inl short ↦ ap (λ (xs : List ℕ). outcome_of ops (give_line xs) m []) (same_short kept line same (leb-true _ _ short))
      | inr long ↦ long_throws ops m kept long ∙ sym (long_throws ops m line (lt-leb _ _ (same_long kept line same (leb-false _ _ long))))
    ]

goes_told : (r : Result (Unit {0}) RunEnd) (turns : ℕ) (told rest : Run) (before now : Output) → Goes r turns told rest before now → GoesTo r turns told (Some rest) before now
goes_told (Ok x) turns told rest before now h = h
goes_told (Err end) turns told rest before now h = h

-- at a wait: a line, the end, and a line that is too long
abbrev course_of : Input → (entered : Bool) → Course
course_of input entered = record { lines = input.lines; longer = input.longer; entered = entered }

pub at_line : (ops : Ops ℕ ℕ) (rest : Rest ℕ ℕ) (m : Machine ℕ ℕ) (old new : Input) (entered : Bool) (line : List ℕ) → old.lines ≡ line ∷ new.lines → old.longer ≡ new.longer
    → at_wait ops rest old.lines (course_of old entered) m ≡ after_line ops rest (course_of new entered) m (outcome_of ops (give_line line) m [])
at_line ops rest m old new entered line lines longer =
    ap (λ (xs : List (List ℕ)). at_wait ops rest xs (course_of old entered) m) lines
    ∙ ap (λ (t : Bool). after_line ops rest (record { lines = new.lines; longer = t; entered = entered }) m (outcome_of ops (give_line line) m [])) longer

pub wait_line : (r : Result (Unit {0}) RunEnd) (turns : ℕ) (ops : Ops ℕ ℕ) (rest : Rest ℕ ℕ) (m n : Machine ℕ ℕ) (entered : Bool) (old new : Option (List ℕ)) (old_room new_room : ℕ) (kept : List ℕ) (before now : Output)
    → TellsLine Line old new old_room new_room kept
    → ((c : Course) → c.entered ≡ entered → Goes r turns (after_line ops rest c m (outcome_of ops (give_line kept) m [])) (rest c n) before now)
    → GoesFrom r turns (option_map (λ text. at_wait ops rest (course_within old_room entered text).lines (course_within old_room entered text) m) old) (option_map (λ text. rest (course_within new_room entered text) n) new) before now
wait_line r turns ops rest m n entered None new old_room new_room kept before now h goes = tt
wait_line r turns ops rest m n entered (Some text) None old_room new_room kept before now h goes = absurd h
wait_line r turns ops rest m n entered (Some text) (Some left) old_room new_room kept before now h goes =
    let c : Course = course_within new_room entered left in
    let run : at_wait ops rest (course_within old_room entered text).lines (course_within old_room entered text) m ≡ after_line ops rest c m (outcome_of ops (give_line kept) m []) =
    at_line ops rest m (input_within old_room text) (input_within new_room left) entered h.0 h.1 h.2 ∙ ap (after_line ops rest c m) (sym (same_outcome ops m kept h.0 h.3)) in
    goes_told r turns _ (rest c n) before now (subst (λ (x : Run). Goes r turns x (rest c n) before now) (sym run) (goes c refl))

at_end : (ops : Ops ℕ ℕ) (rest : Rest ℕ ℕ) (m : Machine ℕ ℕ) (old : Input) (entered longer : Bool) → old.lines ≡ [] → old.longer ≡ longer
    → at_wait ops rest old.lines (course_of old entered) m ≡ cond longer (ends ModelTooLong) (after_end ops rest (course_of old entered) m (outcome_of ops give_end m []))
at_end ops rest m old entered longer lines more =
    ap (λ (xs : List (List ℕ)). at_wait ops rest xs (course_of old entered) m) lines
    ∙ ap (λ (t : Bool). cond t (ends ModelTooLong) (after_end ops rest (course_of old entered) m (outcome_of ops give_end m []))) more

pub wait_end : (r : Result (Unit {0}) RunEnd) (turns : ℕ) (ops : Ops ℕ ℕ) (rest : Rest ℕ ℕ) (m n : Machine ℕ ℕ) (entered : Bool) (old new : Option (List ℕ)) (old_room new_room : ℕ) (kept : List ℕ) (before now : Output)
    → TellsLine End old new old_room new_room kept
    → ((c : Course) → c.entered ≡ entered → Goes r turns (after_end ops rest c m (outcome_of ops give_end m [])) (rest c n) before now)
    → GoesFrom r turns (option_map (λ text. at_wait ops rest (course_within old_room entered text).lines (course_within old_room entered text) m) old) (option_map (λ text. rest (course_within new_room entered text) n) new) before now
wait_end r turns ops rest m n entered None new old_room new_room kept before now h goes = tt
wait_end r turns ops rest m n entered (Some text) None old_room new_room kept before now h goes = absurd h
wait_end r turns ops rest m n entered (Some text) (Some left) old_room new_room kept before now h goes =
    let c : Course = course_within new_room entered left in
    let run : at_wait ops rest (course_within old_room entered text).lines (course_within old_room entered text) m ≡ after_end ops rest c m (outcome_of ops give_end m []) =
    at_end ops rest m (input_within old_room text) entered false h.0 h.1 ∙ ap (λ (i : Input). after_end ops rest (course_of i entered) m (outcome_of ops give_end m [])) (sym h.2) in
    goes_told r turns _ (rest c n) before now (subst (λ (x : Run). Goes r turns x (rest c n) before now) (sym run) (goes c refl))

pub wait_too_long : (turns : ℕ) (ops : Ops ℕ ℕ) (rest : Rest ℕ ℕ) (m : Machine ℕ ℕ) (entered : Bool) (old new : Option (List ℕ)) (old_room new_room : ℕ) (kept : List ℕ) (next : Option Run) (before : Output)
    → TellsLine TooLong old new old_room new_room kept
    → GoesFrom (Err InputTooLong) turns (option_map (λ text. at_wait ops rest (course_within old_room entered text).lines (course_within old_room entered text) m) old) next before before
wait_too_long turns ops rest m entered None new old_room new_room kept next before h = tt
wait_too_long turns ops rest m entered (Some text) None old_room new_room kept next before h = absurd h
wait_too_long turns ops rest m entered (Some text) (Some left) old_room new_room kept next before h =
    subst (λ (x : Run). Goes (Err InputTooLong) turns x x before before) (sym (at_end ops rest m (input_within old_room text) entered true h.0 h.1)) (refl, puts_none before)

pub wait_failed : (turns : ℕ) (told next : Option Run) (before : Output) → GoesFrom (Err ReadFault) turns told next before before
wait_failed turns None next before = tt
wait_failed turns (Some run) next before = (tt, front_none before run.output)

-- the rest is over the same arithmetic
pub same_rest : (r : Result (Unit {0}) RunEnd) (turns : ℕ) (told : Option Run) (f : Plain → Option Run) (a b : Plain) (before now : Output) → OnOk r (b ≡ a) → GoesFrom r turns told (f a) before now → GoesFrom r turns told (f b) before now
same_rest (Ok x) turns told f a b before now e h = subst (λ (p : Plain). GoesFrom (Ok x) turns told (f p) before now) (sym e) h
same_rest (Err end) turns None f a b before now e h = tt
same_rest (Err end) turns (Some run) f a b before now e h = h

-- an instruction
pub run_next : (ops : Ops ℕ ℕ) (left : ℕ) (c : Course) (m : Machine ℕ ℕ) → 0 < left
    → run_on whole_kernel ops left c m ≡ after_instruction ops (run_on whole_kernel ops (left - 1)) c m (outcome_of ops (step whole_kernel) m [])
run_next ops zero c m h = absurd (omega arith)
run_next ops (suc left) c m h = let e : left ≡ suc left - 1 = omega arith in
    ap (λ (k : ℕ). after_instruction ops (run_on whole_kernel ops k) c m (outcome_of ops (step whole_kernel) m [])) e

one_goes : (r : Result (Unit {0}) RunEnd) (turns : ℕ) (ops : Ops ℕ ℕ) (m n : Machine ℕ ℕ) (entered : Bool) (text : Option (List ℕ)) (room left : ℕ) (before now : Output) → 0 < left
    → ((c : Course) → c.entered ≡ entered → Goes r turns (after_instruction ops (run_on whole_kernel ops (left - 1)) c m (outcome_of ops (step whole_kernel) m [])) (run_on whole_kernel ops (left - 1) c n) before now)
    → GoesFrom r turns (option_map (λ text. run_on whole_kernel ops left (course_within room entered text) m) text) (option_map (λ text. run_on whole_kernel ops (left - 1) (course_within room entered text) n) text) before now
one_goes r turns ops m n entered None room left before now some goes = tt
one_goes r turns ops m n entered (Some text) room left before now some goes =
    let c : Course = course_within room entered text in
    goes_told r turns _ (run_on whole_kernel ops (left - 1) c n) before now
    (subst (λ (x : Run). Goes r turns x (run_on whole_kernel ops (left - 1) c n) before now) (sym (run_next ops left c m some)) (goes c refl))

-- what is left of a run on a machine, with so many turns
abbrev pub left_of : Plain → (turns : ℕ) → (entered : Bool) → Machine ℕ ℕ → (room : ℕ) → Option (List ℕ) → Option Run
left_of arith turns entered m room text = option_map (λ text. run_on whole_kernel (ops_of arith) turns (course_within room entered text) m) text

pub one_passed : (turns : ℕ) (s n : StateView Plain ℕ ℕ) (entered : Bool) (text : Option (List ℕ)) (room left : ℕ) (before : Output) → 0 < left → n.arith ≡ s.arith
    → outcome_of (ops_of s.arith) (step whole_kernel) s.machine [] ≡ Ok (Went, n.machine)
    → GoesFrom (Ok tt) turns (left_of s.arith left entered s.machine room text) (left_of n.arith (left - 1) entered n.machine room text) before before
one_passed turns s n entered text room left before some same told =
    same_rest (Ok tt) turns (left_of s.arith left entered s.machine room text) (λ (p : Plain). left_of p (left - 1) entered n.machine room text) s.arith n.arith before before same
    (one_goes (Ok tt) turns (ops_of s.arith) s.machine n.machine entered text room left before before some
    (λ c e. subst (λ (o : Result (Effect × Machine ℕ ℕ) Fault). Goes (Ok tt) turns (after_instruction (ops_of s.arith) (run_on whole_kernel (ops_of s.arith) (left - 1)) c s.machine o) (run_on whole_kernel (ops_of s.arith) (left - 1) c n.machine) before before) (sym told)
    (stays turns (run_on whole_kernel (ops_of s.arith) (left - 1) c n.machine) before)))

pub one_emitted : (r : Result (Unit {0}) RunEnd) (turns byte : ℕ) (s n : StateView Plain ℕ ℕ) (entered : Bool) (text : Option (List ℕ)) (room left : ℕ) (before now : Output) → 0 < left → n.arith ≡ s.arith
    → outcome_of (ops_of s.arith) (step whole_kernel) s.machine [] ≡ Ok (Emit byte, n.machine) → PutsPiece r before now (byte ∷ [])
    → GoesFrom r turns (left_of s.arith left entered s.machine room text) (left_of n.arith (left - 1) entered n.machine room text) before now
one_emitted r turns byte s n entered text room left before now some same told piece =
    same_rest r turns (left_of s.arith left entered s.machine room text) (λ (p : Plain). left_of p (left - 1) entered n.machine room text) s.arith n.arith before now (on_ok r same)
    (one_goes r turns (ops_of s.arith) s.machine n.machine entered text room left before now some
    (λ c e. subst (λ (o : Result (Effect × Machine ℕ ℕ) Fault). Goes r turns (after_instruction (ops_of s.arith) (run_on whole_kernel (ops_of s.arith) (left - 1)) c s.machine o) (run_on whole_kernel (ops_of s.arith) (left - 1) c n.machine) before now) (sym told)
    (after_piece r turns (byte ∷ []) (run_on whole_kernel (ops_of s.arith) (left - 1) c n.machine) before now piece)))

pub one_halted : (turns : ℕ) (s : StateView Plain ℕ ℕ) (n : Machine ℕ ℕ) (entered : Bool) (text : Option (List ℕ)) (room left : ℕ) (next : Option Run) (before : Output) → 0 < left
    → outcome_of (ops_of s.arith) (step whole_kernel) s.machine [] ≡ Ok (Halt, n)
    → GoesFrom (Err Bye) turns (left_of s.arith left entered s.machine room text) next before before
one_halted turns s n entered None room left next before some told = tt
one_halted turns s n entered (Some text) room left next before some told =
    let c : Course = course_within room entered text in
    let rest : Rest ℕ ℕ = run_on whole_kernel (ops_of s.arith) (left - 1) in
    subst (λ (x : Run). Goes (Err Bye) turns x x before before) (sym (run_next (ops_of s.arith) left c s.machine some ∙ ap (after_instruction (ops_of s.arith) rest c s.machine) told)) (refl, puts_none before)

pub one_thrown : (r : Result (Unit {0}) RunEnd) (turns : ℕ) (code : ℤ) (s n : StateView Plain ℕ ℕ) (entered : Bool) (text : Option (List ℕ)) (room left : ℕ) (before now : Output) → 0 < left → OnOk r (n.arith ≡ s.arith)
    → outcome_of (ops_of s.arith) (step whole_kernel) s.machine [] ≡ Err (Throw code)
    → ((rest : Rest ℕ ℕ) (c : Course) → c.entered ≡ entered → Goes r turns (after_fault (ops_of s.arith) rest c s.machine (Throw code)) (rest c n.machine) before now)
    → GoesFrom r turns (left_of s.arith left entered s.machine room text) (left_of n.arith (left - 1) entered n.machine room text) before now
one_thrown r turns code s n entered text room left before now some same told goes =
    same_rest r turns (left_of s.arith left entered s.machine room text) (λ (p : Plain). left_of p (left - 1) entered n.machine room text) s.arith n.arith before now same
    (one_goes r turns (ops_of s.arith) s.machine n.machine entered text room left before now some
    (λ c e. subst (λ (o : Result (Effect × Machine ℕ ℕ) Fault). Goes r turns (after_instruction (ops_of s.arith) (run_on whole_kernel (ops_of s.arith) (left - 1)) c s.machine o) (run_on whole_kernel (ops_of s.arith) (left - 1) c n.machine) before now) (sym told)
    (goes (run_on whole_kernel (ops_of s.arith) (left - 1)) c e)))

-- what is left at a wait
abbrev pub waiting_of : Plain → (turns : ℕ) → (entered : Bool) → Machine ℕ ℕ → (room : ℕ) → Option (List ℕ) → Option Run
waiting_of arith turns entered m room text = option_map (λ text. at_wait (ops_of arith) (run_on whole_kernel (ops_of arith) turns) (course_within room entered text).lines (course_within room entered text) m) text

waits_there : (r : Result (Unit {0}) RunEnd) (turns : ℕ) (s : StateView Plain ℕ ℕ) (n : Machine ℕ ℕ) (entered : Bool) (text : Option (List ℕ)) (room left : ℕ) (next : Option Run) (before now : Output) → 0 < left
    → outcome_of (ops_of s.arith) (step whole_kernel) s.machine [] ≡ Ok (Want, n)
    → GoesFrom r turns (waiting_of s.arith (left - 1) entered n room text) next before now → GoesFrom r turns (left_of s.arith left entered s.machine room text) next before now
waits_there r turns s n entered None room left next before now some told h = tt
waits_there r turns s n entered (Some text) room left next before now some told h =
    let c : Course = course_within room entered text in
    let rest : Rest ℕ ℕ = run_on whole_kernel (ops_of s.arith) (left - 1) in
    subst (λ (x : Run). GoesTo r turns x next before now) (sym (run_next (ops_of s.arith) left c s.machine some ∙ ap (after_instruction (ops_of s.arith) rest c s.machine) told)) h

pub one_waits : (r : Result (Unit {0}) RunEnd) (turns : ℕ) (s n : StateView Plain ℕ ℕ) (entered : Bool) (text : Option (List ℕ)) (room left : ℕ) (next : Option Run) (before now : Output) → 0 < left → n.arith ≡ s.arith
    → outcome_of (ops_of s.arith) (step whole_kernel) s.machine [] ≡ Ok (Want, n.machine)
    → GoesFrom r turns (waiting_of n.arith (left - 1) entered n.machine room text) next before now → GoesFrom r turns (left_of s.arith left entered s.machine room text) next before now
one_waits r turns s n entered text room left next before now some same told h =
    waits_there r turns s n.machine entered text room left next before now some told
    (subst (λ (p : Plain). GoesFrom r turns (waiting_of p (left - 1) entered n.machine room text) next before now) same h)

-- one call behind others
pub goes_nowhere : (turns : ℕ) (told : Option Run) (before : Output) → GoesFrom (Ok tt) turns told told before before
goes_nowhere turns None before = tt
goes_nowhere turns (Some run) before = stays turns run before

writes_on : (end : RunEnd) (first second third : Output) (all bytes : List ℕ) → (IsRefusal end → ⊥) → PutsButRest first second all bytes → PutsAs end second third bytes → PutsAs end first third all
writes_on Bye first second third all bytes n h k = puts_on first second third all bytes [] h k
writes_on (Thrown code) first second third all bytes n h k = puts_on first second third all bytes [] h k
writes_on (Spent taken) first second third all bytes n h k = puts_on first second third all bytes [] h k
writes_on InputTooLong first second third all bytes n h k = puts_on first second third all bytes [] h k
writes_on ReadFault first second third all bytes n h k = front_on first second third all bytes h k
writes_on WriteFault first second third all bytes n h k = lost_on first second third all bytes h k
writes_on PairNotAllowed first second third all bytes n h k = absurd (n tt)
writes_on (MadeFor pair) first second third all bytes n h k = absurd (n tt)
writes_on NoMemory first second third all bytes n h k = absurd (n tt)

goes_further : (r : Result (Unit {0}) RunEnd) (turns : ℕ) (a b : Run) (c : Option Run) (first second third : Output) → IfErr r (λ end. IsRefusal end → ⊥)
    → Goes (Ok tt) turns a b first second → GoesTo r turns b c second third → GoesTo r turns a c first third
goes_further (Ok x) turns a b None first second third n h k = absurd k
goes_further (Ok x) turns a b (Some c) first second third n h k = (h.0 ∙ k.0, puts_on first second third a.output b.output c.output h.1 k.1)
goes_further (Err end) turns a b c first second third n h k =
    (subst (λ (t : ModelEnd). EndsAs end turns t) (sym h.0) k.0, writes_on end first second third a.output b.output n h.1 k.1)

pub goes_on : (r : Result (Unit {0}) RunEnd) (turns : ℕ) (a b c : Option Run) (first second third : Output) → IfErr r (λ end. IsRefusal end → ⊥)
    → GoesFrom (Ok tt) turns a b first second → GoesFrom r turns b c second third → GoesFrom r turns a c first third
goes_on r turns None b c first second third n h k = tt
goes_on r turns (Some a) None c first second third n h k = absurd h
goes_on r turns (Some a) (Some b) c first second third n h k = goes_further r turns a b c first second third n h k

-- the end of a run
pub ended_ends : (end : RunEnd) (turns : ℕ) (told rest : Option Run) (before now : Output) → GoesFrom (Err end) turns told rest before now → IfSome told (λ told. EndsAs end turns told.end)
ended_ends end turns None rest before now h = tt
ended_ends end turns (Some run) rest before now h = h.0

pub ended_writes : (end : RunEnd) (turns : ℕ) (told rest : Option Run) (before now : Output) → GoesFrom (Err end) turns told rest before now → IfSome told (λ told. PutsAs end before now told.output)
ended_writes end turns None rest before now h = tt
ended_writes end turns (Some run) rest before now h = h.1

nothing_left : (arith : Plain) (left : ℕ) (c : Course) (m : Machine ℕ ℕ) → left ≤ 0 → run_on whole_kernel (ops_of arith) left c m ≡ ends ModelSpent
nothing_left a zero c m h = refl
nothing_left a (suc left) c m h = absurd (omega arith)

pub spent_ends : (turns taken : ℕ) (told : Option Run) (a : Plain) (left : ℕ) (entered : Bool) (m : Machine ℕ ℕ) (room : ℕ) (text : Option (List ℕ)) (before now : Output) → left ≤ 0 → taken ≡ turns
    → GoesFrom (Ok tt) turns told (left_of a left entered m room text) before now → IfSome told (λ told. EndsAs (Spent taken) turns told.end)
spent_ends turns taken None a left entered m room text before now none same h = tt
spent_ends turns taken (Some run) a left entered m room None before now none same h = absurd h
spent_ends turns taken (Some run) a left entered m room (Some text) before now none same h =
    (h.0 ∙ ap (λ (x : Run). x.end) (nothing_left a left (course_within room entered text) m none), same)

pub spent_writes : (turns taken : ℕ) (told : Option Run) (a : Plain) (left : ℕ) (entered : Bool) (m : Machine ℕ ℕ) (room : ℕ) (text : Option (List ℕ)) (before now : Output) → left ≤ 0
    → GoesFrom (Ok tt) turns told (left_of a left entered m room text) before now → IfSome told (λ told. PutsAs (Spent taken) before now told.output)
spent_writes turns taken None a left entered m room text before now none h = tt
spent_writes turns taken (Some run) a left entered m room None before now none h = absurd h
spent_writes turns taken (Some run) a left entered m room (Some text) before now none h =
    (subst (λ (x : Run). PutsButRest before now run.output x.output) (nothing_left a left (course_within room entered text) m none) h.1)

-- what waited was written, and nothing else was put
waited_same : (turns : ℕ) (told : Option Run) (first second : Output) → Puts first second [] → GoesFrom (Ok tt) turns told told first second
waited_same turns None first second h = tt
waited_same turns (Some run) first second h = (refl, puts_front first second [] run.output h)

pub waited_on : (r : Result (Unit {0}) RunEnd) (turns : ℕ) (told rest : Option Run) (first second third : Output) → IfErr r (λ end. IsRefusal end → ⊥) → Puts first second [] → GoesFrom r turns told rest second third → GoesFrom r turns told rest first third
waited_on r turns told rest first second third n h k = goes_on r turns told told rest first second third n (waited_same turns told first second h) k

pub waited_failed : (end : RunEnd) (turns : ℕ) (told rest : Option Run) (first second : Output) → PutsPiece (Err end) first second [] → GoesFrom (Err end) turns told rest first second
waited_failed end turns None rest first second h = tt
waited_failed end turns (Some run) rest first second h =
    subst (λ (e : RunEnd). Goes (Err e) turns run run first second) (sym h.0) (tt, lost_more first second [] run.output h.1)
