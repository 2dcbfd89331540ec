-- How a run goes on with only the bytes that were taken, call by call.
use Rattle.std.proofs.Common.{◌≡◌, inl, inr, ℕ, ℤ, ◌+◌, ◌-◌, ◌<◌, Bool, true, false, List, [], ◌∷◌, ◌++◌, length, Option, None, Some, Result, Ok, Err, IfSome, OnOk, refl, sym, ◌∙◌, ap, subst, arith, append_assoc, length-append}
use Rattle.std.specs.Prelude.{IsSomeAnd, IsErrOf}
use Rattle.std.proofs.lemmas.Bool.{cases_Bool}
use Rattle.mi_model.specs.declared.Fault.{Fault}
use Rattle.mi_model.specs.declared.Fault.TheVariants.{Throw}
use Rattle.mi_model.specs.declared.Effect.{Effect}
use Rattle.mi_model.specs.declared.Effect.TheVariants.{Went, Emit, Want}
use Rattle.mi_model.specs.Ops.{Ops}
use Rattle.mi_model.specs.Machine.{Machine}
use Rattle.mi_model.specs.Outcome.{outcome_of}
use Rattle.mi_model.specs.Kernel.{whole_kernel}
use Rattle.mi_model.specs.Table.{step}
use Rattle.mi_model.specs.Input.{give_line}
use Rattle.mi_model.specs.Lines.{lines_of}
use Rattle.mi_model.specs.Run.{Run, Course, Rest, ends, whole_lines, after_fault, after_line, at_wait, after_instruction, run_on}
use Rattle.mi_model.specs.Run.RunEnd.{InputTooLong as ModelTooLong}
use Rattle.mi_text.specs.Ending.{without_last_cr}
use Rattle.mi_arith.specs.declared.plain.Plain.{Plain}
use Rattle.mi_region.specs.View.{StateView}
use Rattle.mi_machine.specs.Steps.{ops_of}
use Rattle.mi_outside.specs.Puts.{Output, PutsButRest, Puts}
use Rattle.mi_outside.proofs.Putting.{puts_nothing, puts_none, puts_on, puts_front}
use Rattle.mi_reloc.specs.declared.ending.RunEnd.{RunEnd}
use Rattle.mi_reloc.specs.declared.ending.RunEnd.TheVariants.{Bye, Thrown, Spent, ReadFault, WriteFault, InputTooLong, PairNotAllowed, MadeFor, NoMemory}
use Rattle.mi_run.specs.declared.lines.Next.TheVariants.{Line}
use Rattle.mi_run.specs.Reading.{Reading, TakesLine, TakesPart, TakesNext}
use Rattle.mi_run.specs.Course.{PutsPiece, Goes}
use Rattle.mi_run.specs.Waits.{input_taken}
use Rattle.mi_run.specs.Taking.{course_taken, TakesOn, StopsAt, StopsAs, TakesFrom, GoesTaking}
use Rattle.mi_run.proofs.Pieces.{on_ok}
use Rattle.mi_run.proofs.Texts.{cut, whole_cut, whole_none}
use Rattle.mi_run.proofs.CourseLemmas.{stays, after_piece, at_line, run_next, same_outcome}

-- the run is told the same of both, and the one has put what the other has not
abbrev Follows : (told rest : Run) → Output → Output → Type 0
Follows told rest before now = (told.end ≡ rest.end) × PutsButRest before now told.output rest.output

-- one call behind another
takes_then : (text middle left : List ℕ) (r0 r1 r2 : ℕ) (f g h : List ℕ → Run) (w0 w1 w2 : Output) → TakesOn text middle r0 r1 f g w0 w1 → TakesOn middle left r1 r2 g h w1 w2 → TakesOn text left r0 r2 f h w0 w2
takes_then text middle left r0 r1 r2 f g h w0 w1 w2 p q =
    record {
      taken = p.taken ++ q.taken;
      is = p.is ∙ ap (λ (xs : List ℕ). p.taken ++ xs) q.is ∙ sym (append_assoc p.taken q.taken left);
      room_left = omega (arith, p.room_left, q.room_left, length-append p.taken q.taken);
      goes = λ more.
          let k = p.goes (q.taken ++ more) in
          let l = q.goes more in
          let all : Follows (f (p.taken ++ (q.taken ++ more))) (h more) w0 w2 = (k.0 ∙ l.0, puts_on w0 w1 w2 _ _ _ k.1 l.1) in
          subst (λ (xs : List ℕ). Follows (f xs) (h more) w0 w2) (sym (append_assoc p.taken q.taken more)) all;
    }

stops_then : (text middle left : List ℕ) (r0 r1 : ℕ) (f g : List ℕ → Run) (w0 w1 w2 : Output) → TakesOn text middle r0 r1 f g w0 w1 → StopsAt middle left r1 g w1 w2 → StopsAt text left r0 f w0 w2
stops_then text middle left r0 r1 f g w0 w1 w2 p q =
    let k = p.goes q.taken in
    record {
      taken = p.taken ++ q.taken;
      is = p.is ∙ ap (λ (xs : List ℕ). p.taken ++ xs) q.is ∙ sym (append_assoc p.taken q.taken left);
      within = omega (arith, p.room_left, q.within, length-append p.taken q.taken);
      reached = k.0 ∙ q.reached;
      puts = puts_on w0 w1 w2 _ _ [] k.1 q.puts;
    }

both_take : (text middle left : Option (List ℕ)) (r0 r1 r2 : ℕ) (f g h : List ℕ → Run) (w0 w1 w2 : Output)
    → IfSome text (λ x. IsSomeAnd middle (λ y. TakesOn x y r0 r1 f g w0 w1)) → IfSome middle (λ x. IsSomeAnd left (λ y. TakesOn x y r1 r2 g h w1 w2)) → IfSome text (λ x. IsSomeAnd left (λ y. TakesOn x y r0 r2 f h w0 w2))
both_take None middle left r0 r1 r2 f g h w0 w1 w2 p q = tt
both_take (Some x) None left r0 r1 r2 f g h w0 w1 w2 p q = absurd p
both_take (Some x) (Some y) None r0 r1 r2 f g h w0 w1 w2 p q = absurd q
both_take (Some x) (Some y) (Some z) r0 r1 r2 f g h w0 w1 w2 p q = takes_then x y z r0 r1 r2 f g h w0 w1 w2 p q

takes_stops : (text middle left : Option (List ℕ)) (r0 r1 : ℕ) (f g : List ℕ → Run) (w0 w1 w2 : Output)
    → IfSome text (λ x. IsSomeAnd middle (λ y. TakesOn x y r0 r1 f g w0 w1)) → IfSome middle (λ x. IsSomeAnd left (λ y. StopsAt x y r1 g w1 w2)) → IfSome text (λ x. IsSomeAnd left (λ y. StopsAt x y r0 f w0 w2))
takes_stops None middle left r0 r1 f g w0 w1 w2 p q = tt
takes_stops (Some x) None left r0 r1 f g w0 w1 w2 p q = absurd p
takes_stops (Some x) (Some y) None r0 r1 f g w0 w1 w2 p q = absurd q
takes_stops (Some x) (Some y) (Some z) r0 r1 f g w0 w1 w2 p q = stops_then x y z r0 r1 f g w0 w1 w2 p q

-- the end was seen and was not seen
not_ended : {P : Type 0} (b : Bool) → b ≡ true → b ≡ false → P
not_ended b e k = let no : true ≡ false = sym e ∙ k in cc

takes_on : (a b c : Reading) (f g h : List ℕ → Run) (w0 w1 w2 : Output) → TakesFrom a b f g w0 w1 → TakesFrom b c g h w1 w2 → TakesFrom a c f h w0 w2
takes_on a b c f g h w0 w1 w2 p (inl e) = inl e
takes_on a b c f g h w0 w1 w2 (inl e) (inr q) = not_ended b.ended e q.0
takes_on a b c f g h w0 w1 w2 (inr p) (inr q) = inr (p.0, both_take a.text b.text c.text a.room b.room c.room f g h w0 w1 w2 p.1 q.1)

stops_behind : (a b : Reading) (left : Option (List ℕ)) (f g : List ℕ → Run) (w0 w1 w2 : Output) → TakesFrom a b f g w0 w1 → StopsAs ReadFault b left g w1 w2 → StopsAs ReadFault a left f w0 w2
stops_behind a b left f g w0 w1 w2 (inl e) q = not_ended b.ended e q.0
stops_behind a b left f g w0 w1 w2 (inr p) q = (p.0, takes_stops a.text b.text left a.room b.room f g w0 w1 w2 p.1 q.1)

pub stops_on : (end : RunEnd) (a b : Reading) (left : Option (List ℕ)) (f g : List ℕ → Run) (w0 w1 w2 : Output) → TakesFrom a b f g w0 w1 → StopsAs end b left g w1 w2 → StopsAs end a left f w0 w2
stops_on Bye a b left f g w0 w1 w2 p q = tt
stops_on (Thrown code) a b left f g w0 w1 w2 p q = tt
stops_on (Spent taken) a b left f g w0 w1 w2 p q = tt
stops_on InputTooLong a b left f g w0 w1 w2 p q = tt
stops_on ReadFault a b left f g w0 w1 w2 p q = stops_behind a b left f g w0 w1 w2 p q
stops_on WriteFault a b left f g w0 w1 w2 p q = tt
stops_on PairNotAllowed a b left f g w0 w1 w2 p q = tt
stops_on (MadeFor pair) a b left f g w0 w1 w2 p q = tt
stops_on NoMemory a b left f g w0 w1 w2 p q = tt

pub goes_taking : (r : Result (Unit {0}) RunEnd) (a b c : Reading) (left : Option (List ℕ)) (f g h : List ℕ → Run) (w0 w1 w2 : Output) → TakesFrom a b f g w0 w1 → GoesTaking r b c left g h w1 w2 → GoesTaking r a c left f h w0 w2
goes_taking (Ok x) a b c left f g h w0 w1 w2 p q = takes_on a b c f g h w0 w1 w2 p q
goes_taking (Err end) a b c left f g h w0 w1 w2 p q = stops_on end a b left f g w0 w1 w2 p q

-- nothing was read
none_taken : (text : Option (List ℕ)) (room : ℕ) (told rest : List ℕ → Run) (before now : Output) → ((more : List ℕ) → Follows (told more) (rest more) before now)
    → IfSome text (λ x. IsSomeAnd text (λ y. TakesOn x y room room told rest before now))
none_taken None room told rest before now follows = tt
none_taken (Some x) room told rest before now follows = record { taken = []; is = refl; room_left = omega arith; goes = follows }

same_reading : (a : Reading) (told rest : List ℕ → Run) (before now : Output) → ((more : List ℕ) → Follows (told more) (rest more) before now) → TakesFrom a a told rest before now
same_reading a told rest before now follows =
    elim (cases_Bool a.ended) [
      | inl e ↦ inl e
      | inr e ↦ inr (e, none_taken a.text a.room told rest before now follows)
    ]

pub nothing_taken : (a : Reading) (told : List ℕ → Run) (before : Output) → TakesFrom a a told told before before
nothing_taken a told before = same_reading a told told before before (λ more. (refl, puts_nothing before (told more).output (told more).output refl))

same_told : (a : Reading) (f g : List ℕ → Run) (before : Output) → ((more : List ℕ) → f more ≡ g more) → TakesFrom a a f g before before
same_told a f g before same =
    same_reading a f g before before (λ more. (ap (λ (x : Run). x.end) (same more), puts_nothing before (f more).output (g more).output (ap (λ (x : Run). x.output) (same more))))

-- the input didn't fail
pub no_stop : (end : RunEnd) (a : Reading) (left : Option (List ℕ)) (told : List ℕ → Run) (before now : Output) → (end ≡ ReadFault → ⊥) → StopsAs end a left told before now
no_stop Bye a left told before now n = tt
no_stop (Thrown code) a left told before now n = tt
no_stop (Spent taken) a left told before now n = tt
no_stop InputTooLong a left told before now n = tt
no_stop ReadFault a left told before now n = absurd (n refl)
no_stop WriteFault a left told before now n = tt
no_stop PairNotAllowed a left told before now n = tt
no_stop (MadeFor pair) a left told before now n = tt
no_stop NoMemory a left told before now n = tt

no_fault : (r : Result (Unit {0}) RunEnd) (end : RunEnd) → r ≡ Err end → (IsErrOf r ReadFault → ⊥) → end ≡ ReadFault → ⊥
no_fault r end is n e = n (is ∙ ap (λ (x : RunEnd). Err x) e)

-- a call that reads nothing
quiet_taking : (r : Result (Unit {0}) RunEnd) (turns : ℕ) (a : Reading) (left : Option (List ℕ)) (told rest : List ℕ → Run) (before now : Output) → (IsErrOf r ReadFault → ⊥)
    → ((more : List ℕ) → Goes r turns (told more) (rest more) before now) → GoesTaking r a a left told rest before now
quiet_taking (Ok x) turns a left told rest before now n goes = same_reading a told rest before now goes
quiet_taking (Err end) turns a left told rest before now n goes = no_stop end a left told before now (no_fault (Err end) end refl n)

-- the rest is over the same arithmetic
pub rest_taking : (r : Result (Unit {0}) RunEnd) (a b : Reading) (left : Option (List ℕ)) (told : List ℕ → Run) (f : Plain → List ℕ → Run) (p q : Plain) (before now : Output) → OnOk r (q ≡ p)
    → GoesTaking r a b left told (f p) before now → GoesTaking r a b left told (f q) before now
rest_taking (Ok x) a b left told f p q before now e h = subst (λ (y : Plain). TakesFrom a b told (f y) before now) (sym e) h
rest_taking (Err end) a b left told f p q before now e h = h

-- what is left of a run with so many turns, and what is left at a wait, where only these bytes are there
abbrev pub left_with : Plain → (turns : ℕ) → (entered : Bool) → Machine ℕ ℕ → (taken : List ℕ) → Run
left_with arith turns entered m taken = run_on whole_kernel (ops_of arith) turns (course_taken entered taken) m

abbrev pub wait_with : Ops ℕ ℕ → Rest ℕ ℕ → (entered : Bool) → Machine ℕ ℕ → (taken : List ℕ) → Run
wait_with ops rest entered m taken = at_wait ops rest (course_taken entered taken).lines (course_taken entered taken) m

-- an instruction
one_taking : (r : Result (Unit {0}) RunEnd) (turns : ℕ) (s n : StateView Plain ℕ ℕ) (entered : Bool) (a : Reading) (left : Option (List ℕ)) (k : ℕ) (before now : Output) → 0 < k → OnOk r (n.arith ≡ s.arith) → (IsErrOf r ReadFault → ⊥)
    → ((c : Course) → c.entered ≡ entered → Goes r turns (after_instruction (ops_of s.arith) (run_on whole_kernel (ops_of s.arith) (k - 1)) c s.machine (outcome_of (ops_of s.arith) (step whole_kernel) s.machine [])) (run_on whole_kernel (ops_of s.arith) (k - 1) c n.machine) before now)
    → GoesTaking r a a left (left_with s.arith k entered s.machine) (left_with n.arith (k - 1) entered n.machine) before now
one_taking r turns s n entered a left k before now some same quiet goes =
    rest_taking r a a left (left_with s.arith k entered s.machine) (λ (p : Plain). left_with p (k - 1) entered n.machine) s.arith n.arith before now same
    (quiet_taking r turns a left (left_with s.arith k entered s.machine) (left_with s.arith (k - 1) entered n.machine) before now quiet
    (λ more.
    let c : Course = course_taken entered more in
    subst (λ (x : Run). Goes r turns x (run_on whole_kernel (ops_of s.arith) (k - 1) c n.machine) before now) (sym (run_next (ops_of s.arith) k c s.machine some)) (goes c refl)))

ok_reads : {X : Type 0} (x : X) → ◌≡◌ {A = Result X RunEnd} (Ok x) (Err ReadFault) → ⊥
ok_reads x e = cc

pub passed_taking : (s n : StateView Plain ℕ ℕ) (entered : Bool) (a : Reading) (left : Option (List ℕ)) (k : ℕ) (before : Output) → 0 < k → n.arith ≡ s.arith
    → outcome_of (ops_of s.arith) (step whole_kernel) s.machine [] ≡ Ok (Went, n.machine)
    → TakesFrom a a (left_with s.arith k entered s.machine) (left_with n.arith (k - 1) entered n.machine) before before
passed_taking s n entered a left k before some same told =
    let rest : Rest ℕ ℕ = run_on whole_kernel (ops_of s.arith) (k - 1) in
    one_taking (Ok tt) 0 s n entered a left k before before some same (ok_reads tt)
    (λ c e. subst (λ (o : Result (Effect × Machine ℕ ℕ) Fault). Goes (Ok tt) 0 (after_instruction (ops_of s.arith) rest c s.machine o) (rest c n.machine) before before) (sym told) (stays 0 (rest c n.machine) before))

pub emitted_taking : (r : Result (Unit {0}) RunEnd) (byte : ℕ) (s n : StateView Plain ℕ ℕ) (entered : Bool) (a : Reading) (left : Option (List ℕ)) (k : ℕ) (before now : Output) → 0 < k → n.arith ≡ s.arith → (IsErrOf r ReadFault → ⊥)
    → outcome_of (ops_of s.arith) (step whole_kernel) s.machine [] ≡ Ok (Emit byte, n.machine) → PutsPiece r before now (byte ∷ [])
    → GoesTaking r a a left (left_with s.arith k entered s.machine) (left_with n.arith (k - 1) entered n.machine) before now
emitted_taking r byte s n entered a left k before now some same quiet told piece =
    let rest : Rest ℕ ℕ = run_on whole_kernel (ops_of s.arith) (k - 1) in
    one_taking r 0 s n entered a left k before now some (on_ok r same) quiet
    (λ c e. subst (λ (o : Result (Effect × Machine ℕ ℕ) Fault). Goes r 0 (after_instruction (ops_of s.arith) rest c s.machine o) (rest c n.machine) before now) (sym told) (after_piece r 0 (byte ∷ []) (rest c n.machine) before now piece))

pub thrown_taking : (r : Result (Unit {0}) RunEnd) (turns : ℕ) (code : ℤ) (s n : StateView Plain ℕ ℕ) (entered : Bool) (a : Reading) (left : Option (List ℕ)) (k : ℕ) (before now : Output) → 0 < k → OnOk r (n.arith ≡ s.arith) → (IsErrOf r ReadFault → ⊥)
    → outcome_of (ops_of s.arith) (step whole_kernel) s.machine [] ≡ Err (Throw code)
    → ((rest : Rest ℕ ℕ) (c : Course) → c.entered ≡ entered → Goes r turns (after_fault (ops_of s.arith) rest c s.machine (Throw code)) (rest c n.machine) before now)
    → GoesTaking r a a left (left_with s.arith k entered s.machine) (left_with n.arith (k - 1) entered n.machine) before now
thrown_taking r turns code s n entered a left k before now some same quiet told goes =
    let rest : Rest ℕ ℕ = run_on whole_kernel (ops_of s.arith) (k - 1) in
    one_taking r turns s n entered a left k before now some same quiet
    (λ c e. subst (λ (o : Result (Effect × Machine ℕ ℕ) Fault). Goes r turns (after_instruction (ops_of s.arith) rest c s.machine o) (rest c n.machine) before now) (sym told) (goes rest c e))

-- an instruction that comes to a wait, and the answer at that
pub wanted_taking : (r : Result (Unit {0}) RunEnd) (s n : StateView Plain ℕ ℕ) (entered : Bool) (a b : Reading) (left : Option (List ℕ)) (k : ℕ) (rest : List ℕ → Run) (before now : Output) → 0 < k → n.arith ≡ s.arith
    → outcome_of (ops_of s.arith) (step whole_kernel) s.machine [] ≡ Ok (Want, n.machine)
    → GoesTaking r a b left (wait_with (ops_of n.arith) (run_on whole_kernel (ops_of n.arith) (k - 1)) entered n.machine) rest before now
    → GoesTaking r a b left (left_with s.arith k entered s.machine) rest before now
wanted_taking r s n entered a b left k rest before now some same told h =
    let wait : Plain → List ℕ → Run = λ p. wait_with (ops_of p) (run_on whole_kernel (ops_of p) (k - 1)) entered n.machine in
    goes_taking r a a b left (left_with s.arith k entered s.machine) (wait n.arith) rest before before now
    (same_told a (left_with s.arith k entered s.machine) (wait n.arith) before
    (λ more.
    let c : Course = course_taken entered more in
    run_next (ops_of s.arith) k c s.machine some
    ∙ ap (after_instruction (ops_of s.arith) (run_on whole_kernel (ops_of s.arith) (k - 1)) c s.machine) told
    ∙ ap (λ (p : Plain). wait p more) (sym same)))
    h

-- what waited was written before
pub waited_taking : (r : Result (Unit {0}) RunEnd) (a b : Reading) (left : Option (List ℕ)) (told rest : List ℕ → Run) (first second third : Output) → Puts first second [] → GoesTaking r a b left told rest second third → GoesTaking r a b left told rest first third
waited_taking r a b left told rest first second third p h =
    goes_taking r a a b left told told rest first second third (same_reading a told told first second (λ more. (refl, puts_front first second [] (told more).output p))) h

-- a line that was taken
line_follows : (ops : Ops ℕ ℕ) (rest : Rest ℕ ℕ) (m n : Machine ℕ ℕ) (entered : Bool) (text left : List ℕ) (old_room new_room : ℕ) (kept : List ℕ) (before now : Output) → TakesLine text left old_room new_room kept
    → ((c : Course) → c.entered ≡ entered → Follows (after_line ops rest c m (outcome_of ops (give_line kept) m [])) (rest c n) before now)
    → TakesOn text left old_room new_room (wait_with ops rest entered m) (λ more. rest (course_taken entered more) n) before now
line_follows ops rest m n entered text left old_room new_room kept before now h goes =
    record {
      taken = h.body ++ 10 ∷ [];
      is = h.is ∙ sym (append_assoc h.body (10 ∷ []) left);
      room_left = omega (arith, h.room_left, length-append h.body (10 ∷ []));
      goes = λ more.
          let c : Course = course_taken entered more in
          let lines : lines_of (whole_lines (h.body ++ 10 ∷ more)) ≡ without_last_cr h.body ∷ lines_of (whole_lines more) = ap lines_of (whole_cut h.body more) ∙ cut h.body (whole_lines more) h.none in
          let run : wait_with ops rest entered m (h.body ++ 10 ∷ [] ++ more) ≡ after_line ops rest c m (outcome_of ops (give_line kept) m []) =
          ap (wait_with ops rest entered m) (append_assoc h.body (10 ∷ []) more)
          ∙ at_line ops rest m (input_taken (h.body ++ 10 ∷ more)) (input_taken more) entered (without_last_cr h.body) lines refl
          ∙ ap (after_line ops rest c m) (sym (same_outcome ops m kept (without_last_cr h.body) h.same)) in
          subst (λ (x : Run). Follows x (rest c n) before now) (sym run) (goes c refl);
    }

line_follows_of : (ops : Ops ℕ ℕ) (rest : Rest ℕ ℕ) (m n : Machine ℕ ℕ) (entered : Bool) (text left : Option (List ℕ)) (old_room new_room : ℕ) (kept : List ℕ) (before now : Output) → IfSome text (λ x. IsSomeAnd left (λ y. TakesLine x y old_room new_room kept))
    → ((c : Course) → c.entered ≡ entered → Follows (after_line ops rest c m (outcome_of ops (give_line kept) m [])) (rest c n) before now)
    → IfSome text (λ x. IsSomeAnd left (λ y. TakesOn x y old_room new_room (wait_with ops rest entered m) (λ more. rest (course_taken entered more) n) before now))
line_follows_of ops rest m n entered None left old_room new_room kept before now h goes = tt
line_follows_of ops rest m n entered (Some x) None old_room new_room kept before now h goes = absurd h
line_follows_of ops rest m n entered (Some x) (Some y) old_room new_room kept before now h goes = line_follows ops rest m n entered x y old_room new_room kept before now h goes

pub line_taking : (r : Result (Unit {0}) RunEnd) (turns : ℕ) (ops : Ops ℕ ℕ) (rest : Rest ℕ ℕ) (m n : Machine ℕ ℕ) (entered : Bool) (a b : Reading) (left : Option (List ℕ)) (kept : List ℕ) (before now : Output) → (IsErrOf r ReadFault → ⊥)
    → TakesNext Line a b kept
    → ((c : Course) → c.entered ≡ entered → Goes r turns (after_line ops rest c m (outcome_of ops (give_line kept) m [])) (rest c n) before now)
    → GoesTaking r a b left (wait_with ops rest entered m) (λ more. rest (course_taken entered more) n) before now
line_taking (Err end) turns ops rest m n entered a b left kept before now quiet h goes = no_stop end a left (wait_with ops rest entered m) before now (no_fault (Err end) end refl quiet)
line_taking (Ok x) turns ops rest m n entered a b left kept before now quiet (inl e) goes = inl e
line_taking (Ok x) turns ops rest m n entered a b left kept before now quiet (inr h) goes = inr (h.0, line_follows_of ops rest m n entered a.text b.text a.room b.room kept before now h.1 goes)

-- the end was seen
pub end_taking : (r : Result (Unit {0}) RunEnd) (a b : Reading) (left : Option (List ℕ)) (told rest : List ℕ → Run) (before now : Output) → (IsErrOf r ReadFault → ⊥) → b.ended ≡ true → GoesTaking r a b left told rest before now
end_taking (Ok x) a b left told rest before now quiet e = inl e
end_taking (Err end) a b left told rest before now quiet e = no_stop end a left told before now (no_fault (Err end) end refl quiet)

-- the input failed
part_stops : (ops : Ops ℕ ℕ) (rest : Rest ℕ ℕ) (m : Machine ℕ ℕ) (entered : Bool) (text left : List ℕ) (room : ℕ) (before : Output) → TakesPart text left room → StopsAt text left room (wait_with ops rest entered m) before before
part_stops ops rest m entered text left room before h =
    let run : wait_with ops rest entered m h.body ≡ ends ModelTooLong = ap (λ (xs : List ℕ). at_wait ops rest (lines_of xs) (course_taken entered h.body) m) (whole_none h.body h.none) in
    record {
      taken = h.body;
      is = h.is;
      within = h.within;
      reached = ap (λ (x : Run). x.end) run;
      puts = subst (λ (x : Run). Puts before before x.output) (sym run) (puts_none before);
    }

part_stops_of : (ops : Ops ℕ ℕ) (rest : Rest ℕ ℕ) (m : Machine ℕ ℕ) (entered : Bool) (text left : Option (List ℕ)) (room : ℕ) (before : Output) → IfSome text (λ x. IsSomeAnd left (λ y. TakesPart x y room))
    → IfSome text (λ x. IsSomeAnd left (λ y. StopsAt x y room (wait_with ops rest entered m) before before))
part_stops_of ops rest m entered None left room before h = tt
part_stops_of ops rest m entered (Some x) None room before h = absurd h
part_stops_of ops rest m entered (Some x) (Some y) room before h = part_stops ops rest m entered x y room before h

pub failed_taking : (ops : Ops ℕ ℕ) (rest : Rest ℕ ℕ) (m : Machine ℕ ℕ) (entered : Bool) (a : Reading) (left : Option (List ℕ)) (before : Output)
    → (a.ended ≡ false) × IfSome a.text (λ x. IsSomeAnd left (λ y. TakesPart x y a.room)) → StopsAs ReadFault a left (wait_with ops rest entered m) before before
failed_taking ops rest m entered a left before h = (h.0, part_stops_of ops rest m entered a.text left a.room before h.1)
