-- One step more of a build, lines one after another, and where it stops by a failure.
use Rattle.std.proofs.Common.{Bool, ℕ, ◌≡◌, zero, suc, ◌+◌, ◌-◌, ◌<◌, List, [], ◌∷◌, ◌++◌, Option, None, Some, Result, Ok, Err, refl, ap, sym, subst, ◌∙◌, arith, append_assoc, length, get_or, drop, drop-cons}
use Rattle.mi_model.specs.declared.Fault.{Fault}
use Rattle.mi_model.specs.declared.Fault.TheVariants.{Throw, Refused as IsRefused}
use Rattle.mi_model.specs.declared.Token.{Token}
use Rattle.mi_model.specs.Ops.{Ops}
use Rattle.mi_model.specs.Machine.{Machine}
use Rattle.mi_model.specs.Outcome.{outcome_of}
use Rattle.mi_model.specs.Kernel.{whole_kernel}
use Rattle.mi_model.specs.Table.{step}
use Rattle.mi_model.specs.Lines.{NumberedLine, lines_of, numbered, lines_of_all}
use Rattle.mi_model.specs.Build.{Progress, Stopped, Doing, BuildEnd, number_at, end_failed, after_step, taking, at_wait, advanced, emitted, emitted_at_wait, emitted_by, on_wait, emitted_on_wait, line_given, line_emitted, lines_given, lines_emitted, end_of}
use Rattle.mi_model.specs.Build.Stopped.{Wants, Halts, Fails, RunsOut}
use Rattle.mi_machine.specs.Engine.{Engine}
use Rattle.mi_reloc.specs.declared.building.BuildFault.{BuildFault}
use Rattle.mi_reloc.specs.declared.building.BuildFault.TheVariants.{Thrown, Spent as OutOfTurns, Step, NoEntry, Cell, WriteFault, NoMemory}
use Rattle.mi_build.specs.declared.course.Position.{Position}
use Rattle.mi_build.specs.declared.course.Pause.{Pause}
use Rattle.mi_build.specs.declared.steps.Failure.{Failure}
use Rattle.mi_build.specs.declared.steps.Failure.TheVariants as failures
use Rattle.mi_build.specs.Course.{Stops, IsFailure, fault_at, progress_of}
use Rattle.mi_build.specs.Faults.{fault_of, fault_of_end, IsTold}

pub advanced_next : {C B : Type 0} (ops : Ops C B) (ended : Bool) (left : ℕ) (p : Progress C B) → 0 < left
    → advanced whole_kernel ops ended left p ≡ after_step (advanced whole_kernel ops ended (left - 1)) (λ q. at_wait ops ended (advanced whole_kernel ops ended (left - 1)) q) (taking ops (left - 1) p) (outcome_of ops (step whole_kernel) p.machine [])
advanced_next ops ended zero p h = absurd (omega arith)
advanced_next ops ended (suc left) p h = let e : left ≡ suc left - 1 = omega arith in
    ap (λ (k : ℕ). after_step (advanced whole_kernel ops ended k) (λ q. at_wait ops ended (advanced whole_kernel ops ended k) q) (taking ops k p) (outcome_of ops (step whole_kernel) p.machine [])) e

pub emitted_next : {C B : Type 0} (ops : Ops C B) (ended : Bool) (left : ℕ) (m : Machine C B) → 0 < left
    → emitted whole_kernel ops ended left m ≡ emitted_by (emitted whole_kernel ops ended (left - 1)) (λ n. emitted_at_wait ops ended (emitted whole_kernel ops ended (left - 1)) n) (outcome_of ops (step whole_kernel) m [])
emitted_next ops ended zero m h = absurd (omega arith)
emitted_next ops ended (suc left) m h = let e : left ≡ suc left - 1 = omega arith in
    ap (λ (k : ℕ). emitted_by (emitted whole_kernel ops ended k) (λ n. emitted_at_wait ops ended (emitted whole_kernel ops ended k) n) (outcome_of ops (step whole_kernel) m [])) e

-- a fault that is told stays one
pub fault_on_wait : {C B : Type 0} (s : Stopped C B) (rest : Progress C B → Stopped C B) (e : BuildFault) → fault_of s ≡ Some e → fault_of (on_wait s rest) ≡ Some e
fault_on_wait (Wants p) rest e h = cc
fault_on_wait (Halts p) rest e h = cc
fault_on_wait (Fails f doing p) rest e h = h
fault_on_wait (RunsOut p) rest e h = h

pub fault_emits : {C B : Type 0} (s : Stopped C B) (rest : Progress C B → List ℕ) (e : BuildFault) → fault_of s ≡ Some e → emitted_on_wait s rest ≡ []
fault_emits (Wants p) rest e h = cc
fault_emits (Halts p) rest e h = cc
fault_emits (Fails f doing p) rest e h = refl
fault_emits (RunsOut p) rest e h = refl

pub told_on_wait : {C B : Type 0} (s : Stopped C B) (rest : Progress C B → Stopped C B) (e : BuildFault) → IsTold e (fault_of s) → IsTold e (fault_of (on_wait s rest))
told_on_wait s rest (Thrown code file line) h = fault_on_wait s rest _ h
told_on_wait s rest (OutOfTurns turns) h = fault_on_wait s rest _ h
told_on_wait s rest (Step number offset tag a b why file line) h = fault_on_wait s rest _ h
told_on_wait s rest NoEntry h = fault_on_wait s rest _ h
told_on_wait s rest (Cell offset found) h = h
told_on_wait s rest WriteFault h = tt
told_on_wait s rest NoMemory h = tt

-- a fault that is told is the end of its build
pub fault_ends : {C B : Type 0} (ops : Ops C B) (texts : List (List ℕ)) (entry : Option (List ℕ)) (s : Stopped C B) (e : BuildFault) → fault_of s ≡ Some e → fault_of_end (end_of ops texts entry s) ≡ Some e
fault_ends ops texts entry (Wants p) e h = cc
fault_ends ops texts entry (Halts p) e h = cc
fault_ends ops texts entry (Fails f doing p) e h = h
fault_ends ops texts entry (RunsOut p) e h = h

pub told_ends : {C B : Type 0} (ops : Ops C B) (texts : List (List ℕ)) (entry : Option (List ℕ)) (s : Stopped C B) (e : BuildFault) → IsTold e (fault_of s) → IsTold e (fault_of_end (end_of ops texts entry s))
told_ends ops texts entry s (Thrown code file line) h = fault_ends ops texts entry s _ h
told_ends ops texts entry s (OutOfTurns turns) h = fault_ends ops texts entry s _ h
told_ends ops texts entry s (Step number offset tag a b why file line) h = fault_ends ops texts entry s _ h
told_ends ops texts entry s NoEntry h = fault_ends ops texts entry s _ h
told_ends ops texts entry s (Cell offset found) h = h
told_ends ops texts entry s WriteFault h = tt
told_ends ops texts entry s NoMemory h = tt

-- a failure of an action is the fault at which the build ends
pub failure_ends : {X C B : Type 0} (failure : Failure) (told : Result X Fault) (end : Result X Fault → BuildEnd C B) (doing : Doing) (p : Progress C B) (at : Position)
    → ((f : Fault) → end (Err f) ≡ end_failed f doing p) → p.file ≡ at.file → p.line ≡ at.line
    → IsFailure failure p.last told → IsTold (fault_at failure at (number_at doing p)) (fault_of_end (end told))
failure_ends {X} (failures.Thrown code) told end doing p at ends file line h =
    subst (λ (t : Result X Fault). fault_of_end (end t) ≡ Some (Thrown code at.file at.line)) (sym h)
    (ap fault_of_end (ends (Throw code)) ∙ ap (λ (k : ℕ). Some (Thrown code k p.line)) file ∙ ap (λ (k : ℕ). Some (Thrown code at.file k)) line)
failure_ends {X} (failures.Refused token a b why) told end doing p at ends file line h =
    let step = λ (t : Token). λ (k l : ℕ). Step (number_at doing p) t.offset t.tag a b why k l in
    subst (λ (t : Result X Fault). fault_of_end (end t) ≡ Some (step token at.file at.line)) (sym h.0)
    (ap fault_of_end (ends (IsRefused a b why)) ∙ ap (λ (k : ℕ). Some (step p.last k p.line)) file ∙ ap (λ (k : ℕ). Some (step p.last at.file k)) line
    ∙ ap (λ (t : Token). Some (step t at.file at.line)) (sym h.1))
failure_ends failures.NoMemory told end doing p at ends file line h = tt

pub failure_stops : {X C B : Type 0} (failure : Failure) (told : Result X Fault) (stop : Result X Fault → Stopped C B) (doing : Doing) (p : Progress C B) (at : Position)
    → ((f : Fault) → stop (Err f) ≡ Fails f doing p) → p.file ≡ at.file → p.line ≡ at.line
    → IsFailure failure p.last told → IsTold (fault_at failure at (number_at doing p)) (fault_of (stop told))
failure_stops {X} (failures.Thrown code) told stop doing p at stops file line h =
    subst (λ (t : Result X Fault). fault_of (stop t) ≡ Some (Thrown code at.file at.line)) (sym h)
    (ap fault_of (stops (Throw code)) ∙ ap (λ (k : ℕ). Some (Thrown code k p.line)) file ∙ ap (λ (k : ℕ). Some (Thrown code at.file k)) line)
failure_stops {X} (failures.Refused token a b why) told stop doing p at stops file line h =
    let step = λ (t : Token). λ (k l : ℕ). Step (number_at doing p) t.offset t.tag a b why k l in
    subst (λ (t : Result X Fault). fault_of (stop t) ≡ Some (step token at.file at.line)) (sym h.0)
    (ap fault_of (stops (IsRefused a b why)) ∙ ap (λ (k : ℕ). Some (step p.last k p.line)) file ∙ ap (λ (k : ℕ). Some (step p.last at.file k)) line
    ∙ ap (λ (t : Token). Some (step t at.file at.line)) (sym h.1))
failure_stops failures.NoMemory told stop doing p at stops file line h = tt

-- what follows two waits
on_wait_again : {C B : Type 0} (s : Stopped C B) (f g h : Progress C B → Stopped C B) → ((q : Progress C B) → h q ≡ on_wait (f q) g) → on_wait s h ≡ on_wait (on_wait s f) g
on_wait_again (Wants q) f g h e = e q
on_wait_again (Halts q) f g h e = refl
on_wait_again (Fails k doing q) f g h e = refl
on_wait_again (RunsOut q) f g h e = refl

emitted_again : {C B : Type 0} (s : Stopped C B) (f : Progress C B → Stopped C B) (x y z : Progress C B → List ℕ) → ((q : Progress C B) → z q ≡ x q ++ emitted_on_wait (f q) y)
    → emitted_on_wait s z ≡ emitted_on_wait s x ++ emitted_on_wait (on_wait s f) y
emitted_again (Wants q) f x y z e = e q
emitted_again (Halts q) f x y z e = refl
emitted_again (Fails k doing q) f x y z e = refl
emitted_again (RunsOut q) f x y z e = refl

-- lines of one list and then of another
pub lines_given-append : {C B : Type 0} (ops : Ops C B) (xs ys : List NumberedLine) (p : Progress C B)
    → lines_given whole_kernel ops (xs ++ ys) p ≡ on_wait (lines_given whole_kernel ops xs p) (λ q. lines_given whole_kernel ops ys q)
lines_given-append ops [] ys p = refl
lines_given-append ops (x ∷ xs) ys p = on_wait_again (line_given whole_kernel ops x p) _ _ _ (λ q. lines_given-append ops xs ys q)

pub lines_emitted-append : {C B : Type 0} (ops : Ops C B) (xs ys : List NumberedLine) (p : Progress C B)
    → lines_emitted whole_kernel ops (xs ++ ys) p ≡ lines_emitted whole_kernel ops xs p ++ emitted_on_wait (lines_given whole_kernel ops xs p) (λ q. lines_emitted whole_kernel ops ys q)
lines_emitted-append ops [] ys p = refl
lines_emitted-append ops (x ∷ xs) ys p =
    ap (λ (bytes : List ℕ). line_emitted whole_kernel ops x p ++ bytes) (emitted_again (line_given whole_kernel ops x p) (λ q. lines_given whole_kernel ops xs q) (λ q. lines_emitted whole_kernel ops xs q) (λ q. lines_emitted whole_kernel ops ys q) _ (λ q. lines_emitted-append ops xs ys q))
    ∙ sym (append_assoc (line_emitted whole_kernel ops x p) (emitted_on_wait (line_given whole_kernel ops x p) (λ q. lines_emitted whole_kernel ops xs q)) (emitted_on_wait (on_wait (line_given whole_kernel ops x p) (λ q. lines_given whole_kernel ops xs q)) (λ q. lines_emitted whole_kernel ops ys q)))

-- the lines of the texts from one on
pub texts_next : {C B : Type 0} (ops : Ops C B) (texts : List (List ℕ)) (i : ℕ) (p : Progress C B) → i < length texts
    → lines_given whole_kernel ops (lines_of_all (i + 1) (drop i texts)) p
    ≡ on_wait (lines_given whole_kernel ops (numbered (i + 1) 1 (lines_of (get_or texts i []))) p) (λ q. lines_given whole_kernel ops (lines_of_all (i + 1 + 1) (drop (i + 1) texts)) q)
texts_next ops texts i p h =
    let f : suc i ≡ i + 1 = omega arith in
    rw (drop-cons texts i [] h) (lines_given-append ops _ _ p ∙ ap (λ (k : ℕ). on_wait (lines_given whole_kernel ops (numbered (i + 1) 1 (lines_of (get_or texts i []))) p) (λ q. lines_given whole_kernel ops (lines_of_all (i + 1 + 1) (drop k texts)) q)) f)

pub texts_emit_next : {C B : Type 0} (ops : Ops C B) (texts : List (List ℕ)) (i : ℕ) (p : Progress C B) → i < length texts
    → lines_emitted whole_kernel ops (lines_of_all (i + 1) (drop i texts)) p
    ≡ lines_emitted whole_kernel ops (numbered (i + 1) 1 (lines_of (get_or texts i []))) p
    ++ emitted_on_wait (lines_given whole_kernel ops (numbered (i + 1) 1 (lines_of (get_or texts i []))) p) (λ q. lines_emitted whole_kernel ops (lines_of_all (i + 1 + 1) (drop (i + 1) texts)) q)
texts_emit_next ops texts i p h =
    let f : suc i ≡ i + 1 = omega arith in
    rw (drop-cons texts i [] h) (lines_emitted-append ops _ _ p ∙ ap (λ (k : ℕ). lines_emitted whole_kernel ops (numbered (i + 1) 1 (lines_of (get_or texts i []))) p
    ++ emitted_on_wait (lines_given whole_kernel ops (numbered (i + 1) 1 (lines_of (get_or texts i []))) p) (λ q. lines_emitted whole_kernel ops (lines_of_all (i + 1 + 1) (drop k texts)) q)) f)
