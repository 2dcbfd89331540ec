-- Bytes put one piece after another, where the build may fail.
use Rattle.std.proofs.Common.{subst, true, false, ◌≡◌, ℕ, List, [], ◌∷◌, ◌++◌, Option, None, Some, Result, Ok, Err, refl, ap, sym, ◌∙◌, append-nil, append_assoc}
use Rattle.mi_outside.specs.Gathered.{last_of}
use Rattle.mi_outside.specs.Written.{AddsButRest, Emits, EmitsButRest, EmitsFront}
use Rattle.mi_outside.proofs.Writing.{emits_all, emits_on, front_last, front_more as more_written, front_none as none_written}
use Rattle.mi_model.specs.declared.Fault.{Fault}
use Rattle.mi_model.specs.declared.Token.{Token}
use Rattle.mi_model.specs.Ops.{Ops}
use Rattle.mi_model.specs.Kernel.{whole_kernel}
use Rattle.mi_model.specs.Build.{Progress, Stopped, emitted, emitted_on_wait}
use Rattle.mi_machine.specs.Engine.{Engine}
use Rattle.mi_build.specs.declared.course.Position.{Position}
use Rattle.mi_build.specs.declared.course.Pause.{Pause}
use Rattle.mi_build.specs.declared.steps.Failure.{Failure}
use Rattle.mi_build.specs.declared.steps.Failure.TheVariants as failures
use Rattle.mi_build.specs.Faults.{fault_of, IsTold}
use Rattle.mi_build.proofs.CourseLemmas.{fault_emits}
use Rattle.mi_build.specs.Course.{IsFailure, fault_at, EmitsNone}
use Rattle.mi_build.specs.Written.{EmitsAll}
use Rattle.mi_build.specs.Puts.{Output, Puts, PutsAll, PutsButRest, PutsFront, PutsOn, WritesFront, KeepsLast, NoneWaits, is_write_fault}
use Rattle.mi_reloc.specs.declared.building.BuildFault.{BuildFault}
use Rattle.mi_reloc.specs.declared.building.BuildFault.TheVariants.{Thrown, Spent, Step, NoEntry, Cell, WriteFault, NoMemory}

-- bytes one after another
last_of-append : (before : ℕ) (xs ys : List ℕ) → last_of before (xs ++ ys) ≡ last_of (last_of before xs) ys
last_of-append before [] ys = refl
last_of-append before (x ∷ xs) ys = last_of-append x xs ys

-- more bytes are left, and are still left
emits_more : (first second : Option (List ℕ)) (bytes rest more : List ℕ) → EmitsButRest first second bytes rest → EmitsButRest first second (bytes ++ more) (rest ++ more)
emits_more first None bytes rest more h = tt
emits_more (Some b) (Some n) bytes rest more h =
    record {
      written = h.written;
      added = h.added;
      whole = sym (append_assoc h.written rest more) ∙ ap (λ (xs : List ℕ). xs ++ more) h.whole;
    }
emits_more None (Some n) bytes rest more h = h

emits_nothing : (written : Option (List ℕ)) (bytes rest : List ℕ) → bytes ≡ rest → EmitsButRest written written bytes rest
emits_nothing None bytes rest e = tt
emits_nothing (Some w) bytes rest e = record { written = []; added = sym (append-nil w); whole = sym e }

-- nothing was put, and all of it is the rest
pub puts_nothing : (out : Output) (bytes rest : List ℕ) → bytes ≡ rest → PutsButRest out out bytes rest
unfolding PutsButRest
puts_nothing out bytes rest e =
    (emits_nothing out.written _ _ (ap (λ (xs : List ℕ). out.gathered.waiting ++ xs) e), ap (λ (xs : List ℕ). last_of out.gathered.last xs) (sym e))

pub puts_on : (first second third : Output) (all bytes rest : List ℕ) → PutsButRest first second all bytes → PutsButRest second third bytes rest → PutsButRest first third all rest
unfolding PutsButRest
puts_on first second third all bytes rest h k =
    (emits_on first.written second.written third.written _ _ _ h.0 k.0, k.1 ∙ h.1)

puts_more : (first second : Output) (bytes rest more : List ℕ) → PutsButRest first second bytes rest → PutsButRest first second (bytes ++ more) (rest ++ more)
unfolding PutsButRest
puts_more first second bytes rest more h =
    let all : (first.gathered.waiting ++ bytes) ++ more ≡ first.gathered.waiting ++ (bytes ++ more) = append_assoc first.gathered.waiting bytes more in
    let left : (second.gathered.waiting ++ rest) ++ more ≡ second.gathered.waiting ++ (rest ++ more) = append_assoc second.gathered.waiting rest more in (
      subst (λ (xs : List ℕ). EmitsButRest first.written second.written xs (second.gathered.waiting ++ (rest ++ more))) all
          (subst (λ (xs : List ℕ). EmitsButRest first.written second.written ((first.gathered.waiting ++ bytes) ++ more) xs) left (emits_more first.written second.written _ _ more h.0)),
      last_of-append second.gathered.last rest more ∙ ap (λ (b : ℕ). last_of b more) h.1 ∙ sym (last_of-append first.gathered.last bytes more),
    )

-- a piece in front of the rest
pub puts_front : (first second : Output) (piece rest : List ℕ) → Puts first second piece → PutsButRest first second (piece ++ rest) rest
puts_front first second piece rest h = puts_more first second piece [] rest h

pub puts_first : (first second : Output) (byte : ℕ) (rest : List ℕ) → Puts first second (byte ∷ []) → PutsButRest first second (byte ∷ rest) rest
puts_first first second byte rest h = puts_front first second (byte ∷ []) rest h

-- fronts of what is put
pub front_none : (out : Output) (all : List ℕ) → PutsFront out out all
unfolding PutsFront
front_none out all = (all, puts_nothing out all all refl)

pub front_whole : (first second : Output) (all : List ℕ) → Puts first second all → PutsFront first second all
unfolding PutsFront
front_whole first second all h = ([], h)

pub front_more : (first second : Output) (bytes more : List ℕ) → PutsFront first second bytes → PutsFront first second (bytes ++ more)
unfolding PutsFront
front_more first second bytes more h = (h.0 ++ more, puts_more first second bytes h.0 more h.1)

pub front_on : (first second third : Output) (all bytes : List ℕ) → PutsButRest first second all bytes → PutsFront second third bytes → PutsFront first third all
unfolding PutsFront
front_on first second third all bytes h k = (k.0, puts_on first second third all bytes k.0 h k.1)

pub front_behind : (first second third : Output) (all bytes more : List ℕ) → PutsButRest first second all (bytes ++ more) → PutsFront second third bytes → PutsFront first third all
front_behind first second third all bytes more h k = front_on first second third all (bytes ++ more) h (front_more second third bytes more k)

-- fronts of what is written, where the output failed
pub lost_none : (out : Output) (all : List ℕ) → WritesFront out out all
unfolding WritesFront
lost_none out all = none_written out.written _

pub lost_more : (first second : Output) (bytes more : List ℕ) → WritesFront first second bytes → WritesFront first second (bytes ++ more)
unfolding WritesFront
lost_more first second bytes more h =
    subst (λ (xs : List ℕ). EmitsFront first.written second.written xs) (append_assoc first.gathered.waiting bytes more) (more_written first.written second.written _ more h)

pub lost_first : (first second : Output) (byte : ℕ) (more : List ℕ) → WritesFront first second (byte ∷ []) → WritesFront first second (byte ∷ more)
lost_first first second byte more h = lost_more first second (byte ∷ []) more h

pub lost_on : (first second third : Output) (all bytes : List ℕ) → PutsButRest first second all bytes → WritesFront second third bytes → WritesFront first third all
unfolding WritesFront PutsButRest
lost_on first second third all bytes h k = front_last first.written second.written third.written _ _ h.0 k

pub lost_behind : (first second third : Output) (all bytes more : List ℕ) → PutsButRest first second all (bytes ++ more) → WritesFront second third bytes → WritesFront first third all
lost_behind first second third all bytes more h k = lost_on first second third all (bytes ++ more) h (lost_more second third bytes more k)

-- more bytes are put, or a front of them, behind those that were
pub puts_then : {X : Type 0} (r : Result X BuildFault) (first second third : Output) (bytes more : List ℕ) → Puts first second bytes → PutsAll r second third more → PutsAll r first third (bytes ++ more)
puts_then (Ok x) first second third bytes more h k = puts_on first second third (bytes ++ more) more [] (puts_front first second bytes more h) k
puts_then (Err (Thrown code file line)) first second third bytes more h k = puts_on first second third (bytes ++ more) more [] (puts_front first second bytes more h) k
puts_then (Err (Spent turns)) first second third bytes more h k = puts_on first second third (bytes ++ more) more [] (puts_front first second bytes more h) k
puts_then (Err (Step number offset tag a b why file line)) first second third bytes more h k = puts_on first second third (bytes ++ more) more [] (puts_front first second bytes more h) k
puts_then (Err NoEntry) first second third bytes more h k = puts_on first second third (bytes ++ more) more [] (puts_front first second bytes more h) k
puts_then (Err (Cell offset found)) first second third bytes more h k = puts_on first second third (bytes ++ more) more [] (puts_front first second bytes more h) k
puts_then (Err WriteFault) first second third bytes more h k = lost_on first second third (bytes ++ more) more (puts_front first second bytes more h) k
puts_then (Err NoMemory) first second third bytes more h k = front_on first second third (bytes ++ more) more (puts_front first second bytes more h) k

-- where the output failed, more would have been put
pub failed_puts : (Y Z : Type 0) (e : BuildFault) (first second : Output) (bytes more : List ℕ) → e ≡ WriteFault → PutsAll {X = Y} (Err e) first second bytes → PutsAll {X = Z} (Err e) first second (bytes ++ more)
failed_puts Y Z e first second bytes more is h =
    subst (λ (d : BuildFault). PutsAll {X = Z} (Err d) first second (bytes ++ more)) (sym is)
    (lost_more first second bytes more (subst (λ (d : BuildFault). PutsAll {X = Y} (Err d) first second bytes) is h))

-- a failure emits nothing; of want of memory nothing is said
pub failed_emits : (Y : Type 0) {X : Type 0} (e : BuildFault) (failure : Failure) (at : Position) (number : ℕ) (last : Token) (out : Output) (emits : Result X Fault → List ℕ) (told : Result X Fault) (all : List ℕ)
    → ((f : Fault) → emits (Err f) ≡ []) → e ≡ fault_at failure at number → IsFailure failure last told → all ≡ emits told → PutsAll {X = Y} (Err e) out out all
failed_emits Y e (failures.Thrown code) at number last out emits told all none is h s =
    subst (λ (d : BuildFault). PutsAll {X = Y} (Err d) out out all) (sym is) (puts_nothing out all [] (s ∙ ap emits h ∙ none _))
failed_emits Y e (failures.Refused token a b why) at number last out emits told all none is h s =
    subst (λ (d : BuildFault). PutsAll {X = Y} (Err d) out out all) (sym is) (puts_nothing out all [] (s ∙ ap emits h.0 ∙ none _))
failed_emits Y e failures.NoMemory at number last out emits told all none is h s = subst (λ (d : BuildFault). PutsAll {X = Y} (Err d) out out all) (sym is) (front_none out all)

-- where a build has stopped by a fault, what would follow emits nothing
last_piece : {C B : Type 0} (first second : Output) (all piece : List ℕ) (s : Stopped C B) (rest : Progress C B → List ℕ) (e : BuildFault)
    → PutsButRest first second all (piece ++ emitted_on_wait s rest) → fault_of s ≡ Some e → PutsButRest first second all piece
last_piece first second all piece s rest e h t =
    subst (λ (bytes : List ℕ). PutsButRest first second all bytes) (ap (λ (xs : List ℕ). piece ++ xs) (fault_emits s rest e t) ∙ append-nil piece) h

pub fault_stops : (Y Z : Type 0) {C B : Type 0} (e : BuildFault) (first second third : Output) (all piece : List ℕ) (s : Stopped C B) (rest : Progress C B → List ℕ)
    → PutsButRest first second all (piece ++ emitted_on_wait s rest) → IsTold e (fault_of s) → PutsAll {X = Y} (Err e) second third piece → PutsAll {X = Z} (Err e) first third all
fault_stops Y Z (Thrown code file line) first second third all piece s rest h t k = puts_on first second third all piece [] (last_piece first second all piece s rest _ h t) k
fault_stops Y Z (Spent turns) first second third all piece s rest h t k = puts_on first second third all piece [] (last_piece first second all piece s rest _ h t) k
fault_stops Y Z (Step number offset tag a b why file line) first second third all piece s rest h t k = puts_on first second third all piece [] (last_piece first second all piece s rest _ h t) k
fault_stops Y Z NoEntry first second third all piece s rest h t k = puts_on first second third all piece [] (last_piece first second all piece s rest _ h t) k
fault_stops Y Z (Cell offset found) first second third all piece s rest h t k = absurd t
fault_stops Y Z WriteFault first second third all piece s rest h t k = lost_behind first second third all piece (emitted_on_wait s rest) h k
fault_stops Y Z NoMemory first second third all piece s rest h t k = front_behind first second third all piece (emitted_on_wait s rest) h k

-- the end of the input emits nothing
pub end_emits : {A C B : Type 0} (ops : Ops C B) (r : Result (Option Pause) BuildFault) (engine : Engine A C B) (at : Position) (all : List ℕ) (out : Output)
    → EmitsNone ops r engine at all → PutsOn r out out all (emitted whole_kernel ops true at.left engine.state.machine)
end_emits ops (Ok None) engine at all out h = puts_nothing out all _ h
end_emits ops (Ok (Some pause)) engine at all out h = puts_nothing out all [] h
end_emits ops (Err (Thrown code file line)) engine at all out h = puts_nothing out all [] h
end_emits ops (Err (Spent turns)) engine at all out h = puts_nothing out all [] h
end_emits ops (Err (Step number offset tag a b why file line)) engine at all out h = puts_nothing out all [] h
end_emits ops (Err NoEntry) engine at all out h = puts_nothing out all [] h
end_emits ops (Err (Cell offset found)) engine at all out h = puts_nothing out all [] h
end_emits ops (Err WriteFault) engine at all out h = lost_none out all
end_emits ops (Err NoMemory) engine at all out h = front_none out all

-- what is said of the bytes where there is a fault doesn't depend on the answer there would be
pub any_puts : (Y Z : Type 0) (e : BuildFault) (first second : Output) (bytes : List ℕ) → PutsAll {X = Y} (Err e) first second bytes → PutsAll {X = Z} (Err e) first second bytes
any_puts Y Z (Thrown code file line) first second bytes h = h
any_puts Y Z (Spent turns) first second bytes h = h
any_puts Y Z (Step number offset tag a b why file line) first second bytes h = h
any_puts Y Z NoEntry first second bytes h = h
any_puts Y Z (Cell offset found) first second bytes h = h
any_puts Y Z WriteFault first second bytes h = h
any_puts Y Z NoMemory first second bytes h = h

-- the last byte, and what waits
pub last_known : (first second third : Output) (bytes : List ℕ) → Puts first second bytes → Puts second third [] → third.gathered.last ≡ last_of first.gathered.last bytes
unfolding PutsButRest
last_known first second third bytes h k = (puts_on first second third bytes [] [] h k).1

front_of : (first second : Option (List ℕ)) (all rest : List ℕ) → EmitsButRest first second all rest → EmitsFront first second all
front_of first None all rest h = tt
front_of (Some b) (Some n) all rest h = (rest, h)
front_of None (Some n) all rest h = h

-- what a call of the gathered output says
pub passed_all : (old new : Output) (piece : List ℕ) → EmitsButRest old.written new.written (old.gathered.waiting ++ piece) new.gathered.waiting → new.gathered.last ≡ last_of old.gathered.last piece → Puts old new piece
unfolding PutsButRest
passed_all old new piece h l =
    (subst (λ (left : List ℕ). EmitsButRest old.written new.written (old.gathered.waiting ++ piece) left) (sym (append-nil new.gathered.waiting)) h, l)

pub passed_front : (old new : Output) (piece : List ℕ) → EmitsFront old.written new.written (old.gathered.waiting ++ piece) → WritesFront old new piece
unfolding WritesFront
passed_front old new piece h = h

-- with nothing waiting at both ends, what was put was written
pub all_written : (first second third : Output) (bytes : List ℕ) → first.gathered.waiting ≡ [] → third.gathered.waiting ≡ [] → Puts first second bytes → Puts second third [] → Emits first.written third.written bytes
unfolding PutsButRest
all_written first second third bytes a b h k =
    emits_all first.written third.written bytes
    (subst (λ (xs : List ℕ). EmitsButRest first.written third.written (xs ++ bytes) []) a
    (subst (λ (xs : List ℕ). EmitsButRest first.written third.written (first.gathered.waiting ++ bytes) (xs ++ [])) b (puts_on first second third bytes [] [] h k).0))

pub front_written : (first second third : Output) (bytes : List ℕ) → first.gathered.waiting ≡ [] → third.gathered.waiting ≡ [] → PutsFront first second bytes → Puts second third [] → EmitsFront first.written third.written bytes
unfolding PutsFront PutsButRest
front_written first second third bytes a b h k =
    front_of first.written third.written bytes h.0
    (subst (λ (xs : List ℕ). EmitsButRest first.written third.written (xs ++ bytes) h.0) a
    (subst (λ (xs : List ℕ). EmitsButRest first.written third.written (first.gathered.waiting ++ bytes) (xs ++ h.0)) b
    (puts_on first second third bytes h.0 h.0 h.1 (puts_more second third [] [] h.0 k)).0))

pub lost_written : (first second : Output) (bytes : List ℕ) → first.gathered.waiting ≡ [] → WritesFront first second bytes → EmitsFront first.written second.written bytes
unfolding WritesFront
lost_written first second bytes a h = subst (λ (xs : List ℕ). EmitsFront first.written second.written (xs ++ bytes)) a h

-- the fault of the output is one fault
pub write_fault : (e : BuildFault) → is_write_fault e ≡ true → e ≡ WriteFault
write_fault (Thrown code file line) is = absurd (cc)
write_fault (Spent turns) is = absurd (cc)
write_fault (Step number offset tag a b why file line) is = absurd (cc)
write_fault NoEntry is = absurd (cc)
write_fault (Cell offset found) is = absurd (cc)
write_fault WriteFault is = refl
write_fault NoMemory is = absurd (cc)

-- where the output failed, a front of what was emitted was written
pub fault_lost : (Y : Type 0) (e : BuildFault) (first second : Output) (bytes : List ℕ) → first.gathered.waiting ≡ [] → e ≡ WriteFault → PutsAll {X = Y} (Err e) first second bytes → EmitsFront first.written second.written bytes
fault_lost Y e first second bytes a is h = lost_written first second bytes a (subst (λ (d : BuildFault). PutsAll {X = Y} (Err d) first second bytes) is h)

pub fault_written : (Y : Type 0) (e : BuildFault) (first second third : Output) (bytes : List ℕ) → first.gathered.waiting ≡ [] → e ≡ WriteFault → Puts first second bytes → PutsAll {X = Y} (Err e) second third []
    → EmitsFront first.written third.written bytes
fault_written Y e first second third bytes a is h k =
    lost_written first third bytes a (lost_on first second third bytes [] h (subst (λ (d : BuildFault). PutsAll {X = Y} (Err d) second third []) is k))

lost_behind_front : (first second third : Output) (bytes : List ℕ) → PutsFront first second bytes → WritesFront second third [] → WritesFront first third bytes
unfolding PutsFront
lost_behind_front first second third bytes h k = lost_on first second third bytes h.0 h.1 (lost_more second third [] h.0 k)

pub answer_lost : (Y Z : Type 0) (e d : BuildFault) (first second third : Output) (bytes : List ℕ) → first.gathered.waiting ≡ [] → is_write_fault e ≡ false → d ≡ WriteFault
    → PutsAll {X = Z} (Err e) first second bytes → PutsAll {X = Y} (Err d) second third [] → EmitsFront first.written third.written bytes
answer_lost Y Z e d first second third bytes a other is h k = lost_written first third bytes a (lost e other h)
  where
    failed : WritesFront second third []
    failed = subst (λ (f : BuildFault). PutsAll {X = Y} (Err f) second third []) is k

    lost : (e : BuildFault) → is_write_fault e ≡ false → PutsAll {X = Z} (Err e) first second bytes → WritesFront first third bytes
    lost (Thrown code file line) other h = lost_on first second third bytes [] h failed
    lost (Spent turns) other h = lost_on first second third bytes [] h failed
    lost (Step number offset tag c b why file line) other h = lost_on first second third bytes [] h failed
    lost NoEntry other h = lost_on first second third bytes [] h failed
    lost (Cell offset found) other h = lost_on first second third bytes [] h failed
    lost WriteFault other h = absurd (cc)
    lost NoMemory other h = lost_behind_front first second third bytes h failed

-- the answer stays where what waits is written
pub answer_written : (Z : Type 0) (e : BuildFault) (first second third : Output) (bytes : List ℕ) → first.gathered.waiting ≡ [] → third.gathered.waiting ≡ [] → is_write_fault e ≡ false
    → PutsAll {X = Z} (Err e) first second bytes → Puts second third [] → EmitsAll {X = Z} (Err e) first.written third.written bytes
answer_written Z (Thrown code file line) first second third bytes a b other h k = all_written first second third bytes a b h k
answer_written Z (Spent turns) first second third bytes a b other h k = all_written first second third bytes a b h k
answer_written Z (Step number offset tag c d why file line) first second third bytes a b other h k = all_written first second third bytes a b h k
answer_written Z NoEntry first second third bytes a b other h k = all_written first second third bytes a b h k
answer_written Z (Cell offset found) first second third bytes a b other h k = all_written first second third bytes a b h k
answer_written Z WriteFault first second third bytes a b other h k = absurd (cc)
answer_written Z NoMemory first second third bytes a b other h k = front_written first second third bytes a b h k

pub answer_last : {X : Type 0} (r : Result X BuildFault) (first second third : Output) (bytes : List ℕ) → PutsAll r first second bytes → Puts second third [] → KeepsLast r first.gathered.last third.gathered.last bytes
answer_last (Ok x) first second third bytes h k = last_known first second third bytes h k
answer_last (Err (Thrown code file line)) first second third bytes h k = last_known first second third bytes h k
answer_last (Err (Spent turns)) first second third bytes h k = last_known first second third bytes h k
answer_last (Err (Step number offset tag a b why file line)) first second third bytes h k = last_known first second third bytes h k
answer_last (Err NoEntry) first second third bytes h k = last_known first second third bytes h k
answer_last (Err (Cell offset found)) first second third bytes h k = last_known first second third bytes h k
answer_last (Err WriteFault) first second third bytes h k = tt
answer_last (Err NoMemory) first second third bytes h k = tt

pub answer_waits : {X : Type 0} (r : Result X BuildFault) (waiting : List ℕ) → waiting ≡ [] → NoneWaits r waiting
answer_waits (Ok x) waiting h = h
answer_waits (Err (Thrown code file line)) waiting h = h
answer_waits (Err (Spent turns)) waiting h = h
answer_waits (Err (Step number offset tag a b why file line)) waiting h = h
answer_waits (Err NoEntry) waiting h = h
answer_waits (Err (Cell offset found)) waiting h = h
answer_waits (Err WriteFault) waiting h = tt
answer_waits (Err NoMemory) waiting h = h
