-- What calls take of an input that tells, and how a run goes on with only what was taken.
use Rattle.std.specs.Prelude.{ℕ, ◌≡◌, ◌≤◌, ◌+◌, ◌⊎◌, Bool, true, false, List, ◌++◌, length, Option, IfSome, IsSomeAnd, Result, Ok, Err}
use Rattle.mi_model.specs.Kernel.{whole_kernel}
use Rattle.mi_model.specs.Lines.{lines_of}
use Rattle.mi_model.specs.Run.{Run, Course, run_on, at_wait, whole_lines}
use Rattle.mi_model.specs.Run.RunEnd.{InputTooLong as ModelTooLong}
use Rattle.mi_arith.specs.declared.plain.Plain.{Plain}
use Rattle.mi_region.specs.View.{StateView}
use Rattle.mi_machine.specs.Steps.{ops_of}
use Rattle.mi_outside.specs.Puts.{Output, PutsButRest, Puts}
use Rattle.mi_reloc.specs.declared.ending.RunEnd.{RunEnd}
use Rattle.mi_reloc.specs.declared.ending.RunEnd.TheVariants.{Bye, Thrown, Spent, ReadFault, WriteFault, InputTooLong, PairNotAllowed, MadeFor, NoMemory}
use Rattle.mi_run.specs.declared.course.Progress.{Progress}
use Rattle.mi_run.specs.Reading.{Reading}

-- the course of a run of whose input only these bytes are there
abbrev pub course_taken : (entered : Bool) → (taken : List ℕ) → Course
course_taken entered taken = record { lines = lines_of (whole_lines taken); longer = true; entered = entered }

-- what is left of a run on such an input
abbrev pub left_taken : Progress → StateView Plain ℕ ℕ → (taken : List ℕ) → Run
left_taken at s taken = run_on whole_kernel (ops_of s.arith) at.left (course_taken at.entered taken) s.machine

-- the same at a wait
abbrev pub wait_taken : Progress → StateView Plain ℕ ℕ → (taken : List ℕ) → Run
wait_taken at s taken =
    let c = course_taken at.entered taken in at_wait (ops_of s.arith) (run_on whole_kernel (ops_of s.arith) at.left) c.lines c s.machine

-- of the text these bytes were taken; whatever follows them, the run goes on as the rest of it does with that alone, and has
-- put the rest's front
pub record TakesOn (text left : List ℕ) (old_room new_room : ℕ) (told rest : List ℕ → Run) (before now : Output) : Type 0 where
  pub taken : List ℕ
  pub is : text ≡ taken ++ left
  pub room_left : old_room ≡ length taken + new_room
  pub goes : (more : List ℕ) → ((told (taken ++ more)).end ≡ (rest more).end) × PutsButRest before now (told (taken ++ more)).output (rest more).output

-- of the text these bytes were taken; with them alone the run comes to a wait for a line that they don't end, and what it
-- emits up to that was put
pub record StopsAt (text left : List ℕ) (room : ℕ) (told : List ℕ → Run) (before now : Output) : Type 0 where
  pub taken : List ℕ
  pub is : text ≡ taken ++ left
  pub within : length taken ≤ room
  pub reached : (told taken).end ≡ ModelTooLong
  pub puts : Puts before now (told taken).output

-- where the input failed its end was not seen yet, and the run stops so
abbrev pub StopsAs : RunEnd → Reading → (left : Option (List ℕ)) → (told : List ℕ → Run) → Output → Output → Type 0
StopsAs Bye old left told before now = Unit {0}
StopsAs (Thrown code) old left told before now = Unit {0}
StopsAs (Spent taken) old left told before now = Unit {0}
StopsAs InputTooLong old left told before now = Unit {0}
StopsAs ReadFault old left told before now =
    (old.ended ≡ false) × IfSome old.text (λ text. IsSomeAnd left (λ left. StopsAt text left old.room told before now))
StopsAs WriteFault old left told before now = Unit {0}
StopsAs PairNotAllowed old left told before now = Unit {0}
StopsAs (MadeFor pair) old left told before now = Unit {0}
StopsAs NoMemory old left told before now = Unit {0}

-- the end of the input was seen, or it goes on so
abbrev pub TakesFrom : (old new : Reading) → (told rest : List ℕ → Run) → Output → Output → Type 0
TakesFrom old new told rest before now =
    (new.ended ≡ true) ⊎ ((old.ended ≡ false) × IfSome old.text (λ text. IsSomeAnd new.text (λ left. TakesOn text left old.room new.room told rest before now)))

abbrev pub GoesTaking : Result (Unit {0}) RunEnd → (old new : Reading) → (left : Option (List ℕ)) → (told rest : List ℕ → Run) → Output → Output → Type 0
GoesTaking (Ok x) old new left told rest before now = TakesFrom old new told rest before now
GoesTaking (Err end) old new left told rest before now = StopsAs end old left told before now
