-- What is left of a run, and how a call of it goes on.
use Rattle.std.specs.Prelude.{ℕ, ◌≡◌, Bool, List, [], Option, option_map, IfSome, IsSomeAnd, Result, Ok, Err}
use Rattle.mi_model.specs.Kernel.{whole_kernel}
use Rattle.mi_model.specs.Run.{Run, Course, run_on, at_wait}
use Rattle.mi_arith.specs.declared.plain.Plain.{Plain}
use Rattle.mi_region.specs.View.{StateView}
use Rattle.mi_machine.specs.Steps.{ops_of}
use Rattle.mi_outside.specs.Puts.{Output, PutsButRest, Puts, PutsFront, WritesFront}
use Rattle.mi_reloc.specs.declared.ending.RunEnd.{RunEnd}
use Rattle.mi_reloc.specs.declared.ending.RunEnd.TheVariants.{Bye, Thrown, Spent, ReadFault, WriteFault, InputTooLong, PairNotAllowed, MadeFor, NoMemory}
use Rattle.mi_run.specs.declared.lines.Lines.{Lines}
use Rattle.mi_run.specs.declared.course.Progress.{Progress}
use Rattle.mi_run.specs.Lines.{text_of, input_within}
use Rattle.mi_run.specs.Ending.{EndsAs}

-- the course of a run with these bytes left of its input, of which so many may be read
abbrev pub course_within : (room : ℕ) → (entered : Bool) → List ℕ → Course
course_within room entered text = record { lines = (input_within room text).lines; longer = (input_within room text).longer; entered = entered }

-- what is left of a run, where its input tells
abbrev pub run_left : Progress → StateView Plain ℕ ℕ → Lines → (left : Option (List ℕ)) → Option Run
run_left at s lines left =
    option_map (λ text. run_on whole_kernel (ops_of s.arith) at.left (course_within lines.room at.entered text) s.machine) (text_of lines.buffer left)

-- the same at a wait
abbrev pub wait_left : Progress → StateView Plain ℕ ℕ → Lines → (left : Option (List ℕ)) → Option Run
wait_left at s lines left =
    option_map (λ text. let c = course_within lines.room at.entered text in at_wait (ops_of s.arith) (run_on whole_kernel (ops_of s.arith) at.left) c.lines c s.machine) (text_of lines.buffer left)

-- the bytes were put, or a front of them was written where the output failed
abbrev pub PutsPiece : Result (Unit {0}) RunEnd → Output → Output → List ℕ → Type 0
PutsPiece (Ok x) old new bytes = Puts old new bytes
PutsPiece (Err end) old new bytes = (end ≡ WriteFault) × WritesFront old new bytes

-- what a run that ends so emits was put, or a front of it where the input failed; or a front of it was written where the output did
abbrev pub PutsAs : RunEnd → Output → Output → List ℕ → Type 0
PutsAs Bye old new bytes = Puts old new bytes
PutsAs (Thrown code) old new bytes = Puts old new bytes
PutsAs (Spent taken) old new bytes = Puts old new bytes
PutsAs InputTooLong old new bytes = Puts old new bytes
PutsAs ReadFault old new bytes = PutsFront old new bytes
PutsAs WriteFault old new bytes = WritesFront old new bytes
PutsAs PairNotAllowed old new bytes = Puts old new []
PutsAs (MadeFor pair) old new bytes = Puts old new []
PutsAs NoMemory old new bytes = Puts old new []

-- the run goes on as the rest of it does and has put the rest's front, or it has ended so
abbrev pub Goes : Result (Unit {0}) RunEnd → (turns : ℕ) → (told rest : Run) → Output → Output → Type 0
Goes (Ok x) turns told rest old new = (told.end ≡ rest.end) × PutsButRest old new told.output rest.output
Goes (Err end) turns told rest old new = EndsAs end turns told.end × PutsAs end old new told.output

-- the same where the input tells; where the run goes on, it still tells
abbrev pub GoesTo : Result (Unit {0}) RunEnd → (turns : ℕ) → Run → (rest : Option Run) → Output → Output → Type 0
GoesTo (Ok x) turns told rest old new = IsSomeAnd rest (λ rest. Goes (Ok x) turns told rest old new)
GoesTo (Err end) turns told rest old new = Goes (Err end) turns told told old new

abbrev pub GoesFrom : Result (Unit {0}) RunEnd → (turns : ℕ) → (told rest : Option Run) → Output → Output → Type 0
GoesFrom result turns told rest old new = IfSome told (λ told. GoesTo result turns told rest old new)
