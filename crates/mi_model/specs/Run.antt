-- A run of a region: the entry, then instructions and the lines of the input.
use Rattle.std.specs.Prelude.{ℕ, ℤ, ◌^◌, ◌++◌, zero, suc, Bool, true, false, cond, nat_le, ◌==◌, ◌||◌, List, [], ◌∷◌, length, take, Result, Ok, Err, None}
use Rattle.mi_model.specs.declared.Fault.{Fault}
use Rattle.mi_model.specs.declared.Fault.TheVariants.{Throw, Refused, NoMemory}
use Rattle.mi_model.specs.declared.Effect.{Effect}
use Rattle.mi_model.specs.declared.Effect.TheVariants.{Went, Emit, Want, Halt}
use Rattle.mi_model.specs.declared.Wait.TheVariants.{Idle}
use Rattle.mi_model.specs.Layout.{entry_cell, interpreter_loop, after_entry}
use Rattle.mi_model.specs.Ops.{Ops}
use Rattle.mi_model.specs.Machine.{Machine}
use Rattle.mi_model.specs.Action.{Action, ◌>>=◌, ◌>>◌, give, part_of}
use Rattle.mi_model.specs.Action.Operand.{At, Plain, Address}
use Rattle.mi_model.specs.Action.AnswerKind.{Truths}
use Rattle.mi_model.specs.Outcome.{outcome_of}
use Rattle.mi_model.specs.Parts.{choose, equal, name, set_due, set_ip}
use Rattle.mi_model.specs.Kernel.{Kernel}
use Rattle.mi_model.specs.Table.{step}
use Rattle.mi_model.specs.Lines.{lines_of}
use Rattle.mi_model.specs.Input.{give_line, give_end}
use Rattle.mi_model.specs.Recovery.{recover, recovery_text}

-- a machine on a region that has taken no instruction
abbrev pub machine_on : {C B : Type 0} → Ops C B → (region : List B) → Machine C B
machine_on ops region = record { bytes = region; stack = []; rstack = []; ip = ops.plain 0; due = None; wait = Idle }

-- Where a run begins, and whether it has an entry word: without one, where the cell ENTRY is 0, at the interpreter loop;
-- else the entry word is due, and BYE comes behind it.
unfoldable pub start_entry : Action Truths
start_entry = part_of do
  entry ← name (At entry_cell)
  none ← equal entry (Plain 0)
  choose none (do
    set_ip (Address interpreter_loop)
    give false) do
      set_due entry
      set_ip (Address after_entry)
      give true

-- the lines of an input, and whether it is longer than a run reads: then only those count that end within what is read
pub record Input : Type 0 where
  pub lines : List (List ℕ)
  pub longer : Bool

-- the most bytes of an input that a run reads
abbrev pub input_limit : ℕ
input_limit = 2 ^ 30

-- is there an LF in a text
abbrev pub has_line_feed : List ℕ → Bool
has_line_feed [] = false
has_line_feed (c ∷ cs) = c == 10 || has_line_feed cs

-- a text up to its last LF
abbrev pub whole_lines : List ℕ → List ℕ
whole_lines [] = []
whole_lines (c ∷ cs) = cond (c == 10 || has_line_feed cs) (c ∷ whole_lines cs) []

abbrev pub input_of : List ℕ → Input
input_of text = cond (nat_le (length text) input_limit)
    (record { lines = lines_of text; longer = false })
    (record { lines = lines_of (whole_lines (take input_limit text)); longer = true })

-- how a run ends: halted, by BYE or at the end of the input; by a throw, where it has an entry word; after so many
-- instructions as it may take; where a line doesn't end within what is read; or where the arithmetic refuses
pub data RunEnd : Type 0 where
  Bye : RunEnd
  Thrown : (code : ℤ) → RunEnd
  Spent : RunEnd
  InputTooLong : RunEnd
  Broken : Fault → RunEnd

-- what a run writes, and how it ends
pub record Run : Type 0 where
  pub output : List ℕ
  pub end : RunEnd

abbrev pub ends : RunEnd → Run
ends end = record { output = []; end = end }

-- these bytes come first
abbrev pub writes : List ℕ → Run → Run
writes bytes run = record { output = bytes ++ run.output; end = run.end }

-- what is left of the input, and whether the run has an entry word
pub record Course : Type 0 where
  pub lines : List (List ℕ)
  pub longer : Bool
  pub entered : Bool

-- what goes on from a machine, with what is left of the input
abbrev pub Rest : (C B : Type 0) → Type 0
Rest C B = Course → Machine C B → Run

-- the rest after a recovery, which prints its text
abbrev pub after_recovery : {C B : Type 0} → Rest C B → Course → (code : ℤ) → Result (Unit {0} × Machine C B) Fault → Run
after_recovery rest c code (Ok r) = writes (recovery_text code) (rest c r.1)
after_recovery rest c code (Err f) = ends (Broken f)

-- after a fault: with an entry word the first throw ends the run, and else the machine recovers
abbrev pub after_fault : {C B : Type 0} → Ops C B → Rest C B → Course → Machine C B → Fault → Run
after_fault ops rest c m (Throw code) = cond c.entered (ends (Thrown code)) (after_recovery rest c code (outcome_of ops recover m []))
after_fault ops rest c m (Refused a b why) = ends (Broken (Refused a b why))
after_fault ops rest c m NoMemory = ends (Broken NoMemory)

-- after a line or the end was given; it wasn't an instruction, so it emits nothing and wants nothing
abbrev pub after_line : {C B : Type 0} → Ops C B → Rest C B → Course → Machine C B → Result (Unit {0} × Machine C B) Fault → Run
after_line ops rest c m (Ok r) = rest c r.1
after_line ops rest c m (Err f) = after_fault ops rest c m f

abbrev pub after_end : {C B : Type 0} → Ops C B → Rest C B → Course → Machine C B → Result (Effect × Machine C B) Fault → Run
after_end ops rest c m (Ok (Went, n)) = rest c n
after_end ops rest c m (Ok (Emit b, n)) = rest c n
after_end ops rest c m (Ok (Want, n)) = rest c n
after_end ops rest c m (Ok (Halt, n)) = ends Bye
after_end ops rest c m (Err f) = after_fault ops rest c m f

-- at a wait: the next line, or else the end of the input, unless that is longer than what is read
abbrev pub at_wait : {C B : Type 0} → Ops C B → Rest C B → (lines : List (List ℕ)) → Course → Machine C B → Run
at_wait ops rest (line ∷ lines) c m = after_line ops rest (record c { lines = lines }) m (outcome_of ops (give_line line) m [])
at_wait ops rest [] c m = cond c.longer (ends InputTooLong) (after_end ops rest c m (outcome_of ops give_end m []))

-- after an instruction
abbrev pub after_instruction : {C B : Type 0} → Ops C B → Rest C B → Course → Machine C B → Result (Effect × Machine C B) Fault → Run
after_instruction ops rest c m (Ok (Went, n)) = rest c n
after_instruction ops rest c m (Ok (Emit b, n)) = writes (b ∷ []) (rest c n)
after_instruction ops rest c m (Ok (Want, n)) = at_wait ops rest c.lines c n
after_instruction ops rest c m (Ok (Halt, n)) = ends Bye
after_instruction ops rest c m (Err f) = after_fault ops rest c m f

-- at most so many instructions
abbrev pub run_on : {C B : Type 0} → Kernel → Ops C B → (turns : ℕ) → Course → Machine C B → Run
run_on kernel ops zero c m = ends Spent
run_on kernel ops (suc turns) c m = after_instruction ops (run_on kernel ops turns) c m (outcome_of ops (step kernel) m [])

abbrev pub run_started : {C B : Type 0} → Kernel → Ops C B → (turns : ℕ) → Input → Result (Bool × Machine C B) Fault → Run
run_started kernel ops turns input (Ok r) = run_on kernel ops turns (record { lines = input.lines; longer = input.longer; entered = r.0 }) r.1
run_started kernel ops turns input (Err f) = ends (Broken f)

-- A run of a region with an input and at most so many instructions.
unfoldable pub run : {C B : Type 0} → Kernel → Ops C B → (region : List B) → (input : List ℕ) → (turns : ℕ) → Run
run kernel ops region input turns = run_started kernel ops turns (input_of input) (outcome_of ops start_entry (machine_on ops region) [])
