-- A fresh build: the seed, the prelude's lines, the lines of the sources, and the finish.
use Rattle.std.specs.Prelude.{ℕ, ◌-◌, zero, suc, Bool, true, false, List, [], ◌∷◌, ◌++◌, ◌+◌, ◌-◌, length, Option, Result, Ok, Err}
use Rattle.mi_model.specs.declared.Fault.{Fault}
use Rattle.mi_model.specs.declared.Fault.TheVariants.{Throw, Refused as IsRefused, NoMemory}
use Rattle.mi_model.specs.declared.Form.{Form}
use Rattle.mi_model.specs.declared.Why.{Why}
use Rattle.mi_model.specs.declared.Token.{Token}
use Rattle.mi_model.specs.declared.Effect.{Effect}
use Rattle.mi_model.specs.declared.Effect.TheVariants.{Went, Emit, Want, Halt}
use Rattle.mi_model.specs.declared.Finished.{Finished}
use Rattle.mi_model.specs.declared.Finished.TheVariants.{Ready, NoEntry}
use Rattle.mi_model.specs.Ops.{Ops}
use Rattle.mi_model.specs.Machine.{Machine}
use Rattle.mi_model.specs.Outcome.{outcome_of}
use Rattle.mi_model.specs.Kernel.{Kernel}
use Rattle.mi_model.specs.Table.{step}
use Rattle.mi_model.specs.Tokens.{token_of, last_token, first_token}
use Rattle.mi_model.specs.Lines.{NumberedLine, lines_of, numbered, lines_of_all, last_line_count}
use Rattle.mi_model.specs.Seed.{blank_machine, seed, at_loop}
use Rattle.mi_model.specs.Input.{give_line, give_end}
use Rattle.mi_model.specs.Finish.{finish}

-- how far a build has come: the machine, the budget that runs and what is left of it, the file and line that were given
-- last, and the last token whose tag was found
pub record Progress (C B : Type 0) : Type 0 where
  pub machine : Machine C B
  pub budget : ℕ
  pub left : ℕ
  pub file : ℕ
  pub line : ℕ
  pub last : Token

-- what it did last: an instruction, the giving of a line or of the end of the input, or its finish
pub data Doing : Type 0 where
  Instruction : Doing
  Giving : Doing
  Finishing : Doing

-- why it stopped: a line is wanted, the machine halted, a fault in what it did, or no instruction is left of the
-- budget
pub data Stopped (C B : Type 0) : Type 0 where
  Wants : Progress C B → Stopped C B
  Halts : Progress C B → Stopped C B
  Fails : Fault → Doing → Progress C B → Stopped C B
  RunsOut : Progress C B → Stopped C B

-- after an instruction with this effect
abbrev pub after_effect : {C B : Type 0} → (Progress C B → Stopped C B) → (at_wait : Progress C B → Stopped C B) → Progress C B → Effect → Stopped C B
after_effect rest at_wait p Went = rest p
after_effect rest at_wait p (Emit b) = rest p
after_effect rest at_wait p Want = at_wait p
after_effect rest at_wait p Halt = Halts p

-- an instruction, and then the rest; one that throws counts as taken
abbrev pub after_step : {C B : Type 0} → (Progress C B → Stopped C B) → (at_wait : Progress C B → Stopped C B) → Progress C B → Result (Effect × Machine C B) Fault → Stopped C B
after_step rest at_wait p (Ok r) = after_effect rest at_wait (record p { machine = r.1 }) r.0
after_step rest at_wait p (Err f) = Fails f Instruction p

-- the end of the input is given, and then the rest
abbrev pub after_end : {C B : Type 0} → (Progress C B → Stopped C B) → Progress C B → Result (Effect × Machine C B) Fault → Stopped C B
after_end rest p (Ok r) = after_effect rest (λ q. Wants q) (record p { machine = r.1 }) r.0
after_end rest p (Err f) = Fails f Giving p

abbrev pub end_given : {C B : Type 0} → Ops C B → (Progress C B → Stopped C B) → Progress C B → Stopped C B
end_given ops rest p = after_end rest p (outcome_of ops give_end p.machine [])

-- at a wait a build stops; where the input has ended, that is given
abbrev pub at_wait : {C B : Type 0} → Ops C B → (ended : Bool) → (Progress C B → Stopped C B) → Progress C B → Stopped C B
at_wait ops false rest p = Wants p
at_wait ops true rest p = end_given ops rest p

-- an instruction is taken, of which so many are left then
abbrev pub taking : {C B : Type 0} → Ops C B → (left : ℕ) → Progress C B → Progress C B
taking ops left p = record p { left = left; last = last_token p.last (token_of ops p.machine) }

-- instructions up to a stop, but at most so many
abbrev pub advanced : {C B : Type 0} → Kernel → Ops C B → (ended : Bool) → (left : ℕ) → Progress C B → Stopped C B
advanced kernel ops ended zero p = RunsOut (record p { left = 0 })
advanced kernel ops ended (suc left) p =
    after_step (advanced kernel ops ended left) (λ q. at_wait ops ended (advanced kernel ops ended left) q) (taking ops left p) (outcome_of ops (step kernel) p.machine [])

-- the bytes that they emit
abbrev pub emitted_after : {C B : Type 0} → (Machine C B → List ℕ) → (at_wait : Machine C B → List ℕ) → Machine C B → Effect → List ℕ
emitted_after rest at_wait m Went = rest m
emitted_after rest at_wait m (Emit b) = b ∷ rest m
emitted_after rest at_wait m Want = at_wait m
emitted_after rest at_wait m Halt = []

abbrev pub emitted_by : {C B : Type 0} → (Machine C B → List ℕ) → (at_wait : Machine C B → List ℕ) → Result (Effect × Machine C B) Fault → List ℕ
emitted_by rest at_wait (Ok r) = emitted_after rest at_wait r.1 r.0
emitted_by rest at_wait (Err f) = []

abbrev pub end_emitted : {C B : Type 0} → Ops C B → (Machine C B → List ℕ) → Machine C B → List ℕ
end_emitted ops rest m = emitted_by rest (λ n. []) (outcome_of ops give_end m [])

abbrev pub emitted_at_wait : {C B : Type 0} → Ops C B → (ended : Bool) → (Machine C B → List ℕ) → Machine C B → List ℕ
emitted_at_wait ops false rest m = []
emitted_at_wait ops true rest m = end_emitted ops rest m

abbrev pub emitted : {C B : Type 0} → Kernel → Ops C B → (ended : Bool) → (left : ℕ) → Machine C B → List ℕ
emitted kernel ops ended zero m = []
emitted kernel ops ended (suc left) m =
    emitted_by (emitted kernel ops ended left) (λ n. emitted_at_wait ops ended (emitted kernel ops ended left) n) (outcome_of ops (step kernel) m [])

-- what follows a wait
abbrev pub on_wait : {C B : Type 0} → Stopped C B → (Progress C B → Stopped C B) → Stopped C B
on_wait (Wants p) rest = rest p
on_wait (Halts p) rest = Halts p
on_wait (Fails f doing p) rest = Fails f doing p
on_wait (RunsOut p) rest = RunsOut p

abbrev pub emitted_on_wait : {C B : Type 0} → Stopped C B → (Progress C B → List ℕ) → List ℕ
emitted_on_wait (Wants p) rest = rest p
emitted_on_wait (Halts p) rest = []
emitted_on_wait (Fails f doing p) rest = []
emitted_on_wait (RunsOut p) rest = []

-- a line is given, and interpreted up to a stop
abbrev pub after_line : {C B : Type 0} → Kernel → Ops C B → Progress C B → Result (Unit {0} × Machine C B) Fault → Stopped C B
after_line kernel ops p (Ok r) = advanced kernel ops false p.left (record p { machine = r.1 })
after_line kernel ops p (Err f) = Fails f Giving p

abbrev pub emitted_after_line : {C B : Type 0} → Kernel → Ops C B → (left : ℕ) → Result (Unit {0} × Machine C B) Fault → List ℕ
emitted_after_line kernel ops left (Ok r) = emitted kernel ops false left r.1
emitted_after_line kernel ops left (Err f) = []

abbrev pub line_given : {C B : Type 0} → Kernel → Ops C B → NumberedLine → Progress C B → Stopped C B
line_given kernel ops l p = after_line kernel ops (record p { file = l.file; line = l.line }) (outcome_of ops (give_line l.text) p.machine [])

abbrev pub line_emitted : {C B : Type 0} → Kernel → Ops C B → NumberedLine → Progress C B → List ℕ
line_emitted kernel ops l p = emitted_after_line kernel ops p.left (outcome_of ops (give_line l.text) p.machine [])

-- lines are given one after another, each at a wait
abbrev pub lines_given : {C B : Type 0} → Kernel → Ops C B → List NumberedLine → Progress C B → Stopped C B
lines_given kernel ops [] p = Wants p
lines_given kernel ops (l ∷ ls) p = on_wait (line_given kernel ops l p) (λ q. lines_given kernel ops ls q)

abbrev pub lines_emitted : {C B : Type 0} → Kernel → Ops C B → List NumberedLine → Progress C B → List ℕ
lines_emitted kernel ops [] p = []
lines_emitted kernel ops (l ∷ ls) p = line_emitted kernel ops l p ++ emitted_on_wait (line_given kernel ops l p) (λ q. lines_emitted kernel ops ls q)

-- an operation that was refused: what the build did, which instruction of its budget it was or would have been, the last
-- token whose tag was found, the two forms and the reason, and the file and line
pub record RefusedStep : Type 0 where
  pub doing : Doing
  pub number : ℕ
  pub token : Token
  pub first : Form
  pub second : Form
  pub why : Why
  pub file : ℕ
  pub line : ℕ

-- how a build ends: done, with the machine, the offset behind what is in use, and the instructions that the sources
-- took; by a fault, with the file and line; by a refused operation; without its entry word; or when a budget has run out
pub data BuildEnd (C B : Type 0) : Type 0 where
  Done : Machine C B → (used taken : ℕ) → BuildEnd C B
  Failed : Fault → (file line : ℕ) → BuildEnd C B
  Refused : RefusedStep → BuildEnd C B
  EntryMissing : BuildEnd C B
  Spent : (budget : ℕ) → BuildEnd C B

-- The number of the instruction, which counts from 1 in the budget that runs. One that is taken is no longer among those
-- left; a line, the end and the finish stand before the next one.
abbrev pub number_at : {C B : Type 0} → Doing → Progress C B → ℕ
number_at Instruction p = p.budget - p.left
number_at Giving p = p.budget - p.left + 1
number_at Finishing p = p.budget - p.left + 1

abbrev pub end_failed : {C B : Type 0} → Fault → Doing → Progress C B → BuildEnd C B
end_failed (Throw code) doing p = Failed (Throw code) p.file p.line
end_failed (IsRefused first second why) doing p =
    Refused (record { doing = doing; number = number_at doing p; token = p.last; first = first; second = second; why = why; file = p.file; line = p.line })
end_failed NoMemory doing p = Failed NoMemory p.file p.line

abbrev pub end_finished : {C B : Type 0} → Progress C B → Finished → BuildEnd C B
end_finished p (Ready used) = Done p.machine used (p.budget - p.left)
end_finished p NoEntry = EntryMissing

-- the end of a build whose machine has halted; a fault of the finish stands at the last file and its number of lines,
-- and at the first token
abbrev pub end_halted : {C B : Type 0} → (texts : List (List ℕ)) → Progress C B → Result (Finished × Machine C B) Fault → BuildEnd C B
end_halted texts p (Ok r) = end_finished (record p { machine = r.1 }) r.0
end_halted texts p (Err f) = end_failed f Finishing (record p { file = length texts; line = last_line_count texts; last = first_token })

-- the end of a build that has stopped; where the input has ended it doesn't stop at a wait
abbrev pub end_of : {C B : Type 0} → Ops C B → (texts : List (List ℕ)) → (entry : Option (List ℕ)) → Stopped C B → BuildEnd C B
end_of ops texts entry (Wants p) = Spent p.budget
end_of ops texts entry (Halts p) = end_halted texts p (outcome_of ops (finish entry) p.machine [])
end_of ops texts entry (Fails f doing p) = end_failed f doing p
end_of ops texts entry (RunsOut p) = Spent p.budget

-- the lines of the kernel's prelude, which is file 0, and the instructions that it may take
abbrev pub lines_of_prelude : Kernel → List NumberedLine
lines_of_prelude kernel = numbered 0 1 (lines_of kernel.prelude)

unfoldable pub prelude_budget : ℕ
prelude_budget = 1000000

abbrev pub beginning : {C B : Type 0} → (budget : ℕ) → Machine C B → Progress C B
beginning budget m = record { machine = m; budget = budget; left = budget; file = 0; line = 0; last = first_token }

-- the sources have a budget of their own from where their first line is wanted
abbrev pub with_budget : {C B : Type 0} → (turns : ℕ) → Progress C B → Progress C B
with_budget turns p = record p { budget = turns; left = turns }

-- the prelude is interpreted first, with so many instructions
unfoldable pub prelude_done : {C B : Type 0} → Kernel → Ops C B → (budget : ℕ) → Machine C B → Stopped C B
prelude_done kernel ops budget m = on_wait (advanced kernel ops false budget (beginning budget m)) (λ p. lines_given kernel ops (lines_of_prelude kernel) p)

unfoldable pub prelude_emitted : {C B : Type 0} → Kernel → Ops C B → (budget : ℕ) → Machine C B → List ℕ
prelude_emitted kernel ops budget m = emitted kernel ops false budget m ++ emitted_on_wait (advanced kernel ops false budget (beginning budget m)) (λ p. lines_emitted kernel ops (lines_of_prelude kernel) p)

-- then the sources
abbrev pub sources_done : {C B : Type 0} → Kernel → Ops C B → (texts : List (List ℕ)) → (turns : ℕ) → Stopped C B → Stopped C B
sources_done kernel ops texts turns s = on_wait s (λ p. lines_given kernel ops (lines_of_all 1 texts) (with_budget turns p))

abbrev pub sources_emitted : {C B : Type 0} → Kernel → Ops C B → (texts : List (List ℕ)) → (turns : ℕ) → Stopped C B → List ℕ
sources_emitted kernel ops texts turns s = emitted_on_wait s (λ p. lines_emitted kernel ops (lines_of_all 1 texts) (with_budget turns p))

-- then the end of the input
abbrev pub input_done : {C B : Type 0} → Kernel → Ops C B → Stopped C B → Stopped C B
input_done kernel ops s = on_wait s (λ p. end_given ops (advanced kernel ops true p.left) p)

abbrev pub input_emitted : {C B : Type 0} → Kernel → Ops C B → Stopped C B → List ℕ
input_emitted kernel ops s = emitted_on_wait s (λ p. end_emitted ops (emitted kernel ops true p.left) p.machine)

-- where a build stops from a machine on, with two budgets, one for the prelude and one for the sources; and what it emits
abbrev pub stop_from : {C B : Type 0} → Kernel → Ops C B → (texts : List (List ℕ)) → (budget turns : ℕ) → Machine C B → Stopped C B
stop_from kernel ops texts budget turns m = input_done kernel ops (sources_done kernel ops texts turns (prelude_done kernel ops budget m))

abbrev pub emitted_from : {C B : Type 0} → Kernel → Ops C B → (texts : List (List ℕ)) → (budget turns : ℕ) → Machine C B → List ℕ
emitted_from kernel ops texts budget turns m =
    prelude_emitted kernel ops budget m ++ sources_emitted kernel ops texts turns (prelude_done kernel ops budget m)
    ++ input_emitted kernel ops (sources_done kernel ops texts turns (prelude_done kernel ops budget m))

-- the same where the seed was laid, at the interpreter's loop
abbrev pub stop_seeded : {C B : Type 0} → Kernel → Ops C B → (texts : List (List ℕ)) → (budget turns : ℕ) → (blank : Machine C B) → Result (Unit {0} × Machine C B) Fault → Stopped C B
stop_seeded kernel ops texts budget turns blank (Ok r) = stop_from kernel ops texts budget turns (at_loop ops r.1)
stop_seeded kernel ops texts budget turns blank (Err f) = Fails f Giving (beginning budget blank)

abbrev pub emitted_seeded : {C B : Type 0} → Kernel → Ops C B → (texts : List (List ℕ)) → (budget turns : ℕ) → Result (Unit {0} × Machine C B) Fault → List ℕ
emitted_seeded kernel ops texts budget turns (Ok r) = emitted_from kernel ops texts budget turns (at_loop ops r.1)
emitted_seeded kernel ops texts budget turns (Err f) = []

-- where a fresh build of these texts from a kernel on stops, in a region of that size, and what it emits
unfoldable pub fresh_stop : {C B : Type 0} → Kernel → Ops C B → (size : ℕ) → (texts : List (List ℕ)) → (budget turns : ℕ) → Stopped C B
fresh_stop kernel ops size texts budget turns = stop_seeded kernel ops texts budget turns (blank_machine ops size) (outcome_of ops (seed kernel) (blank_machine ops size) [])

unfoldable pub fresh_emitted : {C B : Type 0} → Kernel → Ops C B → (size : ℕ) → (texts : List (List ℕ)) → (budget turns : ℕ) → List ℕ
fresh_emitted kernel ops size texts budget turns = emitted_seeded kernel ops texts budget turns (outcome_of ops (seed kernel) (blank_machine ops size) [])

-- what a build emits, and how it ends
pub record Build (C B : Type 0) : Type 0 where
  pub output : List ℕ
  pub end : BuildEnd C B

-- A fresh build of these texts from a kernel on, with an entry name or none, in a region of that size and with so many
-- turns.
unfoldable pub fresh_build : {C B : Type 0} → Kernel → Ops C B → (size : ℕ) → (texts : List (List ℕ)) → (entry : Option (List ℕ)) → (turns : ℕ) → Build C B
fresh_build kernel ops size texts entry turns = record {
  output = fresh_emitted kernel ops size texts prelude_budget turns;
  end = end_of ops texts entry (fresh_stop kernel ops size texts prelude_budget turns);
}
