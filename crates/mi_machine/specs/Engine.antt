-- What a machine is seen as, and how it goes on.
use Rattle.std.specs.Prelude.{ℕ, zero, suc, ◌+◌, ◌≡◌, ◌⊎◌, Bool, true, false, IsTrue, [], Option, None, Some, Result, Ok, Err}
use Rattle.mi_model.specs.declared.Fault.{Fault}
use Rattle.mi_model.specs.declared.Fault.TheVariants.{Throw, Refused, NoMemory as OutOfMemory}
use Rattle.mi_model.specs.declared.Effect.{Effect}
use Rattle.mi_model.specs.declared.Effect.TheVariants.{Went, Emit, Want, Halt}
use Rattle.mi_model.specs.declared.Pair.{Pair}
use Rattle.mi_model.specs.declared.Token.{Token}
use Rattle.mi_model.specs.Ops.{Ops}
use Rattle.mi_model.specs.Machine.{Machine}
use Rattle.mi_model.specs.Action.{Action, AnswerKind}
use Rattle.mi_model.specs.Outcome.{outcome_of}
use Rattle.mi_model.specs.Kernel.{whole_kernel}
use Rattle.mi_model.specs.Table.{step}
use Rattle.mi_model.specs.Tokens.{token_of, last_token, first_token}
use Rattle.mi_model.specs.Met.{operations_met, Begins}
use Rattle.mi_model.specs.Plain.{plain_ops}
use Rattle.mi_model.specs.Stands.{MachineStands, Agrees, OutcomeStands}
use Rattle.mi_region.specs.View.{StateView, leading}
use Rattle.mi_machine.specs.declared.machine.Advanced.{Advanced}
use Rattle.mi_machine.specs.declared.machine.Stop.{Stop}
use Rattle.mi_machine.specs.declared.machine.Stop.TheVariants.{Halted, WantLine, Emit as StoppedEmitting, Thrown, Refused as StoppedRefused, Spent, NoMemory}

-- a state, the stop that lasts, if there is one, and the last token whose tag was found
pub record Engine (A C B : Type 0) : Type 0 where
  pub state : StateView A C B
  pub stop : Option Stop
  pub last : Token

-- the stop of a fault; a refusal is met at a token
abbrev pub stop_of_fault : Token → Fault → Stop
stop_of_fault t (Throw code) = Thrown code
stop_of_fault t (Refused first second why) = StoppedRefused t.offset t.tag first second why
stop_of_fault t OutOfMemory = NoMemory

-- is a machine stopped by a throw
abbrev pub has_thrown : Option Stop → Bool
has_thrown None = false
has_thrown (Some Halted) = false
has_thrown (Some WantLine) = false
has_thrown (Some (StoppedEmitting b)) = false
has_thrown (Some (Thrown code)) = true
has_thrown (Some (StoppedRefused offset tag first second why)) = false
has_thrown (Some Spent) = false
has_thrown (Some NoMemory) = false

-- what an instruction with this effect answers
abbrev pub answer_of : Effect → Result (Unit {0}) Stop
answer_of Went = Ok tt
answer_of (Emit b) = Err (StoppedEmitting b)
answer_of Want = Err WantLine
answer_of Halt = Err Halted

-- the stop that lasts after it
abbrev pub lasting : Effect → Option Stop
lasting Went = None
lasting (Emit b) = None
lasting Want = Some WantLine
lasting Halt = Some Halted

-- what an instruction answers to a machine that isn't stopped, and the engine after it; this token is the last whose tag
-- was found, also where the instruction has a fault
abbrev pub stepped : {A C B : Type 0} → StateView A C B → (last : Token) → Result (Effect × StateView A C B) Fault → Result (Unit {0}) Stop × Engine A C B
stepped old last (Ok r) = (answer_of r.0, record { state = r.1; stop = lasting r.0; last = last })
stepped old last (Err f) = (Err (stop_of_fault last f), record { state = old; stop = Some (stop_of_fault last f); last = last })

-- what giving a line answers to a machine that wants one, and the engine after it
abbrev pub lined : {A C B : Type 0} → StateView A C B → (last : Token) → Result (Unit {0} × StateView A C B) Fault → Result (Unit {0}) Stop × Engine A C B
lined old last (Ok r) = (Ok tt, record { state = r.1; stop = None; last = last })
lined old last (Err f) = (Err (stop_of_fault last f), record { state = old; stop = Some (stop_of_fault last f); last = last })

-- the same of the start of a run, which may have an entry word or not
abbrev pub started : {A C B : Type 0} → StateView A C B → (last : Token) → Result (Bool × StateView A C B) Fault → Result (Unit {0}) Stop × Engine A C B
started old last (Ok r) = (Ok tt, record { state = r.1; stop = None; last = last })
started old last (Err f) = (Err (stop_of_fault last f), record { state = old; stop = Some (stop_of_fault last f); last = last })

-- the same of a finish, which gives a value, leaves the machine halted, and is refused at the first token
abbrev pub finished : {X A C B : Type 0} → StateView A C B → (last : Token) → Result (X × StateView A C B) Fault → Result X Stop × Engine A C B
finished old last (Ok r) = (Ok r.0, record { state = r.1; stop = Some Halted; last = last })
finished old last (Err f) = (Err (stop_of_fault first_token f), record { state = old; stop = Some (stop_of_fault first_token f); last = last })

-- The answer and the engine are those that are told, unless there is no memory, which only an arithmetic that grows
-- may lack.
abbrev pub Moves : {X A C B : Type 0} → Bool → Result X Stop → Engine A C B → Result X Stop × Engine A C B → Type 0
Moves grows result new told =
    ((result ≡ told.0) × (new ≡ told.1)) ⊎ ((result ≡ Err NoMemory) × (new.stop ≡ Some NoMemory) × IsTrue grows)

-- how far a machine advances: why it stops, the instructions taken, and then the state and the last token whose tag was
-- found
pub record Course (A C B : Type 0) : Type 0 where
  pub stop : Stop
  pub taken : ℕ
  pub state : StateView A C B
  pub last : Token

-- after an instruction that is counted with this effect
abbrev pub course_after : {A C B : Type 0} → (ℕ → StateView A C B → Token → Course A C B) → (taken : ℕ) → StateView A C B → (last : Token) → Effect → Course A C B
course_after rest taken s last Went = rest taken s last
course_after rest taken s last (Emit b) = record { stop = StoppedEmitting b; taken = taken; state = s; last = last }
course_after rest taken s last Want = record { stop = WantLine; taken = taken; state = s; last = last }
course_after rest taken s last Halt = record { stop = Halted; taken = taken; state = s; last = last }

-- an instruction that throws counts as taken, and one that is refused doesn't
abbrev pub count_of_fault : (taken : ℕ) → Fault → ℕ
count_of_fault taken (Throw code) = taken + 1
count_of_fault taken (Refused first second why) = taken
count_of_fault taken OutOfMemory = taken

abbrev pub course_by : {A C B : Type 0} → (ℕ → StateView A C B → Token → Course A C B) → (taken : ℕ) → StateView A C B → (last : Token) → Result (Effect × StateView A C B) Fault → Course A C B
course_by rest taken s last (Ok r) = course_after rest (taken + 1) r.1 last r.0
course_by rest taken s last (Err f) = record { stop = stop_of_fault last f; taken = count_of_fault taken f; state = s; last = last }

-- at most so many instructions, up to the first that stops the machine; the token is the last whose tag was found before
abbrev pub course_of : {A C B : Type 0} → Ops C B → (turns taken : ℕ) → StateView A C B → (last : Token) → Course A C B
course_of ops zero taken s last = record { stop = Spent; taken = taken; state = s; last = last }
course_of ops (suc turns) taken s last =
    course_by (λ t u l. course_of ops turns t u l) taken s (last_token last (token_of ops s.machine)) (leading s (outcome_of ops (step whole_kernel) s.machine []))

-- the stop that lasts after advancing
abbrev pub lasting_stop : Stop → Option Stop
lasting_stop Halted = Some Halted
lasting_stop WantLine = Some WantLine
lasting_stop (StoppedEmitting b) = None
lasting_stop (Thrown code) = Some (Thrown code)
lasting_stop (StoppedRefused offset tag first second why) = Some (StoppedRefused offset tag first second why)
lasting_stop Spent = None
lasting_stop NoMemory = Some NoMemory

-- The stop, the number of instructions, the state and the last token are those of a course, unless there is no memory.
abbrev pub Runs : {A C B : Type 0} → Bool → Stop × ℕ → StateView A C B → (last : Token) → Course A C B → Type 0
Runs grows result new last told =
    ((result.0 ≡ told.stop) × (result.1 ≡ told.taken) × (new ≡ told.state) × (last ≡ told.last)) ⊎ ((result.0 ≡ NoMemory) × IsTrue grows)

-- The stop, the number of instructions and the engine are those of a course, unless there is no memory.
abbrev pub Advances : {A C B : Type 0} → Bool → Advanced → Engine A C B → Course A C B → Type 0
Advances grows result new told =
    ((result ≡ record { stop = told.stop; taken = told.taken }) × (new ≡ record { state = told.state; stop = lasting_stop told.stop; last = told.last }))
    ⊎ ((result.stop ≡ NoMemory) × (new.stop ≡ Some NoMemory) × IsTrue grows)

-- At each pair that the arithmetic covers, an action on the machine agrees with the action on the plain machine that it
-- stands for.
abbrev pub Forward : {i : AnswerKind} {C B : Type 0} (ops : Ops C B) (size : ℕ) (covers : Pair → Type 0) (stands : C → Pair → ℕ → Type 0) (byte_stands : B → Pair → ℕ → Type 0) → Action i → Machine C B → Type 0
Forward ops size covers stands byte_stands action m = (pair : Pair) (n : Machine ℕ ℕ) → covers pair
    → MachineStands (λ x k. stands x pair k) (λ b k. byte_stands b pair k) m n
    → Agrees (OutcomeStands (λ x k. stands x pair k) (λ b k. byte_stands b pair k)) (outcome_of ops action m []) (outcome_of (plain_ops pair size) action n [])

-- At each such pair, the operations that the action does stand for the first of those that it does on the plain machine.
abbrev pub MeetsFirst : {i : AnswerKind} {C B : Type 0} (ops : Ops C B) (size : ℕ) (covers : Pair → Type 0) (stands : C → Pair → ℕ → Type 0) (byte_stands : B → Pair → ℕ → Type 0) → Action i → Machine C B → Type 0
MeetsFirst ops size covers stands byte_stands action m = (pair : Pair) (n : Machine ℕ ℕ) → covers pair
    → MachineStands (λ x k. stands x pair k) (λ b k. byte_stands b pair k) m n
    → Begins (λ x k. stands x pair k) (operations_met ops action m []) (operations_met (plain_ops pair size) action n [])
