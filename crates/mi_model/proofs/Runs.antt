-- A run over an arithmetic agrees with that over one that it stands for.
use Rattle.std.proofs.Common.{ℕ, zero, suc, List, [], ◌∷◌, ◌++◌, Bool, true, false, cond, Result, Ok, append_assoc, ℤ}
use Rattle.mi_model.specs.declared.Fault.{Fault}
use Rattle.mi_model.specs.declared.Form.{Form}
use Rattle.mi_model.specs.declared.Why.{Why}
use Rattle.mi_model.specs.declared.Fault.TheVariants.{Throw, Refused}
use Rattle.mi_model.specs.declared.Effect.{Effect}
use Rattle.mi_model.specs.declared.Effect.TheVariants.{Went, Emit, Want, Halt}
use Rattle.mi_model.specs.Ops.{Ops}
use Rattle.mi_model.specs.Machine.{Machine}
use Rattle.mi_model.specs.Outcome.{outcome_of}
use Rattle.mi_model.specs.Kernel.{Kernel}
use Rattle.mi_model.specs.Table.{step}
use Rattle.mi_model.specs.Input.{give_line, give_end}
use Rattle.mi_model.specs.Recovery.{recover, recovery_text}
use Rattle.mi_model.specs.Stands.{Each, Simulates, MachineStands, Agrees, OutcomeStands}
use Rattle.mi_model.specs.Stands.Each.{none}
use Rattle.mi_model.specs.Stands.OptionStands.{nothing}
use Rattle.mi_model.specs.Stands.WaitStands.{idle}
use Rattle.mi_model.specs.Stands.Agrees.{both, thrown, refused}
use Rattle.mi_model.specs.Run.{Run, Course, Rest, Input, ends, writes, after_recovery, after_line, after_end, at_wait, after_instruction, run_on, run_started, run, start_entry, machine_on, input_of}
use Rattle.mi_model.specs.Run.RunEnd.{Bye, Thrown, Spent, InputTooLong, Broken}
use Rattle.mi_model.specs.Agreeing.{RunAgrees}
use Rattle.mi_model.specs.Agreeing.RunAgrees.{same, refused as run_refused}
use Rattle.mi_model.proofs.Sim.{sim}

-- bytes in front of what is written
after_bytes : {r s : Run} (front : List ℕ) → RunAgrees r s → RunAgrees (writes front r) (writes front s)
after_bytes front (same r) = same (writes front r)
after_bytes front (run_refused a b why end out rest) = rw (← append_assoc front out rest) (run_refused a b why end (front ++ out) rest)

broken_agrees : (a b : Form) (why : Why) (s : Run) → RunAgrees (ends (Broken (Refused a b why))) s
broken_agrees a b why s = run_refused a b why s.end [] s.output

module _ {C B D E : Type 0} (cell : C → D → Type 0) (byte : B → E → Type 0) (O : Ops C B) (P : Ops D E) (laws : Simulates cell byte O P) where
  abbrev RestAgrees : Rest C B → Rest D E → Type 0
  RestAgrees f g = (c : Course) (m : Machine C B) (n : Machine D E) → MachineStands cell byte m n → RunAgrees (f c m) (g c n)

  recovered_agrees : (f : Rest C B) (g : Rest D E) → RestAgrees f g → (c : Course) (code : ℤ) (r : Result (Unit {0} × Machine C B) Fault) (s : Result (Unit {0} × Machine D E) Fault) → Agrees (OutcomeStands cell byte) r s
      → RunAgrees (after_recovery f c code r) (after_recovery g c code s)
  recovered_agrees f g k c code (Ok x) (Ok y) (both e) = after_bytes (recovery_text code) (k c x.1 y.1 e.machine)
  recovered_agrees f g k c code _ _ (thrown other) = same (ends (Broken (Throw other)))
  recovered_agrees f g k c code _ _ (refused a b why t) = broken_agrees a b why (after_recovery g c code t)

  thrown_agrees : (f : Rest C B) (g : Rest D E) → RestAgrees f g → (c : Course) (entered : Bool) (code : ℤ) (m : Machine C B) (n : Machine D E) → MachineStands cell byte m n
      → RunAgrees (cond entered (ends (Thrown code)) (after_recovery f c code (outcome_of O recover m []))) (cond entered (ends (Thrown code)) (after_recovery g c code (outcome_of P recover n [])))
  thrown_agrees f g k c true code m n h = same (ends (Thrown code))
  thrown_agrees f g k c false code m n h = recovered_agrees f g k c code _ _ (sim cell byte O P laws recover _ _ _ _ h none)

  lined_agrees : (f : Rest C B) (g : Rest D E) → RestAgrees f g → (c : Course) (m : Machine C B) (n : Machine D E) → MachineStands cell byte m n → (r : Result (Unit {0} × Machine C B) Fault) (s : Result (Unit {0} × Machine D E) Fault) → Agrees (OutcomeStands cell byte) r s
      → RunAgrees (after_line O f c m r) (after_line P g c n s)
  lined_agrees f g k c m n h (Ok x) (Ok y) (both e) = k c x.1 y.1 e.machine
  lined_agrees f g k c m n h _ _ (thrown code) = thrown_agrees f g k c c.entered code m n h
  lined_agrees f g k c m n h _ _ (refused a b why t) = broken_agrees a b why (after_line P g c n t)

  ended_agrees : (f : Rest C B) (g : Rest D E) → RestAgrees f g → (c : Course) (m : Machine C B) (n : Machine D E) → MachineStands cell byte m n → (e : Effect) (v : Machine C B) (w : Machine D E) → MachineStands cell byte v w
      → RunAgrees (after_end O f c m (Ok (e, v))) (after_end P g c n (Ok (e, w)))
  ended_agrees f g k c m n h Went v w i = k c v w i
  ended_agrees f g k c m n h (Emit b) v w i = k c v w i
  ended_agrees f g k c m n h Want v w i = k c v w i
  ended_agrees f g k c m n h Halt v w i = same (ends Bye)

  end_agrees : (f : Rest C B) (g : Rest D E) → RestAgrees f g → (c : Course) (m : Machine C B) (n : Machine D E) → MachineStands cell byte m n → (r : Result (Effect × Machine C B) Fault) (s : Result (Effect × Machine D E) Fault) → Agrees (OutcomeStands cell byte) r s
      → RunAgrees (after_end O f c m r) (after_end P g c n s)
  end_agrees f g k c m n h (Ok x) (Ok y) (both e) = rw e.answer (ended_agrees f g k c m n h y.0 x.1 y.1 e.machine)
  end_agrees f g k c m n h _ _ (thrown code) = thrown_agrees f g k c c.entered code m n h
  end_agrees f g k c m n h _ _ (refused a b why t) = broken_agrees a b why (after_end P g c n t)

  no_line_agrees : (f : Rest C B) (g : Rest D E) → RestAgrees f g → (longer : Bool) (c : Course) (m : Machine C B) (n : Machine D E) → MachineStands cell byte m n
      → RunAgrees (cond longer (ends InputTooLong) (after_end O f c m (outcome_of O give_end m []))) (cond longer (ends InputTooLong) (after_end P g c n (outcome_of P give_end n [])))
  no_line_agrees f g k true c m n h = same (ends InputTooLong)
  no_line_agrees f g k false c m n h = end_agrees f g k c m n h _ _ (sim cell byte O P laws give_end _ _ _ _ h none)

  wait_agrees : (f : Rest C B) (g : Rest D E) → RestAgrees f g → (lines : List (List ℕ)) (c : Course) (m : Machine C B) (n : Machine D E) → MachineStands cell byte m n → RunAgrees (at_wait O f lines c m) (at_wait P g lines c n)
  wait_agrees f g k [] c m n h = no_line_agrees f g k c.longer c m n h
  wait_agrees f g k (line ∷ lines) c m n h = lined_agrees f g k (record c { lines = lines }) m n h _ _ (sim cell byte O P laws (give_line line) _ _ _ _ h none)

  effect_agrees : (f : Rest C B) (g : Rest D E) → RestAgrees f g → (c : Course) (m : Machine C B) (n : Machine D E) (e : Effect) (v : Machine C B) (w : Machine D E) → MachineStands cell byte v w
      → RunAgrees (after_instruction O f c m (Ok (e, v))) (after_instruction P g c n (Ok (e, w)))
  effect_agrees f g k c m n Went v w i = k c v w i
  effect_agrees f g k c m n (Emit b) v w i = after_bytes (b ∷ []) (k c v w i)
  effect_agrees f g k c m n Want v w i = wait_agrees f g k c.lines c v w i
  effect_agrees f g k c m n Halt v w i = same (ends Bye)

  instruction_agrees : (f : Rest C B) (g : Rest D E) → RestAgrees f g → (c : Course) (m : Machine C B) (n : Machine D E) → MachineStands cell byte m n → (r : Result (Effect × Machine C B) Fault) (s : Result (Effect × Machine D E) Fault) → Agrees (OutcomeStands cell byte) r s
      → RunAgrees (after_instruction O f c m r) (after_instruction P g c n s)
  instruction_agrees f g k c m n h (Ok x) (Ok y) (both e) = rw e.answer (effect_agrees f g k c m n y.0 x.1 y.1 e.machine)
  instruction_agrees f g k c m n h _ _ (thrown code) = thrown_agrees f g k c c.entered code m n h
  instruction_agrees f g k c m n h _ _ (refused a b why t) = broken_agrees a b why (after_instruction P g c n t)

  going_agrees : (kernel : Kernel) (turns : ℕ) → RestAgrees (run_on kernel O turns) (run_on kernel P turns)
  going_agrees kernel zero c m n h = same (ends Spent)
  going_agrees kernel (suc turns) c m n h = instruction_agrees _ _ (going_agrees kernel turns) c m n h _ _ (sim cell byte O P laws (step kernel) _ _ _ _ h none)

  started_agrees : (kernel : Kernel) (turns : ℕ) (input : Input) (r : Result (Bool × Machine C B) Fault) (s : Result (Bool × Machine D E) Fault) → Agrees (OutcomeStands cell byte) r s
      → RunAgrees (run_started kernel O turns input r) (run_started kernel P turns input s)
  started_agrees kernel turns input (Ok x) (Ok y) (both e) = rw e.answer (going_agrees kernel turns (record { lines = input.lines; longer = input.longer; entered = y.0 }) x.1 y.1 e.machine)
  started_agrees kernel turns input _ _ (thrown code) = same (ends (Broken (Throw code)))
  started_agrees kernel turns input _ _ (refused a b why t) = broken_agrees a b why (run_started kernel P turns input t)

  -- a whole run
  pub runs_agree : (kernel : Kernel) (region : List B) (other : List E) (input : List ℕ) (turns : ℕ) → Each byte region other → RunAgrees (run kernel O region input turns) (run kernel P other input turns)
  unfolding run
  runs_agree kernel region other input turns h = started_agrees kernel turns (input_of input) _ _
      (sim cell byte O P laws start_entry (machine_on O region) (machine_on P other) [] [] (record { bytes = h; stack = none; rstack = none; ip = laws.plain 0; due = nothing; wait = idle }) none)
