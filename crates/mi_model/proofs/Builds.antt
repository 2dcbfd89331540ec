-- A build over an arithmetic agrees with that over one that it stands for.
use Rattle.std.proofs.Common.{Bool, true, false, ℕ, ℤ, ◌≡◌, zero, suc, ◌+◌, ◌-◌, List, [], ◌∷◌, ◌++◌, Option, Result, Ok, refl, subst, append_assoc, append-nil, length}
use Rattle.mi_model.specs.declared.Fault.{Fault}
use Rattle.mi_model.specs.declared.Fault.TheVariants.{Throw, Refused}
use Rattle.mi_model.specs.declared.Form.{Form}
use Rattle.mi_model.specs.declared.Why.{Why}
use Rattle.mi_model.specs.declared.Effect.{Effect}
use Rattle.mi_model.specs.declared.Effect.TheVariants.{Went, Emit, Want, Halt}
use Rattle.mi_model.specs.declared.Finished.{Finished}
use Rattle.mi_model.specs.declared.Finished.TheVariants.{Ready, NoEntry}
use Rattle.mi_model.specs.Ops.{Ops}
use Rattle.mi_model.specs.Machine.{Machine}
use Rattle.mi_model.specs.Kernel.{Kernel}
use Rattle.mi_model.specs.Table.{step}
use Rattle.mi_model.specs.Lines.{NumberedLine, lines_of_all, last_line_count}
use Rattle.mi_model.specs.Seed.{blank_machine, seed, at_loop}
use Rattle.mi_model.specs.Input.{give_line, give_end}
use Rattle.mi_model.specs.Finish.{finish}
use Rattle.mi_model.specs.Stands.{Simulates, MachineStands, Agrees, OutcomeStands}
use Rattle.mi_model.specs.Stands.Each.{none}
use Rattle.mi_model.specs.Stands.OptionStands.{nothing}
use Rattle.mi_model.specs.Stands.WaitStands.{idle}
use Rattle.mi_model.specs.Stands.Agrees.{both, thrown, refused}
use Rattle.mi_model.specs.Build.{Progress, Stopped, Doing, RefusedStep, Build, BuildEnd, after_effect, after_step, after_end, taking, end_given, at_wait, advanced, emitted_after, emitted_by, end_emitted, emitted_at_wait, emitted, on_wait, emitted_on_wait, after_line, emitted_after_line, line_given, line_emitted, lines_given, lines_emitted, number_at, end_failed, end_finished, end_halted, end_of, beginning, with_budget, lines_of_prelude, prelude_budget, prelude_done, prelude_emitted, sources_done, sources_emitted, input_done, input_emitted, stop_from, emitted_from, stop_seeded, emitted_seeded, fresh_stop, fresh_emitted, fresh_build}
use Rattle.mi_model.specs.Build.Doing.{Instruction, Giving, Finishing}
use Rattle.mi_model.specs.Build.BuildEnd.{Refused as StepRefused}
use Rattle.mi_model.specs.Tokens.{token_of, last_token, first_token}
use Rattle.mi_model.specs.declared.Token.{Token}
use Rattle.mi_model.specs.Agreeing.{ProgressStands, StopAgrees, BuildAgrees}
use Rattle.mi_model.specs.Agreeing.StopAgrees.{wants, halts, fails, runs_out, refused as stop_refused}
use Rattle.mi_model.specs.Agreeing.BuildAgrees.{done, failed, entry_missing, spent, refused as build_refused}
use Rattle.mi_model.proofs.Each.{each_replicate}
use Rattle.mi_model.proofs.Sim.{sim}

module _ {C B D E : Type 0} (cell : C → D → Type 0) (byte : B → E → Type 0) (O : Ops C B) (P : Ops D E) (laws : Simulates cell byte O P) where
  abbrev Same : Progress C B → Progress D E → Type 0
  Same p q = ProgressStands cell byte p q

  abbrev Stops : Stopped C B → List ℕ → Stopped D E → List ℕ → Type 0
  Stops s xs t ys = StopAgrees cell byte s xs t ys

  with_machine : {p : Progress C B} {q : Progress D E} {m : Machine C B} {n : Machine D E} → Same p q → MachineStands cell byte m n → Same (record p { machine = m }) (record q { machine = n })
  with_machine h e = record { machine = e; budget = h.budget; left = h.left; file = h.file; line = h.line }

  with_left : {p : Progress C B} {q : Progress D E} (left : ℕ) → Same p q → Same (record p { left = left }) (record q { left = left })
  with_left left h = record { machine = h.machine; budget = h.budget; left = refl; file = h.file; line = h.line }

  with_taken : {p : Progress C B} {q : Progress D E} (left : ℕ) → Same p q → Same (taking O left p) (taking P left q)
  with_taken left h = record { machine = h.machine; budget = h.budget; left = refl; file = h.file; line = h.line }

  with_last : {p : Progress C B} {q : Progress D E} (file line : ℕ) (t u : Token) → Same p q → Same (record p { file = file; line = line; last = t }) (record q { file = file; line = line; last = u })
  with_last file line t u h = record { machine = h.machine; budget = h.budget; left = h.left; file = refl; line = refl }

  with_line : {p : Progress C B} {q : Progress D E} (file line : ℕ) → Same p q → Same (record p { file = file; line = line }) (record q { file = file; line = line })
  with_line file line h = record { machine = h.machine; budget = h.budget; left = h.left; file = refl; line = refl }

  -- a byte in front of what is written
  first_byte : {s : Stopped C B} {t : Stopped D E} {xs ys : List ℕ} (b : ℕ) → Stops s xs t ys → Stops s (b ∷ xs) t (b ∷ ys)
  first_byte b (wants out h) = wants (b ∷ out) h
  first_byte b (halts out h) = halts (b ∷ out) h
  first_byte b (fails code doing out h) = fails code doing (b ∷ out) h
  first_byte b (runs_out out h) = runs_out (b ∷ out) h
  first_byte b (stop_refused a c why doing p s out rest) = stop_refused a c why doing p s (b ∷ out) rest

  -- more bytes in front of what is written
  first_bytes : {s : Stopped C B} {t : Stopped D E} {xs ys : List ℕ} (front : List ℕ) → Stops s xs t ys → Stops s (front ++ xs) t (front ++ ys)
  first_bytes [] h = h
  first_bytes (b ∷ bs) h = first_byte b (first_bytes bs h)

  -- what the rest does, and what it writes, agrees
  abbrev Rests : (Progress C B → Stopped C B) → (Progress D E → Stopped D E) → (Machine C B → List ℕ) → (Machine D E → List ℕ) → Type 0
  Rests f g fo go = (p : Progress C B) (q : Progress D E) → Same p q → Stops (f p) (fo p.machine) (g q) (go q.machine)

  -- what follows an instruction
  effect_agrees : (f fw : Progress C B → Stopped C B) (g gw : Progress D E → Stopped D E) (fo fwo : Machine C B → List ℕ) (go gwo : Machine D E → List ℕ)
      → Rests f g fo go → Rests fw gw fwo gwo
      → (e : Effect) (p : Progress C B) (q : Progress D E) → Same p q → Stops (after_effect f fw p e) (emitted_after fo fwo p.machine e) (after_effect g gw q e) (emitted_after go gwo q.machine e)
  effect_agrees f fw g gw fo fwo go gwo k w Went p q h = k p q h
  effect_agrees f fw g gw fo fwo go gwo k w (Emit b) p q h = first_byte b (k p q h)
  effect_agrees f fw g gw fo fwo go gwo k w Want p q h = w p q h
  effect_agrees f fw g gw fo fwo go gwo k w Halt p q h = halts [] h

  step_agrees : (f fw : Progress C B → Stopped C B) (g gw : Progress D E → Stopped D E) (fo fwo : Machine C B → List ℕ) (go gwo : Machine D E → List ℕ)
      → Rests f g fo go → Rests fw gw fwo gwo
      → (r : Result (Effect × Machine C B) Fault) (s : Result (Effect × Machine D E) Fault) (p : Progress C B) (q : Progress D E) → Same p q → Agrees (OutcomeStands cell byte) r s
      → Stops (after_step f fw p r) (emitted_by fo fwo r) (after_step g gw q s) (emitted_by go gwo s)
  step_agrees f fw g gw fo fwo go gwo k w (Ok x) (Ok y) p q h (both e) = rw e.answer (effect_agrees f fw g gw fo fwo go gwo k w y.0 (record p { machine = x.1 }) (record q { machine = y.1 }) (with_machine h e.machine))
  step_agrees f fw g gw fo fwo go gwo k w _ _ p q h (thrown code) = fails code Instruction [] h
  step_agrees f fw g gw fo fwo go gwo k w _ _ p q h (refused a b why t) = stop_refused a b why Instruction p (after_step g gw q t) [] (emitted_by go gwo t)

  -- the end of the input, and a wait
  after_end_agrees : (f : Progress C B → Stopped C B) (g : Progress D E → Stopped D E) (fo : Machine C B → List ℕ) (go : Machine D E → List ℕ) → Rests f g fo go
      → (r : Result (Effect × Machine C B) Fault) (s : Result (Effect × Machine D E) Fault) (p : Progress C B) (q : Progress D E) → Same p q → Agrees (OutcomeStands cell byte) r s
      → Stops (after_end f p r) (emitted_by fo (λ n. []) r) (after_end g q s) (emitted_by go (λ n. []) s)
  after_end_agrees f g fo go k (Ok x) (Ok y) p q h (both e) =
      rw e.answer (effect_agrees f _ g _ fo (λ n. []) go (λ n. []) k (λ v w i. wants [] i) y.0 (record p { machine = x.1 }) (record q { machine = y.1 }) (with_machine h e.machine))
  after_end_agrees f g fo go k _ _ p q h (thrown code) = fails code Giving [] h
  after_end_agrees f g fo go k _ _ p q h (refused a b why t) = stop_refused a b why Giving p (after_end g q t) [] (emitted_by go (λ n. []) t)

  end_agrees : (f : Progress C B → Stopped C B) (g : Progress D E → Stopped D E) (fo : Machine C B → List ℕ) (go : Machine D E → List ℕ) → Rests f g fo go
      → (p : Progress C B) (q : Progress D E) → Same p q → Stops (end_given O f p) (end_emitted O fo p.machine) (end_given P g q) (end_emitted P go q.machine)
  end_agrees f g fo go k p q h = after_end_agrees f g fo go k _ _ p q h (sim cell byte O P laws give_end _ _ _ _ h.machine none)

  at_wait_agrees : (f : Progress C B → Stopped C B) (g : Progress D E → Stopped D E) (fo : Machine C B → List ℕ) (go : Machine D E → List ℕ) → Rests f g fo go
      → (ended : Bool) (p : Progress C B) (q : Progress D E) → Same p q → Stops (at_wait O ended f p) (emitted_at_wait O ended fo p.machine) (at_wait P ended g q) (emitted_at_wait P ended go q.machine)
  at_wait_agrees f g fo go k false p q h = wants [] h
  at_wait_agrees f g fo go k true p q h = end_agrees f g fo go k p q h

  advanced_agrees : (kernel : Kernel) (ended : Bool) (left : ℕ) (p : Progress C B) (q : Progress D E) → Same p q
      → Stops (advanced kernel O ended left p) (emitted kernel O ended left p.machine) (advanced kernel P ended left q) (emitted kernel P ended left q.machine)
  advanced_agrees kernel ended zero p q h = runs_out [] (with_left 0 h)
  advanced_agrees kernel ended (suc left) p q h =
      step_agrees _ _ _ _ (λ m. emitted kernel O ended left m) (λ m. emitted_at_wait O ended (emitted kernel O ended left) m) (λ m. emitted kernel P ended left m) (λ m. emitted_at_wait P ended (emitted kernel P ended left) m)
      (λ v w e. advanced_agrees kernel ended left v w e) (λ v w e. at_wait_agrees _ _ (λ m. emitted kernel O ended left m) (λ m. emitted kernel P ended left m) (λ x y i. advanced_agrees kernel ended left x y i) ended v w e) _ _ _ _ (with_taken left h)
      (sim cell byte O P laws (step kernel) _ _ _ _ h.machine none)

  going_agrees : (kernel : Kernel) (left left' : ℕ) (p : Progress C B) (q : Progress D E) → left ≡ left' → Same p q
      → Stops (advanced kernel O false left p) (emitted kernel O false left p.machine) (advanced kernel P false left' q) (emitted kernel P false left' q.machine)
  going_agrees kernel left left' p q e h = rw e (advanced_agrees kernel false left' p q h)

  -- what follows a wait
  wait_agrees : {s : Stopped C B} {t : Stopped D E} {xs ys : List ℕ} (f : Progress C B → Stopped C B) (g : Progress D E → Stopped D E) (fo : Progress C B → List ℕ) (go : Progress D E → List ℕ)
      → Stops s xs t ys → ((p : Progress C B) (q : Progress D E) → Same p q → Stops (f p) (fo p) (g q) (go q))
      → Stops (on_wait s f) (xs ++ emitted_on_wait s fo) (on_wait t g) (ys ++ emitted_on_wait t go)
  wait_agrees f g fo go (wants out h) k = first_bytes out (k _ _ h)
  wait_agrees f g fo go (halts out h) k = halts (out ++ []) h
  wait_agrees f g fo go (fails code doing out h) k = fails code doing (out ++ []) h
  wait_agrees f g fo go (runs_out out h) k = runs_out (out ++ []) h
  wait_agrees f g fo go (stop_refused a b why doing p s out rest) k = rw (append_assoc out rest (emitted_on_wait s go)) (rw (append-nil out) (stop_refused a b why doing p (on_wait s g) out (rest ++ emitted_on_wait s go)))

  -- a line is given, and the instructions after it
  after_line_agrees : (kernel : Kernel) (r : Result (Unit {0} × Machine C B) Fault) (s : Result (Unit {0} × Machine D E) Fault) (p : Progress C B) (q : Progress D E) → Same p q → Agrees (OutcomeStands cell byte) r s
      → Stops (after_line kernel O p r) (emitted_after_line kernel O p.left r) (after_line kernel P q s) (emitted_after_line kernel P q.left s)
  after_line_agrees kernel (Ok x) (Ok y) p q h (both e) = going_agrees kernel p.left q.left (record p { machine = x.1 }) (record q { machine = y.1 }) h.left (with_machine h e.machine)
  after_line_agrees kernel _ _ p q h (thrown code) = fails code Giving [] h
  after_line_agrees kernel _ _ p q h (refused a b why t) = stop_refused a b why Giving p (after_line kernel P q t) [] (emitted_after_line kernel P q.left t)

  line_agrees : (kernel : Kernel) (l : NumberedLine) (p : Progress C B) (q : Progress D E) → Same p q
      → Stops (line_given kernel O l p) (line_emitted kernel O l p) (line_given kernel P l q) (line_emitted kernel P l q)
  line_agrees kernel l p q h = after_line_agrees kernel _ _ (record p { file = l.file; line = l.line }) (record q { file = l.file; line = l.line }) (with_line l.file l.line h) (sim cell byte O P laws (give_line l.text) _ _ _ _ h.machine none)

  lines_agree : (kernel : Kernel) (ls : List NumberedLine) (p : Progress C B) (q : Progress D E) → Same p q
      → Stops (lines_given kernel O ls p) (lines_emitted kernel O ls p) (lines_given kernel P ls q) (lines_emitted kernel P ls q)
  lines_agree kernel [] p q h = wants [] h
  lines_agree kernel (l ∷ ls) p q h = wait_agrees _ _ (λ v. lines_emitted kernel O ls v) (λ v. lines_emitted kernel P ls v) (line_agrees kernel l p q h) (λ v w e. lines_agree kernel ls v w e)

  -- the end of the input
  going_at_end_agrees : (kernel : Kernel) (left left' : ℕ) (p : Progress C B) (q : Progress D E) → left ≡ left' → Same p q
      → Stops (end_given O (advanced kernel O true left) p) (end_emitted O (emitted kernel O true left) p.machine) (end_given P (advanced kernel P true left') q) (end_emitted P (emitted kernel P true left') q.machine)
  going_at_end_agrees kernel left left' p q e h = rw e (end_agrees _ _ (λ m. emitted kernel O true left' m) (λ m. emitted kernel P true left' m) (λ v w f. advanced_agrees kernel true left' v w f) p q h)

  rest_at_end_agrees : (kernel : Kernel) (p : Progress C B) (q : Progress D E) → Same p q
      → Stops (end_given O (advanced kernel O true p.left) p) (end_emitted O (emitted kernel O true p.left) p.machine) (end_given P (advanced kernel P true q.left) q) (end_emitted P (emitted kernel P true q.left) q.machine)
  rest_at_end_agrees kernel p q h = going_at_end_agrees kernel p.left q.left p q h.left h

  -- prelude, sources and the end of the input
  beginning_agrees : (budget : ℕ) {m : Machine C B} {n : Machine D E} → MachineStands cell byte m n → Same (beginning budget m) (beginning budget n)
  beginning_agrees budget h = record { machine = h; budget = refl; left = refl; file = refl; line = refl }

  prelude_agrees : (kernel : Kernel) (budget : ℕ) (m : Machine C B) (n : Machine D E) → MachineStands cell byte m n
      → Stops (prelude_done kernel O budget m) (prelude_emitted kernel O budget m) (prelude_done kernel P budget n) (prelude_emitted kernel P budget n)
  unfolding prelude_done prelude_emitted
  prelude_agrees kernel budget m n h = wait_agrees _ _ (λ v. lines_emitted kernel O (lines_of_prelude kernel) v) (λ v. lines_emitted kernel P (lines_of_prelude kernel) v)
      (advanced_agrees kernel false budget (beginning budget m) (beginning budget n) (beginning_agrees budget h)) (λ v w e. lines_agree kernel (lines_of_prelude kernel) v w e)

  with_turns : {p : Progress C B} {q : Progress D E} (turns : ℕ) → Same p q → Same (with_budget turns p) (with_budget turns q)
  with_turns turns h = record { machine = h.machine; budget = refl; left = refl; file = h.file; line = h.line }

  sources_agree : {s : Stopped C B} {t : Stopped D E} {xs ys : List ℕ} (kernel : Kernel) (texts : List (List ℕ)) (turns : ℕ) → Stops s xs t ys
      → Stops (sources_done kernel O texts turns s) (xs ++ sources_emitted kernel O texts turns s) (sources_done kernel P texts turns t) (ys ++ sources_emitted kernel P texts turns t)
  sources_agree kernel texts turns h = wait_agrees _ _ (λ v. lines_emitted kernel O (lines_of_all 1 texts) (with_budget turns v)) (λ v. lines_emitted kernel P (lines_of_all 1 texts) (with_budget turns v)) h
      (λ v w e. lines_agree kernel (lines_of_all 1 texts) (with_budget turns v) (with_budget turns w) (with_turns turns e))

  input_agrees : {s : Stopped C B} {t : Stopped D E} {xs ys : List ℕ} (kernel : Kernel) → Stops s xs t ys → Stops (input_done kernel O s) (xs ++ input_emitted kernel O s) (input_done kernel P t) (ys ++ input_emitted kernel P t)
  input_agrees kernel h = wait_agrees _ _ (λ v. end_emitted O (emitted kernel O true v.left) v.machine) (λ v. end_emitted P (emitted kernel P true v.left) v.machine) h (λ v w e. rest_at_end_agrees kernel v w e)

  -- the finish
  finished_agrees : (f : Finished) (p : Progress C B) (q : Progress D E) (out : List ℕ) → Same p q → BuildAgrees cell byte (record { output = out; end = end_finished p f }) (record { output = out; end = end_finished q f })
  finished_agrees (Ready used) p q out h = rw h.budget (rw h.left (done used (q.budget - q.left) out h.machine))
  finished_agrees NoEntry p q out h = entry_missing out

  failed_agrees : (code : ℤ) (doing : Doing) (p : Progress C B) (q : Progress D E) (out : List ℕ) → Same p q
      → BuildAgrees cell byte (record { output = out; end = end_failed (Throw code) doing p }) (record { output = out; end = end_failed (Throw code) doing q })
  failed_agrees code doing p q out h = rw h.file (rw h.line (failed code q.file q.line out))

  step_refused : (a b : Form) (why : Why) (doing : Doing) (p : Progress C B) (end : BuildEnd D E) (out rest : List ℕ)
      → BuildAgrees cell byte (record { output = out; end = end_failed (Refused a b why) doing p }) (record { output = out ++ rest; end = end })
  step_refused a b why doing p end out rest =
      build_refused (record { doing = doing; number = number_at doing p; token = p.last; first = a; second = b; why = why; file = p.file; line = p.line }) end out rest

  step_refused_last : (a b : Form) (why : Why) (doing : Doing) (p : Progress C B) (end : BuildEnd D E) (out : List ℕ)
      → BuildAgrees cell byte (record { output = out; end = end_failed (Refused a b why) doing p }) (record { output = out; end = end })
  step_refused_last a b why doing p end out =
      subst (λ (o : List ℕ). BuildAgrees cell byte (record { output = out; end = end_failed (Refused a b why) doing p }) (record { output = o; end = end })) (append-nil out) (step_refused a b why doing p end out [])

  halted_agrees : (texts : List (List ℕ)) (r : Result (Finished × Machine C B) Fault) (s : Result (Finished × Machine D E) Fault) (p : Progress C B) (q : Progress D E) (out : List ℕ) → Same p q → Agrees (OutcomeStands cell byte) r s
      → BuildAgrees cell byte (record { output = out; end = end_halted texts p r }) (record { output = out; end = end_halted texts q s })
  halted_agrees texts (Ok x) (Ok y) p q out h (both e) = rw e.answer (finished_agrees y.0 (record p { machine = x.1 }) (record q { machine = y.1 }) out (with_machine h e.machine))
  halted_agrees texts _ _ p q out h (thrown code) = failed_agrees code Finishing _ _ out (with_last (length texts) (last_line_count texts) first_token first_token h)
  halted_agrees texts _ _ p q out h (refused a b why t) =
      step_refused_last a b why Finishing (record p { file = length texts; line = last_line_count texts; last = first_token }) (end_halted texts q t) out

  ends_agree : {s : Stopped C B} {t : Stopped D E} {xs ys : List ℕ} (texts : List (List ℕ)) (entry : Option (List ℕ)) → Stops s xs t ys
      → BuildAgrees cell byte (record { output = xs; end = end_of O texts entry s }) (record { output = ys; end = end_of P texts entry t })
  ends_agree texts entry (wants {p} {q} out h) = rw h.budget (spent q.budget out)
  ends_agree texts entry (halts out h) = halted_agrees texts _ _ _ _ out h (sim cell byte O P laws (finish entry) _ _ _ _ h.machine none)
  ends_agree texts entry (fails {p} {q} code doing out h) = failed_agrees code doing p q out h
  ends_agree texts entry (runs_out {p} {q} out h) = rw h.budget (spent q.budget out)
  ends_agree texts entry (stop_refused a b why doing p s out rest) = step_refused a b why doing p (end_of P texts entry s) out rest

  from_agrees : (kernel : Kernel) (texts : List (List ℕ)) (budget turns : ℕ) (m : Machine C B) (n : Machine D E) → MachineStands cell byte m n
      → Stops (stop_from kernel O texts budget turns m) (emitted_from kernel O texts budget turns m) (stop_from kernel P texts budget turns n) (emitted_from kernel P texts budget turns n)
  from_agrees kernel texts budget turns m n h = input_agrees kernel (sources_agree kernel texts turns (prelude_agrees kernel budget m n h))

  at_loop_agrees : {m : Machine C B} {n : Machine D E} → MachineStands cell byte m n → MachineStands cell byte (at_loop O m) (at_loop P n)
  at_loop_agrees h = record { bytes = h.bytes; stack = h.stack; rstack = h.rstack; ip = laws.region_cell 264; due = h.due; wait = h.wait }

  seeded_agrees : (kernel : Kernel) (texts : List (List ℕ)) (budget turns : ℕ) (m : Machine C B) (n : Machine D E) → MachineStands cell byte m n
      → (r : Result (Unit {0} × Machine C B) Fault) (s : Result (Unit {0} × Machine D E) Fault) → Agrees (OutcomeStands cell byte) r s
      → Stops (stop_seeded kernel O texts budget turns m r) (emitted_seeded kernel O texts budget turns r) (stop_seeded kernel P texts budget turns n s) (emitted_seeded kernel P texts budget turns s)
  seeded_agrees kernel texts budget turns m n h (Ok x) (Ok y) (both e) = from_agrees kernel texts budget turns (at_loop O x.1) (at_loop P y.1) (at_loop_agrees e.machine)
  seeded_agrees kernel texts budget turns m n h _ _ (thrown code) = fails code Giving [] (beginning_agrees budget h)
  seeded_agrees kernel texts budget turns m n h _ _ (refused a b why t) =
      stop_refused a b why Giving (beginning budget m) (stop_seeded kernel P texts budget turns n t) [] (emitted_seeded kernel P texts budget turns t)

  blank_agrees : (size : ℕ) → MachineStands cell byte (blank_machine O size) (blank_machine P size)
  blank_agrees size = record { bytes = each_replicate _ _ size (laws.byte_of 0); stack = none; rstack = none; ip = laws.plain 0; due = nothing; wait = idle }

  -- where a build stops
  pub stops_agree : (kernel : Kernel) (size : ℕ) (texts : List (List ℕ)) (budget turns : ℕ)
      → StopAgrees cell byte (fresh_stop kernel O size texts budget turns) (fresh_emitted kernel O size texts budget turns) (fresh_stop kernel P size texts budget turns) (fresh_emitted kernel P size texts budget turns)
  unfolding fresh_stop fresh_emitted
  stops_agree kernel size texts budget turns = seeded_agrees kernel texts budget turns _ _ (blank_agrees size) _ _ (sim cell byte O P laws (seed kernel) _ _ _ _ (blank_agrees size) none)

  -- a whole build
  pub builds_agree : (kernel : Kernel) (size : ℕ) (texts : List (List ℕ)) (entry : Option (List ℕ)) (turns : ℕ) → BuildAgrees cell byte (fresh_build kernel O size texts entry turns) (fresh_build kernel P size texts entry turns)
  unfolding fresh_build
  builds_agree kernel size texts entry turns = ends_agree texts entry (stops_agree kernel size texts prelude_budget turns)
