-- A build with fewer instructions is the build itself until it runs out of them.
use Rattle.std.proofs.Common.{ℕ, ◌≡◌, ◌≢◌, ◌<◌, ◌+◌, zero, suc, Bool, true, false, List, [], ◌∷◌, ◌++◌, Result, Ok, Err, refl, sym, subst, arith}
use Rattle.mi_model.specs.declared.Fault.{Fault}
use Rattle.mi_model.specs.declared.Effect.{Effect}
use Rattle.mi_model.specs.declared.Effect.TheVariants.{Went, Emit, Want, Halt}
use Rattle.mi_model.specs.Ops.{Ops}
use Rattle.mi_model.specs.Machine.{Machine}
use Rattle.mi_model.specs.Kernel.{Kernel}
use Rattle.mi_model.specs.Table.{step}
use Rattle.mi_model.specs.Outcome.{outcome_of}
use Rattle.mi_model.specs.Lines.{NumberedLine}
use Rattle.mi_model.specs.Input.{give_line, give_end}
use Rattle.mi_model.specs.Build.{Progress, Stopped, after_effect, after_step, after_end, taking, end_given, at_wait, advanced, emitted_after, emitted_by, end_emitted, emitted_at_wait, emitted, on_wait, emitted_on_wait, after_line, emitted_after_line, line_given, line_emitted, lines_given, lines_emitted, beginning, with_budget, lines_of_prelude, prelude_done, prelude_emitted, input_done, input_emitted}
use Rattle.mi_model.specs.Build.Stopped.{Wants, Halts, Fails, RunsOut}
use Rattle.mi_model.specs.Build.Doing.{Instruction, Giving, Finishing}

-- one build has a budget c, the other one of e, which is d less
module _ {C B : Type 0} (K : Kernel) (O : Ops C B) (c e d : ℕ) where
  -- it didn't fail in the instruction in front of which the other build runs out, nor does it go on with so many left
  abbrev pub IsOther : Stopped C B → Type 0
  IsOther (Wants p) = p.left < d
  IsOther (Halts p) = Unit {0}
  IsOther (Fails f Instruction p) = p.left + 1 ≢ d
  IsOther (Fails f Giving p) = Unit {0}
  IsOther (Fails f Finishing p) = Unit {0}
  IsOther (RunsOut p) = Unit {0}

  -- with so few left it stays so
  other_effect : (f fw : Progress C B → Stopped C B) (p : Progress C B) (x : Effect) → IsOther (f p) → IsOther (fw p) → IsOther (after_effect f fw p x)
  other_effect f fw p Went h w = h
  other_effect f fw p (Emit b) h w = h
  other_effect f fw p Want h w = w
  other_effect f fw p Halt h w = tt

  other_step : (f fw : Progress C B → Stopped C B) (p : Progress C B) → p.left + 1 < d
      → ((m : Machine C B) → IsOther (f (record p { machine = m }))) → ((m : Machine C B) → IsOther (fw (record p { machine = m })))
      → (r : Result (Effect × Machine C B) Fault) → IsOther (after_step f fw p r)
  other_step f fw p less k kw (Ok r) = other_effect f fw (record p { machine = r.1 }) r.0 (k r.1) (kw r.1)
  other_step f fw p less k kw (Err x) = λ is. omega (arith, less, is)

  other_end : (f : Progress C B → Stopped C B) → ((q : Progress C B) → IsOther (f q)) → (p : Progress C B) → p.left < d → (r : Result (Effect × Machine C B) Fault) → IsOther (after_end f p r)
  other_end f k p less (Ok r) = other_effect f (λ q. Wants q) (record p { machine = r.1 }) r.0 (k (record p { machine = r.1 })) less
  other_end f k p less (Err x) = tt

  other_wait : (f : Progress C B → Stopped C B) → ((q : Progress C B) → IsOther (f q)) → (ended : Bool) (p : Progress C B) → p.left < d → IsOther (at_wait O ended f p)
  other_wait f k false p less = less
  other_wait f k true p less = other_end f k p less (outcome_of O give_end p.machine [])

  other_advanced : (ended : Bool) (left : ℕ) (p : Progress C B) → left < d → IsOther (advanced K O ended left p)
  other_advanced ended zero p less = tt
  other_advanced ended (suc left) p less =
      let fewer : left < d = omega (arith, less) in
      let more : left + 1 < d = omega (arith, less) in
      other_step (advanced K O ended left) (λ q. at_wait O ended (advanced K O ended left) q) (taking O left p) more (λ m. other_advanced ended left (record (taking O left p) { machine = m }) fewer)
      (λ m. other_wait (advanced K O ended left) (λ q. other_advanced ended left q fewer) ended (record (taking O left p) { machine = m }) fewer) (outcome_of O (step K) p.machine [])

  other_on_wait : (s : Stopped C B) (f : Progress C B → Stopped C B) → IsOther s → ((p : Progress C B) → p.left < d → IsOther (f p)) → IsOther (on_wait s f)
  other_on_wait (Wants p) f h k = k p h
  other_on_wait (Halts p) f h k = tt
  other_on_wait (Fails x Instruction p) f h k = h
  other_on_wait (Fails x Giving p) f h k = tt
  other_on_wait (Fails x Finishing p) f h k = tt
  other_on_wait (RunsOut p) f h k = tt

  other_after_line : (p : Progress C B) → p.left < d → (r : Result (Unit {0} × Machine C B) Fault) → IsOther (after_line K O p r)
  other_after_line p less (Ok r) = other_advanced false p.left (record p { machine = r.1 }) less
  other_after_line p less (Err x) = tt

  other_lines : (ls : List NumberedLine) (p : Progress C B) → p.left < d → IsOther (lines_given K O ls p)
  other_lines [] p less = less
  other_lines (l ∷ ls) p less =
      other_on_wait (line_given K O l p) (λ q. lines_given K O ls q) (other_after_line (record p { file = l.file; line = l.line }) less (outcome_of O (give_line l.text) p.machine [])) (λ q fewer. other_lines ls q fewer)

  other_input : (s : Stopped C B) → IsOther s → IsOther (input_done K O s)
  other_input s h = other_on_wait s (λ p. end_given O (advanced K O true p.left) p) h (λ p less. other_end (advanced K O true p.left) (λ q. other_advanced true p.left q less) p less (outcome_of O give_end p.machine []))

  -- the prelude, and the sources, with a budget that is less than d
  pub other_prelude : (m : Machine C B) → c < d → IsOther (prelude_done K O c m)
  unfolding prelude_done
  other_prelude m less = other_on_wait (advanced K O false c (beginning c m)) (λ p. lines_given K O (lines_of_prelude K) p) (other_advanced false c (beginning c m) less) (λ p fewer. other_lines (lines_of_prelude K) p fewer)

  pub other_sources : (ls : List NumberedLine) (p : Progress C B) → c < d → IsOther (input_done K O (lines_given K O ls (with_budget c p)))
  other_sources ls p less = other_input (lines_given K O ls (with_budget c p)) (other_lines ls (with_budget c p) less)

  -- the other build has come equally far
  pub record Shorter (p q : Progress C B) : Type 0 where
    pub machine : q.machine ≡ p.machine
    pub left : p.left ≡ d + q.left
    pub budget : p.budget ≡ c
    pub cut : q.budget ≡ e

  -- where the build stops and what it emits, and the same of the other one: both wait for a line; or the build fails in the
  -- instruction that the other has no turn for; or else
  pub data Shortens : Stopped C B → List ℕ → Stopped C B → List ℕ → Type 0 where
    waits : {p q : Progress C B} (out : List ℕ) → Shorter p q → Shortens (Wants p) out (Wants q) out
    here : {p q : Progress C B} (f : Fault) (out : List ℕ) → p.left + 1 ≡ d → p.budget ≡ c → q.budget ≡ e → q.machine ≡ p.machine
        → outcome_of O (step K) p.machine [] ≡ Err f → Shortens (Fails f Instruction p) out (RunsOut q) out
    other : {s t : Stopped C B} (xs ys : List ℕ) → IsOther s → Shortens s xs t ys

  first_byte : {s t : Stopped C B} {xs ys : List ℕ} (b : ℕ) → Shortens s xs t ys → Shortens s (b ∷ xs) t (b ∷ ys)
  first_byte b (waits out h) = waits (b ∷ out) h
  first_byte b (here f out at budget cut machine is) = here f (b ∷ out) at budget cut machine is
  first_byte b (other xs ys h) = other (b ∷ xs) (b ∷ ys) h

  first_bytes : {s t : Stopped C B} {xs ys : List ℕ} (front : List ℕ) → Shortens s xs t ys → Shortens s (front ++ xs) t (front ++ ys)
  first_bytes [] h = h
  first_bytes (b ∷ bs) h = first_byte b (first_bytes bs h)

  abbrev Rests : (f g : Progress C B → Stopped C B) → (fo go : Machine C B → List ℕ) → Type 0
  Rests f g fo go = (p q : Progress C B) → Shorter p q → Shortens (f p) (fo p.machine) (g q) (go q.machine)

  with_machine : {p q : Progress C B} (m : Machine C B) → Shorter p q → Shorter (record p { machine = m }) (record q { machine = m })
  with_machine m h = record { machine = refl; left = h.left; budget = h.budget; cut = h.cut }

  short_effect : (f fw g gw : Progress C B → Stopped C B) (fo fwo go gwo : Machine C B → List ℕ) → Rests f g fo go → Rests fw gw fwo gwo → (p q : Progress C B) → Shorter p q → (x : Effect)
      → Shortens (after_effect f fw p x) (emitted_after fo fwo p.machine x) (after_effect g gw q x) (emitted_after go gwo q.machine x)
  short_effect f fw g gw fo fwo go gwo k kw p q h Went = k p q h
  short_effect f fw g gw fo fwo go gwo k kw p q h (Emit b) = first_byte b (k p q h)
  short_effect f fw g gw fo fwo go gwo k kw p q h Want = kw p q h
  short_effect f fw g gw fo fwo go gwo k kw p q h Halt = other [] [] tt

  short_step : (f fw g gw : Progress C B → Stopped C B) (fo fwo go gwo : Machine C B → List ℕ) → Rests f g fo go → Rests fw gw fwo gwo → (p q : Progress C B) → Shorter p q → (r : Result (Effect × Machine C B) Fault)
      → Shortens (after_step f fw p r) (emitted_by fo fwo r) (after_step g gw q r) (emitted_by go gwo r)
  short_step f fw g gw fo fwo go gwo k kw p q h (Ok x) = short_effect f fw g gw fo fwo go gwo k kw (record p { machine = x.1 }) (record q { machine = x.1 }) (with_machine x.1 h) x.0
  short_step f fw g gw fo fwo go gwo k kw p q h (Err x) = other [] [] (λ is. omega (arith, h.left, is))

  short_end : (f g : Progress C B → Stopped C B) (fo go : Machine C B → List ℕ) → Rests f g fo go → (p q : Progress C B) → Shorter p q → (r : Result (Effect × Machine C B) Fault)
      → Shortens (after_end f p r) (emitted_by fo (λ n. []) r) (after_end g q r) (emitted_by go (λ n. []) r)
  short_end f g fo go k p q h (Ok x) = short_effect f (λ r. Wants r) g (λ r. Wants r) fo (λ n. []) go (λ n. []) k (λ v w i. waits [] i) (record p { machine = x.1 }) (record q { machine = x.1 }) (with_machine x.1 h) x.0
  short_end f g fo go k p q h (Err x) = other [] [] tt

  short_given : (f g : Progress C B → Stopped C B) (fo go : Machine C B → List ℕ) → Rests f g fo go → (p q : Progress C B) → Shorter p q
      → Shortens (end_given O f p) (end_emitted O fo p.machine) (end_given O g q) (end_emitted O go q.machine)
  short_given f g fo go k p q h =
      subst (λ (m : Machine C B). Shortens (end_given O f p) (end_emitted O fo p.machine) (after_end g q (outcome_of O give_end m [])) (emitted_by go (λ n. []) (outcome_of O give_end m [])))
      (sym h.machine) (short_end f g fo go k p q h (outcome_of O give_end p.machine []))

  short_wait : (f g : Progress C B → Stopped C B) (fo go : Machine C B → List ℕ) → Rests f g fo go → (ended : Bool) (p q : Progress C B) → Shorter p q
      → Shortens (at_wait O ended f p) (emitted_at_wait O ended fo p.machine) (at_wait O ended g q) (emitted_at_wait O ended go q.machine)
  short_wait f g fo go k false p q h = waits [] h
  short_wait f g fo go k true p q h = short_given f g fo go k p q h

  short_advanced : (ended : Bool) (n left : ℕ) (p q : Progress C B) → 0 < d → left ≡ d + n → q.machine ≡ p.machine → p.budget ≡ c → q.budget ≡ e
      → Shortens (advanced K O ended left p) (emitted K O ended left p.machine) (advanced K O ended n q) (emitted K O ended n q.machine)
  short_advanced ended n zero p q some is machine budget cut = absurd (omega (arith, some, is))
  short_advanced ended zero (suc left) p q some is machine budget cut = at_end (outcome_of O (step K) p.machine []) refl
    where
      fewer : left < d
      fewer = omega (arith, some, is)

      last : left + 1 ≡ d
      last = omega (arith, is)

      at_end : (r : Result (Effect × Machine C B) Fault) → outcome_of O (step K) p.machine [] ≡ r
          → Shortens (after_step (advanced K O ended left) (λ v. at_wait O ended (advanced K O ended left) v) (taking O left p) r)
          (emitted_by (emitted K O ended left) (λ v. emitted_at_wait O ended (emitted K O ended left) v) r) (RunsOut (record q { left = 0 })) []
      at_end (Ok x) told = other _ _ (other_effect (advanced K O ended left) (λ v. at_wait O ended (advanced K O ended left) v) (record (taking O left p) { machine = x.1 }) x.0 (other_advanced ended left (record (taking O left p) { machine = x.1 }) fewer)
          (other_wait (advanced K O ended left) (λ v. other_advanced ended left v fewer) ended (record (taking O left p) { machine = x.1 }) fewer))
      at_end (Err f) told = here f [] last budget cut machine told
  short_advanced ended (suc n) (suc left) p q some is machine budget cut =
      subst (λ (m : Machine C B). Shortens (advanced K O ended (suc left) p) (emitted K O ended (suc left) p.machine)
      (after_step (advanced K O ended n) (λ v. at_wait O ended (advanced K O ended n) v) (taking O n q) (outcome_of O (step K) m []))
      (emitted_by (emitted K O ended n) (λ v. emitted_at_wait O ended (emitted K O ended n) v) (outcome_of O (step K) m [])))
      (sym machine)
      (short_step (advanced K O ended left) (λ v. at_wait O ended (advanced K O ended left) v) (advanced K O ended n) (λ v. at_wait O ended (advanced K O ended n) v) (λ v. emitted K O ended left v) (λ v. emitted_at_wait O ended (emitted K O ended left) v) (λ v. emitted K O ended n v) (λ v. emitted_at_wait O ended (emitted K O ended n) v)
      (λ v w i. short_advanced ended n left v w some fewer i.machine i.budget i.cut)
      (λ v w i. short_wait (advanced K O ended left) (advanced K O ended n) (λ x. emitted K O ended left x) (λ x. emitted K O ended n x) (λ x y j. short_advanced ended n left x y some fewer j.machine j.budget j.cut) ended v w i)
      (taking O left p) (taking O n q) (record { machine = machine; left = fewer; budget = budget; cut = cut }) (outcome_of O (step K) p.machine []))
    where
      fewer : left ≡ d + n
      fewer = omega (arith, is)

  short_on_wait : {s t : Stopped C B} {xs ys : List ℕ} (f g : Progress C B → Stopped C B) (fo go : Progress C B → List ℕ) → Shortens s xs t ys
      → ((p q : Progress C B) → Shorter p q → Shortens (f p) (fo p) (g q) (go q)) → ((p : Progress C B) → p.left < d → IsOther (f p))
      → Shortens (on_wait s f) (xs ++ emitted_on_wait s fo) (on_wait t g) (ys ++ emitted_on_wait t go)
  short_on_wait f g fo go (waits out h) k later = first_bytes out (k _ _ h)
  short_on_wait f g fo go (here x out at budget cut machine is) k later = here x (out ++ []) at budget cut machine is
  short_on_wait {s} f g fo go (other xs ys h) k later = other _ _ (other_on_wait s f h later)

  short_after_line : (p q : Progress C B) → 0 < d → Shorter p q → (r : Result (Unit {0} × Machine C B) Fault)
      → Shortens (after_line K O p r) (emitted_after_line K O p.left r) (after_line K O q r) (emitted_after_line K O q.left r)
  short_after_line p q some h (Ok x) = short_advanced false q.left p.left (record p { machine = x.1 }) (record q { machine = x.1 }) some h.left refl h.budget h.cut
  short_after_line p q some h (Err x) = other [] [] tt

  short_line : (l : NumberedLine) (p q : Progress C B) → 0 < d → Shorter p q → Shortens (line_given K O l p) (line_emitted K O l p) (line_given K O l q) (line_emitted K O l q)
  short_line l p q some h =
      subst (λ (m : Machine C B). Shortens (line_given K O l p) (line_emitted K O l p) (after_line K O (record q { file = l.file; line = l.line }) (outcome_of O (give_line l.text) m []))
      (emitted_after_line K O q.left (outcome_of O (give_line l.text) m []))) (sym h.machine)
      (short_after_line (record p { file = l.file; line = l.line }) (record q { file = l.file; line = l.line }) some (record { machine = h.machine; left = h.left; budget = h.budget; cut = h.cut }) (outcome_of O (give_line l.text) p.machine []))

  short_lines : (ls : List NumberedLine) (p q : Progress C B) → 0 < d → Shorter p q → Shortens (lines_given K O ls p) (lines_emitted K O ls p) (lines_given K O ls q) (lines_emitted K O ls q)
  short_lines [] p q some h = waits [] h
  short_lines (l ∷ ls) p q some h =
      short_on_wait (λ v. lines_given K O ls v) (λ v. lines_given K O ls v) (λ v. lines_emitted K O ls v) (λ v. lines_emitted K O ls v) (short_line l p q some h) (λ v w i. short_lines ls v w some i) (λ v less. other_lines ls v less)

  short_rest : (p q : Progress C B) → 0 < d → Shorter p q
      → Shortens (end_given O (advanced K O true p.left) p) (end_emitted O (emitted K O true p.left) p.machine) (end_given O (advanced K O true q.left) q) (end_emitted O (emitted K O true q.left) q.machine)
  short_rest p q some h = short_given (advanced K O true p.left) (advanced K O true q.left) (λ m. emitted K O true p.left m) (λ m. emitted K O true q.left m) (λ v w i. short_advanced true q.left p.left v w some h.left i.machine i.budget i.cut) p q h

  short_input : {s t : Stopped C B} {xs ys : List ℕ} → 0 < d → Shortens s xs t ys → Shortens (input_done K O s) (xs ++ input_emitted K O s) (input_done K O t) (ys ++ input_emitted K O t)
  short_input some h =
      short_on_wait (λ v. end_given O (advanced K O true v.left) v) (λ v. end_given O (advanced K O true v.left) v) (λ v. end_emitted O (emitted K O true v.left) v.machine) (λ v. end_emitted O (emitted K O true v.left) v.machine) h (λ v w i. short_rest v w some i)
      (λ v less. other_end (advanced K O true v.left) (λ q. other_advanced true v.left q less) v less (outcome_of O give_end v.machine []))

  -- the prelude with so many instructions less
  pub short_prelude : (m : Machine C B) → 0 < d → c ≡ d + e → Shortens (prelude_done K O c m) (prelude_emitted K O c m) (prelude_done K O e m) (prelude_emitted K O e m)
  unfolding prelude_done prelude_emitted
  short_prelude m some is =
      short_on_wait (λ v. lines_given K O (lines_of_prelude K) v) (λ v. lines_given K O (lines_of_prelude K) v) (λ v. lines_emitted K O (lines_of_prelude K) v) (λ v. lines_emitted K O (lines_of_prelude K) v) (short_advanced false e c (beginning c m) (beginning e m) some is refl refl refl)
      (λ v w i. short_lines (lines_of_prelude K) v w some i) (λ v less. other_lines (lines_of_prelude K) v less)

  -- the sources with so many instructions less
  pub short_sources : (ls : List NumberedLine) (p : Progress C B) → 0 < d → c ≡ d + e
      → Shortens (input_done K O (lines_given K O ls (with_budget c p))) (lines_emitted K O ls (with_budget c p) ++ input_emitted K O (lines_given K O ls (with_budget c p)))
      (input_done K O (lines_given K O ls (with_budget e p))) (lines_emitted K O ls (with_budget e p) ++ input_emitted K O (lines_given K O ls (with_budget e p)))
  short_sources ls p some is = short_input some (short_lines ls (with_budget c p) (with_budget e p) some (record { machine = refl; left = is; budget = refl; cut = refl }))
