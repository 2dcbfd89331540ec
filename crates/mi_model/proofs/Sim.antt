-- Action does to a machine what it does to one that it stands for.
use Rattle.std.proofs.Common.{ℕ, ℤ, ◌≡◌, ◌+◌, ◌-◌, ◌%◌, ◌==◌, Bool, true, false, nat_le, nat_lt, cond, List, [], ◌∷◌, ◌++◌, length, refl, ap, Result, Option, None, Some}
use Rattle.mi_model.specs.declared.Fault.{Fault}
use Rattle.mi_model.specs.declared.Refusal.{Refusal}
use Rattle.mi_model.specs.declared.DivFault.{DivFault}
use Rattle.mi_model.specs.declared.Wait.{Wait}
use Rattle.mi_model.specs.declared.Wait.TheVariants.{Idle, Line, Refill, Accept}
use Rattle.mi_model.specs.Ops.{Ops, Division}
use Rattle.mi_model.specs.Machine.{Machine, after, asked, or_throw, unless_throw, quotient_or_throw, division_code, invalid_address}
use Rattle.mi_model.specs.Region.{offset_of, cell_at, byte_at, range_at, get, with_cell, with_moved, with_filled, with_text, fetch_at, fetch, fetch_byte, tests}
use Rattle.mi_model.specs.Action.{Operand, Question, AnswerKind, Action}
use Rattle.mi_model.specs.Action.Operand.{Named, At, Ip, Plain, Address, CodeAddress, Of}
use Rattle.mi_model.specs.Action.Question.{Offset, CellAt, ByteAt, Number, LowByte, ByteOf, RangeOf}
use Rattle.mi_model.specs.Action.Action.{Give, Throws, Needs, Takes, Drop, Push, RPush, Depth, Size, Item, RItem, Name, Single, Product, Divide, Check, Ask, Tag, Fetch, FetchByteAt, PutCell, PutByte, Move, Fill, PutText, Empty, EmptyReturn, SetIp, TakeDue, SetDue, SetWait, TakeWait, Call, Again}
use Rattle.mi_model.specs.Outcome.{cell_of, cells_of, wait_of, answer_to, division_of, take_due, named_wait, wait_cells, outcome_of}
use Rattle.mi_model.specs.Stands.{Each, OptionStands, WaitStands, AnswerStands, PairStands, DivisionStands, Simulates, MachineStands, Agrees, OutcomeStands}
use Rattle.mi_model.specs.Stands.Each.{none, more}
use Rattle.mi_model.specs.Stands.OptionStands.{nothing, something}
use Rattle.mi_model.specs.Stands.WaitStands.{idle, line, refill, accept}
use Rattle.mi_model.specs.Stands.AnswerStands.{given, withheld}
use Rattle.mi_model.specs.Stands.DivisionStands.{divided, undivided}
use Rattle.mi_model.specs.Stands.Agrees.{both, thrown, refused}
use Rattle.mi_model.proofs.Each.{each_length, each_append, each_take, each_drop, each_get, each_set, each_top, each_replicate}

-- what follows answers that agree
pub agrees_after : {X Y V W : Type 0} {R : X → Y → Type 0} {Q : V → W → Type 0} (r : Result X Fault) (s : Result Y Fault) (f : X → Result V Fault) (g : Y → Result W Fault)
    → Agrees R r s → ((x : X) (y : Y) → R x y → Agrees Q (f x) (g y)) → Agrees Q (after r f) (after s g)
agrees_after r s f g (both h) k = k _ _ h
agrees_after r s f g (thrown code) k = thrown code
agrees_after r s f g (refused a b why t) k = refused a b why (after t g)

pub agrees_asked : {X Y : Type 0} {R : X → Y → Type 0} (r : Result X Refusal) (s : Result Y Refusal) → AnswerStands R r s → Agrees R (asked r) (asked s)
agrees_asked r s (given h) = both h
agrees_asked r s (withheld e t) = refused e.first e.second e.why (asked t)

-- the same test
pub agrees_test : (a b : Bool) (code : ℤ) → a ≡ b → Agrees (λ (x y : Unit {0}). x ≡ y) (unless_throw a code) (unless_throw b code)
agrees_test true true code e = both refl
agrees_test false false code e = thrown code
agrees_test true false code e = cc
agrees_test false true code e = cc

-- the same choice
pub agrees_if : {X Y : Type 0} {R : X → Y → Type 0} (a b : Bool) (p : Result X Fault) (q : Result Y Fault) (r : Result X Fault) (s : Result Y Fault)
    → a ≡ b → Agrees R p q → Agrees R r s → Agrees R (cond a p r) (cond b q s)
agrees_if true true p q r s e h k = h
agrees_if false false p q r s e h k = k
agrees_if true false p q r s e h k = cc
agrees_if false true p q r s e h k = cc

pub agrees_or_throw : {X : Type 0} (a b : Option X) (code : ℤ) → a ≡ b → Agrees (λ (x y : X). x ≡ y) (or_throw a code) (or_throw b code)
agrees_or_throw (Some x) (Some y) code e = both cc
agrees_or_throw None None code e = thrown code
agrees_or_throw (Some x) None code e = cc
agrees_or_throw None (Some y) code e = cc

-- the same quotient, or the same throw
pub agrees_quotient : {C D : Type 0} {cell : C → D → Type 0} (r : Result (C × C) DivFault) (s : Result (D × D) DivFault) → DivisionStands cell r s → Agrees (PairStands cell) (quotient_or_throw r) (quotient_or_throw s)
agrees_quotient _ _ (divided h) = both h
agrees_quotient _ _ (undivided e) = thrown (division_code e)

-- a wait is named as the one that it stands for, and its cells stand
pub same_wait : {C D : Type 0} {cell : C → D → Type 0} (i : ℕ) {w : Wait C} {v : Wait D} → WaitStands cell w v → named_wait i w ≡ named_wait i v
same_wait i idle = refl
same_wait i line = refl
same_wait i refill = refl
same_wait i (accept n h) = refl

pub each_waited : {C D : Type 0} {cell : C → D → Type 0} {w : Wait C} {v : Wait D} → WaitStands cell w v → Each cell (wait_cells w) (wait_cells v)
each_waited idle = none
each_waited line = none
each_waited refill = none
each_waited (accept n h) = more h none

-- equal arguments, equal values
pub ap2 : {X Y Z : Type 0} (f : X → Y → Z) {a b : X} {c d : Y} → a ≡ b → c ≡ d → f a c ≡ f b d
ap2 f e k = cc

module _ {C B D E : Type 0} (cell : C → D → Type 0) (byte : B → E → Type 0) (O : Ops C B) (P : Ops D E) (laws : Simulates cell byte O P) where
  pub sim_offset : (a : C) (x : D) → cell a x → Agrees (λ (s t : ℕ). s ≡ t) (offset_of O a) (offset_of P x)
  sim_offset a x h = agrees_after _ _ _ _ (agrees_asked _ _ (laws.place a x h)) (λ s t e. agrees_or_throw s t invalid_address e)

  pub sim_cell_at : (bs : List B) (es : List E) (a : C) (x : D) → Each byte bs es → cell a x → Agrees (λ (s t : ℕ). s ≡ t) (cell_at O bs a) (cell_at P es x)
  unfolding cell_at
  sim_cell_at bs es a x r h = agrees_after _ _ _ _ (sim_offset a x h) (λ s t e.
      agrees_after _ _ _ _ (agrees_test _ _ _ (ap2 (λ i l. nat_le (i + 8) l) e (each_length r))) (λ _ _ _.
      agrees_after _ _ _ _ (agrees_test _ _ _ (ap (λ i. i % 8 == 0) e)) (λ _ _ _. both e)))

  pub sim_byte_at : (bs : List B) (es : List E) (a : C) (x : D) → Each byte bs es → cell a x → Agrees (λ (s t : ℕ). s ≡ t) (byte_at O bs a) (byte_at P es x)
  unfolding byte_at
  sim_byte_at bs es a x r h = agrees_after _ _ _ _ (sim_offset a x h) (λ s t e.
      agrees_after _ _ _ _ (agrees_test _ _ _ (ap2 (λ i l. nat_le (i + 1) l) e (each_length r))) (λ _ _ _. both e))

  pub sim_range_at : (n : ℕ) (bs : List B) (es : List E) (a : C) (x : D) → Each byte bs es → cell a x → Agrees (λ (s t : ℕ). s ≡ t) (range_at O bs n a) (range_at P es n x)
  unfolding range_at
  sim_range_at n bs es a x r h = agrees_if _ _ _ _ _ _ refl (both refl) (agrees_after _ _ _ _ (sim_offset a x h) (λ s t e.
      agrees_after _ _ _ _ (agrees_test _ _ _ (ap2 (λ i l. nat_le (i + n) l) e (each_length r))) (λ _ _ _. both e)))

  pub sim_get : (i : ℕ) (bs : List B) (es : List E) → Each byte bs es → byte (get O bs i) (get P es i)
  sim_get i bs es r = each_get i r (laws.byte_of 0)

  pub sim_fetch_at : (o : ℕ) (bs : List B) (es : List E) → Each byte bs es → Agrees cell (fetch_at O bs o) (fetch_at P es o)
  unfolding fetch_at
  sim_fetch_at o bs es r = agrees_asked _ _ (laws.join _ _ (record {
    s0 = sim_get o bs es r;
    s1 = sim_get (o + 1) bs es r;
    s2 = sim_get (o + 2) bs es r;
    s3 = sim_get (o + 3) bs es r;
    s4 = sim_get (o + 4) bs es r;
    s5 = sim_get (o + 5) bs es r;
    s6 = sim_get (o + 6) bs es r;
    s7 = sim_get (o + 7) bs es r;
  }))

  pub sim_fetch : (bs : List B) (es : List E) (a : C) (x : D) → Each byte bs es → cell a x → Agrees cell (fetch O bs a) (fetch P es x)
  unfolding fetch
  sim_fetch bs es a x r h = agrees_after _ _ _ _ (sim_cell_at bs es a x r h) (λ s t e. rw e (sim_fetch_at t bs es r))

  pub sim_fetch_byte : (bs : List B) (es : List E) (a : C) (x : D) → Each byte bs es → cell a x → Agrees (λ (s t : ℕ). s ≡ t) (fetch_byte O bs a) (fetch_byte P es x)
  unfolding fetch_byte
  sim_fetch_byte bs es a x r h = agrees_after _ _ _ _ (sim_byte_at bs es a x r h) (λ s t e. rw e (agrees_asked _ _ (laws.value _ _ (sim_get t bs es r))))

  pub sim_with_cell : (o : ℕ) (bs : List B) (es : List E) (a : C) (x : D) → Each byte bs es → cell a x → Each byte (with_cell O bs o a) (with_cell P es o x)
  sim_with_cell o bs es a x r h =
      each_set (o + 7) (each_set (o + 6) (each_set (o + 5) (each_set (o + 4) (each_set (o + 3) (each_set (o + 2) (each_set (o + 1) (each_set o r
      (laws.cut 0 a x h)) (laws.cut 1 a x h)) (laws.cut 2 a x h)) (laws.cut 3 a x h)) (laws.cut 4 a x h)) (laws.cut 5 a x h)) (laws.cut 6 a x h)) (laws.cut 7 a x h)

  pub sim_moved : (from to n : ℕ) (bs : List B) (es : List E) → Each byte bs es → Each byte (with_moved bs from to n) (with_moved es from to n)
  sim_moved from to n bs es r = each_append (each_take to r) (each_append (each_take n (each_drop from r)) (each_drop (to + n) r))

  pub sim_filled : (o n : ℕ) (b : B) (e : E) (bs : List B) (es : List E) → Each byte bs es → byte b e → Each byte (with_filled bs o n b) (with_filled es o n e)
  sim_filled o n b e bs es r h = each_append (each_take o r) (each_append (each_replicate _ _ n h) (each_drop (o + n) r))

  pub sim_text : (o : ℕ) (text : List ℕ) (bs : List B) (es : List E) → Each byte bs es → Each byte (with_text O bs o text) (with_text P es o text)
  sim_text o [] bs es r = r
  sim_text o (c ∷ cs) bs es r = sim_text (o + 1) cs _ _ (each_set o r (laws.byte_of c))

  pub sim_tests : (i o ri ro : ℕ) (m : Machine C B) (n : Machine D E) → MachineStands cell byte m n → Agrees (λ (x y : Unit {0}). x ≡ y) (tests i o ri ro m) (tests i o ri ro n)
  unfolding tests
  sim_tests i o ri ro m n h =
      agrees_if _ _ _ _ _ _ (ap (λ k. nat_lt k i) (each_length h.stack)) (thrown _)
      (agrees_if _ _ _ _ _ _ (ap (λ k. nat_lt k ri) (each_length h.rstack)) (thrown _)
      (agrees_if _ _ _ _ _ _ (ap (λ k. nat_lt 4096 ((k - i) + o)) (each_length h.stack)) (thrown _)
      (agrees_if _ _ _ _ _ _ (ap (λ k. nat_lt 4096 ((k - ri) + ro)) (each_length h.rstack)) (thrown _) (both refl))))

  pub sim_answer : (q : Question) (bs : List B) (es : List E) (a : C) (x : D) → Each byte bs es → cell a x → Agrees (λ (s t : ℕ). s ≡ t) (answer_to O bs q a) (answer_to P es q x)
  sim_answer Offset bs es a x r h = sim_offset a x h
  sim_answer CellAt bs es a x r h = sim_cell_at bs es a x r h
  sim_answer ByteAt bs es a x r h = sim_byte_at bs es a x r h
  sim_answer (RangeOf n) bs es a x r h = sim_range_at n bs es a x r h
  sim_answer Number bs es a x r h = agrees_asked _ _ (laws.number a x h)
  sim_answer LowByte bs es a x r h = agrees_asked _ _ (laws.low_byte a x h)
  sim_answer ByteOf bs es a x r h = sim_fetch_byte bs es a x r h

  pub sim_division : (division : Division) (a b c : C) (x y z : D) → cell a x → cell b y → cell c z → Agrees (PairStands cell) (division_of O division a b c) (division_of P division x y z)
  sim_division division a b c x y z h k l = agrees_after _ _ _ _ (agrees_asked _ _ (laws.divide division a b c x y z h k l)) (λ r s e. agrees_quotient r s e)

  -- an operand stands for itself
  pub sim_cell : (x : Operand) (m : Machine C B) (n : Machine D E) (names : List C) (names' : List D) → MachineStands cell byte m n → Each cell names names' → Agrees cell (cell_of O m names x) (cell_of P n names' x)
  sim_cell (Named i) m n _ _ h e = both (each_get i e (laws.plain 0))
  sim_cell (At o) m n _ _ h e = sim_fetch_at o _ _ h.bytes
  sim_cell Ip m n _ _ h e = both h.ip
  sim_cell (Plain k) m n _ _ h e = both (laws.plain k)
  sim_cell (Address o) m n _ _ h e = both (laws.region_cell o)
  sim_cell (CodeAddress t) m n _ _ h e = both (laws.code_cell t)
  sim_cell (Of op x y) m n _ _ h e = agrees_after _ _ _ _ (sim_cell x m n _ _ h e) (λ a a' r. agrees_after _ _ _ _ (sim_cell y m n _ _ h e) (λ b b' s. agrees_asked _ _ (laws.two op a b a' b' r s)))

  pub sim_cells : (xs : List Operand) (m : Machine C B) (n : Machine D E) (names : List C) (names' : List D) → MachineStands cell byte m n → Each cell names names' → Agrees (Each cell) (cells_of O m names xs) (cells_of P n names' xs)
  sim_cells [] m n _ _ h e = both none
  sim_cells (x ∷ xs) m n _ _ h e = agrees_after _ _ _ _ (sim_cell x m n _ _ h e) (λ a a' r. agrees_after _ _ _ _ (sim_cells xs m n _ _ h e) (λ b b' s. both (more r s)))

  pub sim_wait : (w : Wait Operand) (m : Machine C B) (n : Machine D E) (names : List C) (names' : List D) → MachineStands cell byte m n → Each cell names names' → Agrees (WaitStands cell) (wait_of O m names w) (wait_of P n names' w)
  sim_wait Idle m n _ _ h e = both idle
  sim_wait Line m n _ _ h e = both line
  sim_wait Refill m n _ _ h e = both refill
  sim_wait (Accept x k) m n _ _ h e = agrees_after _ _ _ _ (sim_cell x m n _ _ h e) (λ a a' r. both (accept k r))

  pub sim_due : {V W : Type 0} {Q : V → W → Type 0} (c : Option C) (d : Option D) (x : Result V Fault) (y : Result W Fault) (f : C → Result V Fault) (g : D → Result W Fault) →
      OptionStands cell c d → Agrees Q x y → ((a : C) (b : D) → cell a b → Agrees Q (f a) (g b)) → Agrees Q (take_due c x f) (take_due d y g)
  sim_due _ _ x y f g nothing h k = h
  sim_due _ _ x y f g (something r) h k = k _ _ r

  pub with_stack : {m : Machine C B} {n : Machine D E} {xs : List C} {ys : List D} → MachineStands cell byte m n → Each cell xs ys → MachineStands cell byte (record m { stack = xs }) (record n { stack = ys })
  with_stack h e = record { bytes = h.bytes; stack = e; rstack = h.rstack; ip = h.ip; due = h.due; wait = h.wait }

  pub with_rstack : {m : Machine C B} {n : Machine D E} {xs : List C} {ys : List D} → MachineStands cell byte m n → Each cell xs ys → MachineStands cell byte (record m { rstack = xs }) (record n { rstack = ys })
  with_rstack h e = record { bytes = h.bytes; stack = h.stack; rstack = e; ip = h.ip; due = h.due; wait = h.wait }

  pub with_bytes : {m : Machine C B} {n : Machine D E} {xs : List B} {ys : List E} → MachineStands cell byte m n → Each byte xs ys → MachineStands cell byte (record m { bytes = xs }) (record n { bytes = ys })
  with_bytes h e = record { bytes = e; stack = h.stack; rstack = h.rstack; ip = h.ip; due = h.due; wait = h.wait }

  pub with_due : {m : Machine C B} {n : Machine D E} {c : Option C} {d : Option D} → MachineStands cell byte m n → OptionStands cell c d → MachineStands cell byte (record m { due = c }) (record n { due = d })
  with_due h e = record { bytes = h.bytes; stack = h.stack; rstack = h.rstack; ip = h.ip; due = e; wait = h.wait }

  pub with_wait : {m : Machine C B} {n : Machine D E} {w : Wait C} {v : Wait D} → MachineStands cell byte m n → WaitStands cell w v → MachineStands cell byte (record m { wait = w }) (record n { wait = v })
  with_wait h e = record { bytes = h.bytes; stack = h.stack; rstack = h.rstack; ip = h.ip; due = h.due; wait = e }

  -- one more name
  pub named : {names : List C} {names' : List D} {a : C} {b : D} → Each cell names names' → cell a b → Each cell (names ++ a ∷ []) (names' ++ b ∷ [])
  named e h = each_append e (more h none)

  -- two more names
  pub two_named : {names : List C} {names' : List D} {p : C × C} {q : D × D} → Each cell names names' → PairStands cell p q → Each cell (names ++ (p.0 ∷ (p.1 ∷ []))) (names' ++ (q.0 ∷ (q.1 ∷ [])))
  two_named e h = each_append e (more h.0 (more h.1 none))

  -- what the simulation of an action says
  abbrev pub Simulated : {i : AnswerKind} → Action i → Type 0
  Simulated action = (m : Machine C B) (n : Machine D E) (names : List C) (names' : List D) →
      MachineStands cell byte m n → Each cell names names' → Agrees (OutcomeStands cell byte) (outcome_of O action m names) (outcome_of P action n names')

  -- the rest after a step that gives a name
  pub sim_named : {i : AnswerKind} (k : Operand → Action i) {m : Machine C B} {n : Machine D E} {names more_names : List C} {names' more_names' : List D} →
      ((x : Operand) → Simulated (k x)) → MachineStands cell byte m n → Each cell names names' → Each cell more_names more_names' →
      Agrees (OutcomeStands cell byte) (outcome_of O (k (Named (length names))) m more_names) (outcome_of P (k (Named (length names'))) n more_names')
  sim_named k ih h e f = rw (each_length e) (ih _ _ _ _ _ h f)

  -- the rest after a step that gives two names
  pub sim_two_named : {i : AnswerKind} (k : Operand → Operand → Action i) {m : Machine C B} {n : Machine D E} {names more_names : List C} {names' more_names' : List D} →
      ((x y : Operand) → Simulated (k x y)) → MachineStands cell byte m n → Each cell names names' → Each cell more_names more_names' →
      Agrees (OutcomeStands cell byte) (outcome_of O (k (Named (length names)) (Named (length names + 1))) m more_names) (outcome_of P (k (Named (length names')) (Named (length names' + 1))) n more_names')
  sim_two_named k ih h e f = rw (each_length e) (ih _ _ _ _ _ _ h f)

  pub sim : {i : AnswerKind} (action : Action i) → Simulated action
  sim (Give x) _ _ _ _ h e = both (record { answer = refl; machine = h })
  sim (Throws c) _ _ _ _ h e = thrown c
  sim (Needs i u ri ru k) _ _ _ _ h e = agrees_after _ _ _ _ (sim_tests i u ri ru _ _ h) (λ _ _ _. sim k _ _ _ _ h e)
  sim (Takes i u ri ru k) _ _ _ _ h e = rw (each_length e) (agrees_after _ _ _ _ (sim_tests i u ri ru _ _ h) (λ _ _ _. sim (k _) _ _ _ _ h
      (each_append e (each_append (each_top _ _ i (laws.plain 0) h.stack) (each_top _ _ ri (laws.plain 0) h.rstack)))))
  sim (Drop u ru k) _ _ _ _ h e = sim k _ _ _ _ (record { bytes = h.bytes; stack = each_drop u h.stack; rstack = each_drop ru h.rstack; ip = h.ip; due = h.due; wait = h.wait }) e
  sim (Push x k) _ _ _ _ h e = agrees_after _ _ _ _ (sim_cell x _ _ _ _ h e) (λ _ _ r. sim k _ _ _ _ (with_stack h (more r h.stack)) e)
  sim (RPush x k) _ _ _ _ h e = agrees_after _ _ _ _ (sim_cell x _ _ _ _ h e) (λ _ _ r. sim k _ _ _ _ (with_rstack h (more r h.rstack)) e)
  sim (Depth k) _ _ _ _ h e = rw (each_length h.stack) (sim (k _) _ _ _ _ h e)
  sim (Size k) _ _ _ _ h e = rw (each_length h.bytes) (sim (k _) _ _ _ _ h e)
  sim (Item i k) _ _ _ _ h e = sim_named k (λ x. sim (k x)) h e (named e (each_get i h.stack (laws.plain 0)))
  sim (RItem i k) _ _ _ _ h e = sim_named k (λ x. sim (k x)) h e (named e (each_get i h.rstack (laws.plain 0)))
  sim (Name x k) _ _ _ _ h e = agrees_after _ _ _ _ (sim_cell x _ _ _ _ h e) (λ _ _ r. sim_named k (λ y. sim (k y)) h e (named e r))
  sim (Single op x k) _ _ _ _ h e = agrees_after _ _ _ _ (sim_cell x _ _ _ _ h e) (λ a a' r. agrees_after _ _ _ _ (agrees_asked _ _ (laws.one op a a' r)) (λ _ _ s. sim_named k (λ y. sim (k y)) h e (named e s)))
  sim (Product x y k) _ _ _ _ h e = agrees_after _ _ _ _ (sim_cell x _ _ _ _ h e) (λ a a' r. agrees_after _ _ _ _ (sim_cell y _ _ _ _ h e) (λ b b' s.
      agrees_after _ _ _ _ (agrees_asked _ _ (laws.product a b a' b' r s)) (λ _ _ t. sim_two_named k (λ u v. sim (k u v)) h e (two_named e t))))
  sim (Divide division x y z k) _ _ _ _ h e = agrees_after _ _ _ _ (sim_cell x _ _ _ _ h e) (λ a a' r. agrees_after _ _ _ _ (sim_cell y _ _ _ _ h e) (λ b b' s. agrees_after _ _ _ _ (sim_cell z _ _ _ _ h e) (λ c c' t.
      agrees_after _ _ _ _ (sim_division division a b c a' b' c' r s t) (λ _ _ d. sim_two_named k (λ u v. sim (k u v)) h e (two_named e d)))))
  sim (Check op x y k) _ _ _ _ h e = agrees_after _ _ _ _ (sim_cell x _ _ _ _ h e) (λ a a' r. agrees_after _ _ _ _ (sim_cell y _ _ _ _ h e) (λ b b' s.
      agrees_after _ _ _ _ (agrees_asked _ _ (laws.test op a b a' b' r s)) (λ _ _ t. rw t (sim (k _) _ _ _ _ h e))))
  sim (Ask q x k) _ _ _ _ h e = agrees_after _ _ _ _ (sim_cell x _ _ _ _ h e) (λ a a' r. agrees_after _ _ _ _ (sim_answer q _ _ a a' h.bytes r) (λ _ _ t. rw t (sim (k _) _ _ _ _ h e)))
  sim (Tag x k) _ _ _ _ h e = agrees_after _ _ _ _ (sim_cell x _ _ _ _ h e) (λ a a' r. agrees_after _ _ _ _ (agrees_asked _ _ (laws.tag a a' r)) (λ _ _ t. rw t (sim (k _) _ _ _ _ h e)))
  sim (Fetch x k) _ _ _ _ h e = agrees_after _ _ _ _ (sim_cell x _ _ _ _ h e) (λ a a' r. agrees_after _ _ _ _ (sim_fetch _ _ a a' h.bytes r) (λ _ _ s. sim_named k (λ y. sim (k y)) h e (named e s)))
  sim (FetchByteAt i k) _ _ _ _ h e = agrees_after _ _ _ _ (agrees_asked _ _ (laws.value _ _ (sim_get i _ _ h.bytes))) (λ _ _ t. rw t (sim (k _) _ _ _ _ h e))
  sim (PutCell i x k) _ _ _ _ h e = agrees_after _ _ _ _ (sim_cell x _ _ _ _ h e) (λ a a' r. sim k _ _ _ _ (with_bytes h (sim_with_cell i _ _ a a' h.bytes r)) e)
  sim (PutByte i b k) _ _ _ _ h e = sim k _ _ _ _ (with_bytes h (each_set i h.bytes (laws.byte_of b))) e
  sim (Move from to n k) _ _ _ _ h e = sim k _ _ _ _ (with_bytes h (sim_moved from to n _ _ h.bytes)) e
  sim (Fill o u b k) _ _ _ _ h e = sim k _ _ _ _ (with_bytes h (sim_filled o u _ _ _ _ h.bytes (laws.byte_of b))) e
  sim (PutText o text k) _ _ _ _ h e = sim k _ _ _ _ (with_bytes h (sim_text o text _ _ h.bytes)) e
  sim (Empty k) _ _ _ _ h e = sim k _ _ _ _ (record { bytes = h.bytes; stack = none; rstack = none; ip = h.ip; due = h.due; wait = h.wait }) e
  sim (EmptyReturn k) _ _ _ _ h e = sim k _ _ _ _ (with_rstack h none) e
  sim (SetIp x k) _ _ _ _ h e = agrees_after _ _ _ _ (sim_cell x _ _ _ _ h e) (λ _ _ r. sim k _ _ _ _ (record { bytes = h.bytes; stack = h.stack; rstack = h.rstack; ip = r; due = h.due; wait = h.wait }) e)
  sim (TakeDue k) _ _ _ _ h e = sim_due _ _ _ _ _ _ h.due (sim (k None) _ _ _ _ h e) (λ _ _ r. sim_named (λ x. k (Some x)) (λ x. sim (k (Some x))) (with_due h nothing) e (named e r))
  sim (SetDue x k) _ _ _ _ h e = agrees_after _ _ _ _ (sim_cell x _ _ _ _ h e) (λ _ _ r. sim k _ _ _ _ (with_due h (something r)) e)
  sim (SetWait w k) _ _ _ _ h e = agrees_after _ _ _ _ (sim_wait w _ _ _ _ h e) (λ _ _ r. sim k _ _ _ _ (record { bytes = h.bytes; stack = h.stack; rstack = h.rstack; ip = h.ip; due = h.due; wait = r }) e)
  sim (TakeWait k) _ _ _ _ h e = rw (each_length e) (rw (same_wait _ h.wait) (sim (k _) _ _ _ _ (with_wait h idle) (each_append e (each_waited h.wait))))
  sim (Call part xs k) _ _ _ _ h e = agrees_after _ _ _ _ (sim_cells xs _ _ _ _ h e) (λ _ _ r. agrees_after _ _ _ _ (sim part _ _ _ _ h r) (λ _ _ t. rw t.answer (sim (k _) _ _ _ _ t.machine e)))
  sim (Again xs k) _ _ _ _ h e = agrees_after _ _ _ _ (sim_cells xs _ _ _ _ h e) (λ _ _ r. sim k _ _ _ _ h r)
