-- What an action meets stands for the first of what it meets on the machine that this one stands for.
use Rattle.std.proofs.Common.{◌+◌, ◌==◌, Bool, true, false, cond, List, [], ◌∷◌, ◌++◌, length, Result, Ok, Err, Option, None, Some}
use Rattle.mi_model.specs.declared.Fault.{Fault}
use Rattle.mi_model.specs.declared.Wait.{Wait}
use Rattle.mi_model.specs.declared.Wait.TheVariants.{Idle, Line, Refill, Accept}
use Rattle.mi_model.specs.Ops.{Ops}
use Rattle.mi_model.specs.Machine.{Machine, after}
use Rattle.mi_model.specs.Action.{Operand, Question, AnswerKind, Action}
use Rattle.mi_model.specs.Action.Operand.{Named, At, Ip, Plain, Address, CodeAddress, Of}
use Rattle.mi_model.specs.Action.Question.{Offset, CellAt, ByteAt, Number, LowByte, ByteOf, RangeOf}
use Rattle.mi_model.specs.Action.Action.{Give, Throws, Needs, Takes, Drop, Push, RPush, Depth, Size, Item, RItem, Name, Single, Product, Divide, Check, Ask, Tag, Fetch, FetchByteAt, PutCell, PutByte, Move, Fill, PutText, Empty, EmptyReturn, SetIp, TakeDue, SetDue, SetWait, TakeWait, Call, Again}
use Rattle.mi_model.specs.Outcome.{cell_of, cells_of, wait_of, take_due, outcome_of}
use Rattle.mi_model.specs.Stands.{Each, OptionStands, Simulates, MachineStands, Agrees}
use Rattle.mi_model.specs.Stands.Each.{none, more}
use Rattle.mi_model.specs.Stands.OptionStands.{nothing, something}
use Rattle.mi_model.specs.Stands.WaitStands.{idle}
use Rattle.mi_model.specs.Stands.Agrees.{both, thrown, refused}
use Rattle.mi_model.proofs.Each.{each_length, each_append, each_drop, each_get, each_set, each_top}
use Rattle.mi_model.specs.Met.{Operation, then_met, met_in, met_ins, met_wait, met_asking, operations_met, OperationStands, Begins}
use Rattle.mi_model.specs.Met.OperationStands.{two, one, test, product, divide, place, tag, number}
use Rattle.mi_model.specs.Met.Begins.{stop, next}
use Rattle.mi_model.proofs.Sim.{agrees_asked, sim, sim_cell, sim_cells, sim_wait, sim_answer, sim_division, sim_fetch, sim_get, sim_tests, sim_with_cell, sim_moved, sim_filled, sim_text, with_stack, with_rstack, with_bytes, with_due, with_wait, same_wait, each_waited, named, two_named}

-- what is met stands, and where there is an answer none of the other is left out
pub data Meets {C D : Type 0} (cell : C → D → Type 0) (xs : List (Operation C)) (ys : List (Operation D)) {X : Type 0} : Result X Fault → Type 0 where
  whole : {x : X} → Each (OperationStands cell) xs ys → Meets cell xs ys (Ok x)
  broken : {e : Fault} → Begins cell xs ys → Meets cell xs ys (Err e)

begins_append : {C D : Type 0} {cell : C → D → Type 0} {xs us : List (Operation C)} {ys vs : List (Operation D)} → Each (OperationStands cell) xs ys → Begins cell us vs → Begins cell (xs ++ us) (ys ++ vs)
begins_append none b = b
begins_append (more h e) b = next h (begins_append e b)

begins_end : {C D : Type 0} {cell : C → D → Type 0} {xs : List (Operation C)} {ys : List (Operation D)} (zs : List (Operation D)) → Begins cell xs ys → Begins cell (xs ++ []) (ys ++ zs)
begins_end zs (stop ys) = stop _
begins_end zs (next h b) = next h (begins_end zs b)

meets_after : {C D : Type 0} {cell : C → D → Type 0} {X : Type 0} {xs us : List (Operation C)} {ys vs : List (Operation D)} (r : Result X Fault) → Each (OperationStands cell) xs ys → Meets cell us vs r → Meets cell (xs ++ us) (ys ++ vs) r
meets_after _ e (whole f) = whole (each_append e f)
meets_after _ e (broken b) = broken (begins_append e b)

meets_then : {X Y V C D : Type 0} {cell : C → D → Type 0} {R : X → Y → Type 0} (xs : List (Operation C)) (ys : List (Operation D)) (r : Result X Fault) (s : Result Y Fault) (f : X → List (Operation C)) (g : Y → List (Operation D)) (F : X → Result V Fault)
    → Meets cell xs ys r → Agrees R r s → ((x : X) (y : Y) → R x y → Meets cell (f x) (g y) (F x)) → Meets cell (xs ++ then_met r f) (ys ++ then_met s g) (after r F)
meets_then xs ys _ _ f g F (whole e) (both h) k = meets_after _ e (k _ _ h)
meets_then xs ys _ _ f g F (broken b) (thrown code) k = broken (begins_end _ b)
meets_then xs ys _ _ f g F (broken b) (refused a c why t) k = broken (begins_end _ b)

meets_none : {X C D : Type 0} {cell : C → D → Type 0} (r : Result X Fault) → Meets cell [] [] r
meets_none (Ok x) = whole none
meets_none (Err e) = broken (stop [])

meets_if : {X C D : Type 0} {cell : C → D → Type 0} (b : Bool) (xs us : List (Operation C)) (ys vs : List (Operation D)) (r : Result X Fault) → Meets cell xs ys r → Meets cell us vs r → Meets cell (cond b xs us) (cond b ys vs) r
meets_if true xs us ys vs r h k = h
meets_if false xs us ys vs r h k = k

meets_one : {X C D : Type 0} {cell : C → D → Type 0} {x : Operation C} {y : Operation D} (r : Result X Fault) → OperationStands cell x y → Meets cell (x ∷ []) (y ∷ []) r
meets_one (Ok x) h = whole (more h none)
meets_one (Err e) h = broken (next h (stop []))

-- an answer that is made of another meets what that meets
meets_last : {X V C D : Type 0} {cell : C → D → Type 0} (xs : List (Operation C)) (ys : List (Operation D)) (r : Result X Fault) (F : X → V) → Meets cell xs ys r → Meets cell xs ys (after r (λ x. Ok (F x)))
meets_last xs ys _ F (whole e) = whole e
meets_last xs ys _ F (broken b) = broken b

all_begins : {C D : Type 0} {cell : C → D → Type 0} {xs : List (Operation C)} {ys : List (Operation D)} → Each (OperationStands cell) xs ys → Begins cell xs ys
all_begins none = stop _
all_begins (more h e) = next h (all_begins e)

pub meets_begins : {X C D : Type 0} {cell : C → D → Type 0} {xs : List (Operation C)} {ys : List (Operation D)} (r : Result X Fault) → Meets cell xs ys r → Begins cell xs ys
meets_begins _ (broken b) = b
meets_begins _ (whole e) = all_begins e

module _ {C B D E : Type 0} (cell : C → D → Type 0) (byte : B → E → Type 0) (O : Ops C B) (P : Ops D E) (laws : Simulates cell byte O P) where
  meets_in : (x : Operand) (m : Machine C B) (n : Machine D E) (names : List C) (names' : List D) → MachineStands cell byte m n → Each cell names names' → Meets cell (met_in O m names x) (met_in P n names' x) (cell_of O m names x)
  meets_in (Named i) m n _ _ h e = meets_none _
  meets_in (At o) m n _ _ h e = meets_none _
  meets_in Ip m n _ _ h e = meets_none _
  meets_in (Plain k) m n _ _ h e = meets_none _
  meets_in (Address o) m n _ _ h e = meets_none _
  meets_in (CodeAddress t) m n _ _ h e = meets_none _
  meets_in (Of op x y) m n _ _ h e = meets_then _ _ _ _ _ _ _ (meets_in x m n _ _ h e) (sim_cell cell byte O P laws x m n _ _ h e) (λ a a' r.
      meets_then _ _ _ _ _ _ _ (meets_in y m n _ _ h e) (sim_cell cell byte O P laws y m n _ _ h e) (λ b b' s. meets_one _ (two op r s)))

  meets_ins : (xs : List Operand) (m : Machine C B) (n : Machine D E) (names : List C) (names' : List D) → MachineStands cell byte m n → Each cell names names' → Meets cell (met_ins O m names xs) (met_ins P n names' xs) (cells_of O m names xs)
  meets_ins [] m n _ _ h e = meets_none _
  meets_ins (x ∷ xs) m n _ _ h e = meets_then _ _ _ _ _ _ _ (meets_in x m n _ _ h e) (sim_cell cell byte O P laws x m n _ _ h e) (λ a a' r. meets_last _ _ _ _ (meets_ins xs m n _ _ h e))

  meets_wait : (w : Wait Operand) (m : Machine C B) (n : Machine D E) (names : List C) (names' : List D) → MachineStands cell byte m n → Each cell names names' → Meets cell (met_wait O m names w) (met_wait P n names' w) (wait_of O m names w)
  meets_wait Idle m n _ _ h e = meets_none _
  meets_wait Line m n _ _ h e = meets_none _
  meets_wait Refill m n _ _ h e = meets_none _
  meets_wait (Accept x k) m n _ _ h e = meets_last _ _ _ _ (meets_in x m n _ _ h e)

  meets_asking : {X : Type 0} (q : Question) (a : C) (x : D) (r : Result X Fault) → cell a x → Meets cell (met_asking q a) (met_asking q x) r
  meets_asking Offset a x r h = meets_one r (place h)
  meets_asking CellAt a x r h = meets_one r (place h)
  meets_asking ByteAt a x r h = meets_one r (place h)
  meets_asking (RangeOf n) a x r h = meets_if (n == 0) _ _ _ _ r (meets_none r) (meets_one r (place h))
  meets_asking Number a x r h = meets_one r (number h)
  meets_asking LowByte a x r h = meets_none r
  meets_asking ByteOf a x r h = meets_one r (place h)

  meets_due : {V : Type 0} (c : Option C) (d : Option D) (x : List (Operation C)) (y : List (Operation D)) (f : C → List (Operation C)) (g : D → List (Operation D)) (u : Result V Fault) (F : C → Result V Fault) →
      OptionStands cell c d → Meets cell x y u → ((a : C) (b : D) → cell a b → Meets cell (f a) (g b) (F a)) → Meets cell (take_due c x f) (take_due d y g) (take_due c u F)
  meets_due _ _ x y f g u F nothing h k = h
  meets_due _ _ x y f g u F (something r) h k = k _ _ r

  abbrev pub Met : {i : AnswerKind} → Action i → Type 0
  Met action = (m : Machine C B) (n : Machine D E) (names : List C) (names' : List D) →
      MachineStands cell byte m n → Each cell names names' → Meets cell (operations_met O action m names) (operations_met P action n names') (outcome_of O action m names)

  meets_named : {i : AnswerKind} (k : Operand → Action i) {m : Machine C B} {n : Machine D E} {names more_names : List C} {names' more_names' : List D} →
      ((x : Operand) → Met (k x)) → MachineStands cell byte m n → Each cell names names' → Each cell more_names more_names' →
      Meets cell (operations_met O (k (Named (length names))) m more_names) (operations_met P (k (Named (length names'))) n more_names') (outcome_of O (k (Named (length names))) m more_names)
  meets_named k ih h e f = rw (each_length e) (ih _ _ _ _ _ h f)

  meets_two_named : {i : AnswerKind} (k : Operand → Operand → Action i) {m : Machine C B} {n : Machine D E} {names more_names : List C} {names' more_names' : List D} →
      ((x y : Operand) → Met (k x y)) → MachineStands cell byte m n → Each cell names names' → Each cell more_names more_names' →
      Meets cell (operations_met O (k (Named (length names)) (Named (length names + 1))) m more_names) (operations_met P (k (Named (length names')) (Named (length names' + 1))) n more_names')
      (outcome_of O (k (Named (length names)) (Named (length names + 1))) m more_names)
  meets_two_named k ih h e f = rw (each_length e) (ih _ _ _ _ _ _ h f)

  pub meets : {i : AnswerKind} (action : Action i) → Met action
  meets (Give x) _ _ _ _ h e = whole none
  meets (Throws c) _ _ _ _ h e = broken (stop [])
  meets (Needs i u ri ru k) _ _ _ _ h e = meets_then _ _ _ _ _ _ _ (meets_none _) (sim_tests cell byte O P laws i u ri ru _ _ h) (λ _ _ _. meets k _ _ _ _ h e)
  meets (Takes i u ri ru k) _ _ _ _ h e = rw (each_length e) (meets_then _ _ _ _ _ _ _ (meets_none _) (sim_tests cell byte O P laws i u ri ru _ _ h) (λ _ _ _. meets (k _) _ _ _ _ h
      (each_append e (each_append (each_top _ _ i (laws.plain 0) h.stack) (each_top _ _ ri (laws.plain 0) h.rstack)))))
  meets (Drop u ru k) _ _ _ _ h e = meets k _ _ _ _ (record { bytes = h.bytes; stack = each_drop u h.stack; rstack = each_drop ru h.rstack; ip = h.ip; due = h.due; wait = h.wait }) e
  meets (Push x k) _ _ _ _ h e = meets_then _ _ _ _ _ _ _ (meets_in x _ _ _ _ h e) (sim_cell cell byte O P laws x _ _ _ _ h e) (λ _ _ r. meets k _ _ _ _ (with_stack cell byte O P laws h (more r h.stack)) e)
  meets (RPush x k) _ _ _ _ h e = meets_then _ _ _ _ _ _ _ (meets_in x _ _ _ _ h e) (sim_cell cell byte O P laws x _ _ _ _ h e) (λ _ _ r. meets k _ _ _ _ (with_rstack cell byte O P laws h (more r h.rstack)) e)
  meets (Depth k) _ _ _ _ h e = rw (each_length h.stack) (meets (k _) _ _ _ _ h e)
  meets (Size k) _ _ _ _ h e = rw (each_length h.bytes) (meets (k _) _ _ _ _ h e)
  meets (Item i k) _ _ _ _ h e = meets_named k (λ x. meets (k x)) h e (named cell byte O P laws e (each_get i h.stack (laws.plain 0)))
  meets (RItem i k) _ _ _ _ h e = meets_named k (λ x. meets (k x)) h e (named cell byte O P laws e (each_get i h.rstack (laws.plain 0)))
  meets (Name x k) _ _ _ _ h e = meets_then _ _ _ _ _ _ _ (meets_in x _ _ _ _ h e) (sim_cell cell byte O P laws x _ _ _ _ h e) (λ _ _ r. meets_named k (λ y. meets (k y)) h e (named cell byte O P laws e r))
  meets (Single op x k) _ _ _ _ h e = meets_then _ _ _ _ _ _ _ (meets_in x _ _ _ _ h e) (sim_cell cell byte O P laws x _ _ _ _ h e) (λ a a' r. meets_then _ _ _ _ _ _ _ (meets_one _ (one op r)) (agrees_asked _ _ (laws.one op a a' r)) (λ _ _ s. meets_named k (λ y. meets (k y)) h e (named cell byte O P laws e s)))
  meets (Product x y k) _ _ _ _ h e = meets_then _ _ _ _ _ _ _ (meets_in x _ _ _ _ h e) (sim_cell cell byte O P laws x _ _ _ _ h e) (λ a a' r. meets_then _ _ _ _ _ _ _ (meets_in y _ _ _ _ h e) (sim_cell cell byte O P laws y _ _ _ _ h e) (λ b b' s.
      meets_then _ _ _ _ _ _ _ (meets_one _ (product r s)) (agrees_asked _ _ (laws.product a b a' b' r s)) (λ _ _ t. meets_two_named k (λ u v. meets (k u v)) h e (two_named cell byte O P laws e t))))
  meets (Divide division x y z k) _ _ _ _ h e = meets_then _ _ _ _ _ _ _ (meets_in x _ _ _ _ h e) (sim_cell cell byte O P laws x _ _ _ _ h e) (λ a a' r. meets_then _ _ _ _ _ _ _ (meets_in y _ _ _ _ h e) (sim_cell cell byte O P laws y _ _ _ _ h e) (λ b b' s.
      meets_then _ _ _ _ _ _ _ (meets_in z _ _ _ _ h e) (sim_cell cell byte O P laws z _ _ _ _ h e) (λ c c' t. meets_then _ _ _ _ _ _ _ (meets_one _ (divide division r s t)) (sim_division cell byte O P laws division a b c a' b' c' r s t)
      (λ _ _ d. meets_two_named k (λ u v. meets (k u v)) h e (two_named cell byte O P laws e d)))))
  meets (Check op x y k) _ _ _ _ h e = meets_then _ _ _ _ _ _ _ (meets_in x _ _ _ _ h e) (sim_cell cell byte O P laws x _ _ _ _ h e) (λ a a' r. meets_then _ _ _ _ _ _ _ (meets_in y _ _ _ _ h e) (sim_cell cell byte O P laws y _ _ _ _ h e) (λ b b' s.
      meets_then _ _ _ _ _ _ _ (meets_one _ (test op r s)) (agrees_asked _ _ (laws.test op a b a' b' r s)) (λ _ _ t. rw t (meets (k _) _ _ _ _ h e))))
  meets (Ask q x k) _ _ _ _ h e = meets_then _ _ _ _ _ _ _ (meets_in x _ _ _ _ h e) (sim_cell cell byte O P laws x _ _ _ _ h e) (λ a a' r. meets_then _ _ _ _ _ _ _ (meets_asking q a a' _ r) (sim_answer cell byte O P laws q _ _ a a' h.bytes r) (λ _ _ t. rw t (meets (k _) _ _ _ _ h e)))
  meets (Tag x k) _ _ _ _ h e = meets_then _ _ _ _ _ _ _ (meets_in x _ _ _ _ h e) (sim_cell cell byte O P laws x _ _ _ _ h e) (λ a a' r. meets_then _ _ _ _ _ _ _ (meets_one _ (tag r)) (agrees_asked _ _ (laws.tag a a' r)) (λ _ _ t. rw t (meets (k _) _ _ _ _ h e)))
  meets (Fetch x k) _ _ _ _ h e = meets_then _ _ _ _ _ _ _ (meets_in x _ _ _ _ h e) (sim_cell cell byte O P laws x _ _ _ _ h e) (λ a a' r. meets_then _ _ _ _ _ _ _ (meets_one _ (place r)) (sim_fetch cell byte O P laws _ _ a a' h.bytes r) (λ _ _ s. meets_named k (λ y. meets (k y)) h e (named cell byte O P laws e s)))
  meets (FetchByteAt i k) _ _ _ _ h e = meets_then _ _ _ _ _ _ _ (meets_none _) (agrees_asked _ _ (laws.value _ _ (sim_get cell byte O P laws i _ _ h.bytes))) (λ _ _ t. rw t (meets (k _) _ _ _ _ h e))
  meets (PutCell i x k) _ _ _ _ h e = meets_then _ _ _ _ _ _ _ (meets_in x _ _ _ _ h e) (sim_cell cell byte O P laws x _ _ _ _ h e) (λ a a' r. meets k _ _ _ _ (with_bytes cell byte O P laws h (sim_with_cell cell byte O P laws i _ _ a a' h.bytes r)) e)
  meets (PutByte i b k) _ _ _ _ h e = meets k _ _ _ _ (with_bytes cell byte O P laws h (each_set i h.bytes (laws.byte_of b))) e
  meets (Move from to n k) _ _ _ _ h e = meets k _ _ _ _ (with_bytes cell byte O P laws h (sim_moved cell byte O P laws from to n _ _ h.bytes)) e
  meets (Fill o u b k) _ _ _ _ h e = meets k _ _ _ _ (with_bytes cell byte O P laws h (sim_filled cell byte O P laws o u _ _ _ _ h.bytes (laws.byte_of b))) e
  meets (PutText o text k) _ _ _ _ h e = meets k _ _ _ _ (with_bytes cell byte O P laws h (sim_text cell byte O P laws o text _ _ h.bytes)) e
  meets (Empty k) _ _ _ _ h e = meets k _ _ _ _ (record { bytes = h.bytes; stack = none; rstack = none; ip = h.ip; due = h.due; wait = h.wait }) e
  meets (EmptyReturn k) _ _ _ _ h e = meets k _ _ _ _ (with_rstack cell byte O P laws h none) e
  meets (SetIp x k) _ _ _ _ h e = meets_then _ _ _ _ _ _ _ (meets_in x _ _ _ _ h e) (sim_cell cell byte O P laws x _ _ _ _ h e) (λ _ _ r. meets k _ _ _ _ (record { bytes = h.bytes; stack = h.stack; rstack = h.rstack; ip = r; due = h.due; wait = h.wait }) e)
  meets (TakeDue k) _ _ _ _ h e = meets_due _ _ _ _ _ _ _ _ h.due (meets (k None) _ _ _ _ h e) (λ _ _ r. meets_named (λ x. k (Some x)) (λ x. meets (k (Some x))) (with_due cell byte O P laws h nothing) e (named cell byte O P laws e r))
  meets (SetDue x k) _ _ _ _ h e = meets_then _ _ _ _ _ _ _ (meets_in x _ _ _ _ h e) (sim_cell cell byte O P laws x _ _ _ _ h e) (λ _ _ r. meets k _ _ _ _ (with_due cell byte O P laws h (something r)) e)
  meets (SetWait w k) _ _ _ _ h e = meets_then _ _ _ _ _ _ _ (meets_wait w _ _ _ _ h e) (sim_wait cell byte O P laws w _ _ _ _ h e) (λ _ _ r. meets k _ _ _ _ (record { bytes = h.bytes; stack = h.stack; rstack = h.rstack; ip = h.ip; due = h.due; wait = r }) e)
  meets (TakeWait k) _ _ _ _ h e = rw (each_length e) (rw (same_wait _ h.wait) (meets (k _) _ _ _ _ (with_wait cell byte O P laws h idle) (each_append e (each_waited h.wait))))
  meets (Call part xs k) _ _ _ _ h e = meets_then _ _ _ _ _ _ _ (meets_ins xs _ _ _ _ h e) (sim_cells cell byte O P laws xs _ _ _ _ h e) (λ _ _ r. meets_then _ _ _ _ _ _ _ (meets part _ _ _ _ h r) (sim cell byte O P laws part _ _ _ _ h r) (λ _ _ t. rw t.answer (meets (k _) _ _ _ _ t.machine e)))
  meets (Again xs k) _ _ _ _ h e = meets_then _ _ _ _ _ _ _ (meets_ins xs _ _ _ _ h e) (sim_cells cell byte O P laws xs _ _ _ _ h e) (λ _ _ r. meets k _ _ _ _ h r)
