-- The operations of the arithmetic that an action does.
use Rattle.std.specs.Prelude.{◌+◌, ◌==◌, if◌then◌else◌, List, [], ◌∷◌, ◌++◌, None, Some, Result, Ok, Err, length, get_or, drop, slice_set}
use Rattle.mi_model.specs.declared.Fault.{Fault}
use Rattle.mi_model.specs.declared.Wait.{Wait}
use Rattle.mi_model.specs.declared.Wait.TheVariants.{Idle, Line, Refill, Accept}
use Rattle.mi_model.specs.Ops.{Ops, Two, One, Test, Division}
use Rattle.mi_model.specs.Machine.{Machine, asked}
use Rattle.mi_model.specs.Region.{fetch, get, with_cell, with_moved, with_filled, with_text, tests}
use Rattle.mi_model.specs.Action.{Operand, Question, AnswerKind, Action}
use Rattle.mi_model.specs.Action.Operand.{Named, At, Ip, Plain, Address, CodeAddress, Of}
use Rattle.mi_model.specs.Action.Question.{Offset, CellAt, ByteAt, Number, LowByte, ByteOf, RangeOf}
use Rattle.mi_model.specs.Action.Action.{Give, Throws, Needs, Takes, Drop, Push, RPush, Depth, Size, Item, RItem, Name, Single, Product, Divide, Check, Ask, Tag, Fetch, FetchByteAt, PutCell, PutByte, Move, Fill, PutText, Empty, EmptyReturn, SetIp, TakeDue, SetDue, SetWait, TakeWait, Call, Again}
use Rattle.mi_model.specs.Outcome.{top, cell_of, cells_of, wait_of, answer_to, division_of, take_due, named_wait, wait_cells, outcome_of}

-- an operation with its operands
pub data Operation (C : Type 0) : Type 0 where
  OnTwo : Two → C → C → Operation C
  OnOne : One → C → Operation C
  OnTest : Test → C → C → Operation C
  OnProduct : C → C → Operation C
  OnDivide : Division → (low high by : C) → Operation C
  OnPlace OnTag OnNumber : C → Operation C

-- what is met after an answer
abbrev pub then_met : {X C : Type 0} → Result X Fault → (X → List (Operation C)) → List (Operation C)
then_met (Ok x) f = f x
then_met (Err e) f = []

-- what an operand meets
abbrev pub met_in : {C B : Type 0} → Ops C B → Machine C B → List C → Operand → List (Operation C)
met_in ops m names (Named i) = []
met_in ops m names (At o) = []
met_in ops m names Ip = []
met_in ops m names (Plain n) = []
met_in ops m names (Address o) = []
met_in ops m names (CodeAddress t) = []
met_in ops m names (Of op x y) = met_in ops m names x ++ then_met (cell_of ops m names x) (λ a. met_in ops m names y ++ then_met (cell_of ops m names y) (λ b. OnTwo op a b ∷ []))

abbrev pub met_ins : {C B : Type 0} → Ops C B → Machine C B → List C → List Operand → List (Operation C)
met_ins ops m names [] = []
met_ins ops m names (x ∷ xs) = met_in ops m names x ++ then_met (cell_of ops m names x) (λ a. met_ins ops m names xs)

abbrev pub met_wait : {C B : Type 0} → Ops C B → Machine C B → List C → Wait Operand → List (Operation C)
met_wait ops m names Idle = []
met_wait ops m names Line = []
met_wait ops m names Refill = []
met_wait ops m names (Accept x n) = met_in ops m names x

-- what a question meets
abbrev pub met_asking : {C : Type 0} → Question → C → List (Operation C)
met_asking Offset a = OnPlace a ∷ []
met_asking CellAt a = OnPlace a ∷ []
met_asking ByteAt a = OnPlace a ∷ []
met_asking (RangeOf n) a = if n == 0 then [] else (OnPlace a ∷ [])
met_asking Number a = OnNumber a ∷ []
met_asking LowByte a = []
met_asking ByteOf a = OnPlace a ∷ []

-- the operations that an action does, in order; where one is refused, it is the last
abbrev pub operations_met : {C B : Type 0} {i : AnswerKind} → Ops C B → Action i → Machine C B → List C → List (Operation C)
operations_met ops (Give x) m names = []
operations_met ops (Throws c) m names = []
operations_met ops (Needs i o ri ro k) m names = then_met (tests i o ri ro m) (λ _. operations_met ops k m names)
operations_met ops (Takes i o ri ro k) m names = then_met (tests i o ri ro m) (λ _.
    operations_met ops (k (length names)) m (names ++ (top (ops.plain 0) i m.stack ++ top (ops.plain 0) ri m.rstack)))
operations_met ops (Drop n rn k) m names = operations_met ops k (record m { stack = drop n m.stack; rstack = drop rn m.rstack }) names
operations_met ops (Push x k) m names = met_in ops m names x ++ then_met (cell_of ops m names x) (λ a. operations_met ops k (record m { stack = a ∷ m.stack }) names)
operations_met ops (RPush x k) m names = met_in ops m names x ++ then_met (cell_of ops m names x) (λ a. operations_met ops k (record m { rstack = a ∷ m.rstack }) names)
operations_met ops (Depth k) m names = operations_met ops (k (length m.stack)) m names
operations_met ops (Size k) m names = operations_met ops (k (length m.bytes)) m names
operations_met ops (Item i k) m names = operations_met ops (k (Named (length names))) m (names ++ get_or m.stack i (ops.plain 0) ∷ [])
operations_met ops (RItem i k) m names = operations_met ops (k (Named (length names))) m (names ++ get_or m.rstack i (ops.plain 0) ∷ [])
operations_met ops (Name x k) m names = met_in ops m names x ++ then_met (cell_of ops m names x) (λ a. operations_met ops (k (Named (length names))) m (names ++ a ∷ []))
operations_met ops (Single op x k) m names = met_in ops m names x ++ then_met (cell_of ops m names x) (λ a. OnOne op a ∷ then_met (asked (ops.one op a)) (λ c. operations_met ops (k (Named (length names))) m (names ++ c ∷ [])))
operations_met ops (Product x y k) m names = met_in ops m names x ++ then_met (cell_of ops m names x) (λ a. met_in ops m names y ++ then_met (cell_of ops m names y) (λ b. OnProduct a b ∷ then_met (asked (ops.product a b)) (λ p.
    operations_met ops (k (Named (length names)) (Named (length names + 1))) m (names ++ (p.0 ∷ (p.1 ∷ []))))))
operations_met ops (Divide division x y z k) m names = met_in ops m names x ++ then_met (cell_of ops m names x) (λ a. met_in ops m names y ++ then_met (cell_of ops m names y) (λ b. met_in ops m names z ++ then_met (cell_of ops m names z) (λ c.
    OnDivide division a b c ∷ then_met (division_of ops division a b c) (λ p. operations_met ops (k (Named (length names)) (Named (length names + 1))) m (names ++ (p.0 ∷ (p.1 ∷ [])))))))
operations_met ops (Check op x y k) m names = met_in ops m names x ++ then_met (cell_of ops m names x) (λ a. met_in ops m names y ++ then_met (cell_of ops m names y) (λ b. OnTest op a b ∷ then_met (asked (ops.test op a b)) (λ t. operations_met ops (k t) m names)))
operations_met ops (Ask q x k) m names = met_in ops m names x ++ then_met (cell_of ops m names x) (λ a. met_asking q a ++ then_met (answer_to ops m.bytes q a) (λ n. operations_met ops (k n) m names))
operations_met ops (Tag x k) m names = met_in ops m names x ++ then_met (cell_of ops m names x) (λ a. OnTag a ∷ then_met (asked (ops.tag a)) (λ t. operations_met ops (k t) m names))
operations_met ops (Fetch x k) m names = met_in ops m names x ++ then_met (cell_of ops m names x) (λ a. OnPlace a ∷ then_met (fetch ops m.bytes a) (λ c. operations_met ops (k (Named (length names))) m (names ++ c ∷ [])))
operations_met ops (FetchByteAt o k) m names = then_met (asked (ops.value (get ops m.bytes o))) (λ n. operations_met ops (k n) m names)
operations_met ops (PutCell o x k) m names = met_in ops m names x ++ then_met (cell_of ops m names x) (λ a. operations_met ops k (record m { bytes = with_cell ops m.bytes o a }) names)
operations_met ops (PutByte o b k) m names = operations_met ops k (record m { bytes = slice_set m.bytes o (ops.byte b) }) names
operations_met ops (Move from to n k) m names = operations_met ops k (record m { bytes = with_moved m.bytes from to n }) names
operations_met ops (Fill o n b k) m names = operations_met ops k (record m { bytes = with_filled m.bytes o n (ops.byte b) }) names
operations_met ops (PutText o text k) m names = operations_met ops k (record m { bytes = with_text ops m.bytes o text }) names
operations_met ops (Empty k) m names = operations_met ops k (record m { stack = []; rstack = [] }) names
operations_met ops (EmptyReturn k) m names = operations_met ops k (record m { rstack = [] }) names
operations_met ops (SetIp x k) m names = met_in ops m names x ++ then_met (cell_of ops m names x) (λ a. operations_met ops k (record m { ip = a }) names)
operations_met ops (TakeDue k) m names = take_due m.due (operations_met ops (k None) m names) (λ c. operations_met ops (k (Some (Named (length names)))) (record m { due = None }) (names ++ c ∷ []))
operations_met ops (SetDue x k) m names = met_in ops m names x ++ then_met (cell_of ops m names x) (λ a. operations_met ops k (record m { due = Some a }) names)
operations_met ops (SetWait w k) m names = met_wait ops m names w ++ then_met (wait_of ops m names w) (λ x. operations_met ops k (record m { wait = x }) names)
operations_met ops (TakeWait k) m names = operations_met ops (k (named_wait (length names) m.wait)) (record m { wait = Idle }) (names ++ wait_cells m.wait)
operations_met ops (Call part xs k) m names = met_ins ops m names xs ++ then_met (cells_of ops m names xs) (λ cs. operations_met ops part m cs ++ then_met (outcome_of ops part m cs) (λ r. operations_met ops (k r.0) r.1 names))
operations_met ops (Again xs k) m names = met_ins ops m names xs ++ then_met (cells_of ops m names xs) (λ cs. operations_met ops k m cs)

-- an operation stands for the same one, on the operands that its own stand for
pub data OperationStands {C D : Type 0} (cell : C → D → Type 0) : Operation C → Operation D → Type 0 where
  two : (op : Two) {a b : C} {x y : D} → cell a x → cell b y → OperationStands cell (OnTwo op a b) (OnTwo op x y)
  one : (op : One) {a : C} {x : D} → cell a x → OperationStands cell (OnOne op a) (OnOne op x)
  test : (op : Test) {a b : C} {x y : D} → cell a x → cell b y → OperationStands cell (OnTest op a b) (OnTest op x y)
  product : {a b : C} {x y : D} → cell a x → cell b y → OperationStands cell (OnProduct a b) (OnProduct x y)
  divide : (division : Division) {a b c : C} {x y z : D} → cell a x → cell b y → cell c z → OperationStands cell (OnDivide division a b c) (OnDivide division x y z)
  place : {a : C} {x : D} → cell a x → OperationStands cell (OnPlace a) (OnPlace x)
  tag : {a : C} {x : D} → cell a x → OperationStands cell (OnTag a) (OnTag x)
  number : {a : C} {x : D} → cell a x → OperationStands cell (OnNumber a) (OnNumber x)

-- the calls stand for the first of the others
pub data Begins {C D : Type 0} (cell : C → D → Type 0) : List (Operation C) → List (Operation D) → Type 0 where
  stop : (ys : List (Operation D)) → Begins cell [] ys
  next : {x : Operation C} {y : Operation D} {xs : List (Operation C)} {ys : List (Operation D)} → OperationStands cell x y → Begins cell xs ys → Begins cell (x ∷ xs) (y ∷ ys)
