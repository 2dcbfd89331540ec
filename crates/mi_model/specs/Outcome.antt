-- What an action does to a machine, over any arithmetic.
use Rattle.std.specs.Prelude.{ℕ, ◌+◌, List, [], ◌∷◌, ◌++◌, zero, suc, Option, None, Some, Result, Ok, Err, length, get_or, drop, slice_set}
use Rattle.mi_model.specs.declared.Fault.{Fault}
use Rattle.mi_model.specs.declared.Fault.TheVariants.{Throw}
use Rattle.mi_model.specs.declared.Wait.{Wait}
use Rattle.mi_model.specs.declared.Wait.TheVariants.{Idle, Line, Refill, Accept}
use Rattle.mi_model.specs.Ops.{Ops, Division}
use Rattle.mi_model.specs.Machine.{Machine, after, asked, quotient_or_throw}
use Rattle.mi_model.specs.Region.{offset_of, cell_at, byte_at, range_at, fetch_at, fetch, fetch_byte, get, with_cell, with_moved, with_filled, with_text, tests}
use Rattle.mi_model.specs.Action.{Operand, Question, AnswerKind, Answer, Action}
use Rattle.mi_model.specs.Action.Operand.{Named, At, Ip, Plain, Address, CodeAddress, Of}
use Rattle.mi_model.specs.Action.Question.{Offset, CellAt, ByteAt, Number, LowByte, ByteOf, RangeOf}
use Rattle.mi_model.specs.Action.Action.{Give, Throws, Needs, Takes, Drop, Push, RPush, Depth, Size, Item, RItem, Name, Single, Product, Divide, Check, Ask, Tag, Fetch, FetchByteAt, PutCell, PutByte, Move, Fill, PutText, Empty, EmptyReturn, SetIp, TakeDue, SetDue, SetWait, TakeWait, Call, Again}

-- the first n of a stack, lowest first
abbrev pub top : {C : Type 0} → C → ℕ → List C → List C
top d zero xs = []
top d (suc n) xs = get_or xs n d ∷ top d n xs

-- the value of an operand, where the cells that are named are these
abbrev pub cell_of : {C B : Type 0} → Ops C B → Machine C B → List C → Operand → Result C Fault
cell_of ops m names (Named i) = Ok (get_or names i (ops.plain 0))
cell_of ops m names (At o) = fetch_at ops m.bytes o
cell_of ops m names Ip = Ok m.ip
cell_of ops m names (Plain n) = Ok (ops.plain n)
cell_of ops m names (Address o) = Ok (ops.region_cell o)
cell_of ops m names (CodeAddress t) = Ok (ops.code_cell t)
cell_of ops m names (Of op x y) = after (cell_of ops m names x) (λ a. after (cell_of ops m names y) (λ b. asked (ops.two op a b)))

abbrev pub cells_of : {C B : Type 0} → Ops C B → Machine C B → List C → List Operand → Result (List C) Fault
cells_of ops m names [] = Ok []
cells_of ops m names (x ∷ xs) = after (cell_of ops m names x) (λ a. after (cells_of ops m names xs) (λ cs. Ok (a ∷ cs)))

abbrev pub wait_of : {C B : Type 0} → Ops C B → Machine C B → List C → Wait Operand → Result (Wait C) Fault
wait_of ops m names Idle = Ok Idle
wait_of ops m names Line = Ok Line
wait_of ops m names Refill = Ok Refill
wait_of ops m names (Accept x n) = after (cell_of ops m names x) (λ a. Ok (Accept a n))

-- the answer of a cell to a question
abbrev pub answer_to : {C B : Type 0} → Ops C B → List B → Question → C → Result ℕ Fault
answer_to ops bytes Offset a = offset_of ops a
answer_to ops bytes CellAt a = cell_at ops bytes a
answer_to ops bytes ByteAt a = byte_at ops bytes a
answer_to ops bytes (RangeOf n) a = range_at ops bytes n a
answer_to ops bytes Number a = asked (ops.number a)
answer_to ops bytes LowByte a = asked (ops.low_byte a)
answer_to ops bytes ByteOf a = fetch_byte ops bytes a

-- the remainder and the quotient of a double cell
abbrev pub division_of : {C B : Type 0} → Ops C B → Division → (low high by : C) → Result (C × C) Fault
division_of ops division low high by = after (asked (ops.divide division low high by)) (λ answer. quotient_or_throw answer)

abbrev pub take_due : {C A : Type 0} → Option C → A → (C → A) → A
take_due None a f = a
take_due (Some c) a f = f c

-- a wait in which cell i is named, and the cells that are named in a wait
abbrev pub named_wait : {C : Type 0} → (i : ℕ) → Wait C → Wait Operand
named_wait i Idle = Idle
named_wait i Line = Line
named_wait i Refill = Refill
named_wait i (Accept a n) = Accept (Named i) n

abbrev pub wait_cells : {C : Type 0} → Wait C → List C
wait_cells Idle = []
wait_cells Line = []
wait_cells Refill = []
wait_cells (Accept a n) = a ∷ []

-- what an action gives, and the machine after it, or the first fault
abbrev pub outcome_of : {C B : Type 0} {i : AnswerKind} → Ops C B → Action i → Machine C B → List C → Result (Answer i × Machine C B) Fault
outcome_of ops (Give x) m names = Ok (x, m)
outcome_of ops (Throws c) m names = Err (Throw c)
outcome_of ops (Needs i o ri ro k) m names = after (tests i o ri ro m) (λ _. outcome_of ops k m names)
outcome_of ops (Takes i o ri ro k) m names = after (tests i o ri ro m) (λ _.
    outcome_of ops (k (length names)) m (names ++ (top (ops.plain 0) i m.stack ++ top (ops.plain 0) ri m.rstack)))
outcome_of ops (Drop n rn k) m names = outcome_of ops k (record m { stack = drop n m.stack; rstack = drop rn m.rstack }) names
outcome_of ops (Push x k) m names = after (cell_of ops m names x) (λ a. outcome_of ops k (record m { stack = a ∷ m.stack }) names)
outcome_of ops (RPush x k) m names = after (cell_of ops m names x) (λ a. outcome_of ops k (record m { rstack = a ∷ m.rstack }) names)
outcome_of ops (Depth k) m names = outcome_of ops (k (length m.stack)) m names
outcome_of ops (Size k) m names = outcome_of ops (k (length m.bytes)) m names
outcome_of ops (Item i k) m names = outcome_of ops (k (Named (length names))) m (names ++ get_or m.stack i (ops.plain 0) ∷ [])
outcome_of ops (RItem i k) m names = outcome_of ops (k (Named (length names))) m (names ++ get_or m.rstack i (ops.plain 0) ∷ [])
outcome_of ops (Name x k) m names = after (cell_of ops m names x) (λ a. outcome_of ops (k (Named (length names))) m (names ++ a ∷ []))
outcome_of ops (Single op x k) m names = after (cell_of ops m names x) (λ a. after (asked (ops.one op a)) (λ c. outcome_of ops (k (Named (length names))) m (names ++ c ∷ [])))
outcome_of ops (Product x y k) m names = after (cell_of ops m names x) (λ a. after (cell_of ops m names y) (λ b. after (asked (ops.product a b)) (λ p.
    outcome_of ops (k (Named (length names)) (Named (length names + 1))) m (names ++ (p.0 ∷ (p.1 ∷ []))))))
outcome_of ops (Divide division x y z k) m names = after (cell_of ops m names x) (λ a. after (cell_of ops m names y) (λ b. after (cell_of ops m names z) (λ c. after (division_of ops division a b c) (λ p.
    outcome_of ops (k (Named (length names)) (Named (length names + 1))) m (names ++ (p.0 ∷ (p.1 ∷ [])))))))
outcome_of ops (Check op x y k) m names = after (cell_of ops m names x) (λ a. after (cell_of ops m names y) (λ b. after (asked (ops.test op a b)) (λ t. outcome_of ops (k t) m names)))
outcome_of ops (Ask q x k) m names = after (cell_of ops m names x) (λ a. after (answer_to ops m.bytes q a) (λ n. outcome_of ops (k n) m names))
outcome_of ops (Tag x k) m names = after (cell_of ops m names x) (λ a. after (asked (ops.tag a)) (λ t. outcome_of ops (k t) m names))
outcome_of ops (Fetch x k) m names = after (cell_of ops m names x) (λ a. after (fetch ops m.bytes a) (λ c. outcome_of ops (k (Named (length names))) m (names ++ c ∷ [])))
outcome_of ops (FetchByteAt o k) m names = after (asked (ops.value (get ops m.bytes o))) (λ n. outcome_of ops (k n) m names)
outcome_of ops (PutCell o x k) m names = after (cell_of ops m names x) (λ a. outcome_of ops k (record m { bytes = with_cell ops m.bytes o a }) names)
outcome_of ops (PutByte o b k) m names = outcome_of ops k (record m { bytes = slice_set m.bytes o (ops.byte b) }) names
outcome_of ops (Move from to n k) m names = outcome_of ops k (record m { bytes = with_moved m.bytes from to n }) names
outcome_of ops (Fill o n b k) m names = outcome_of ops k (record m { bytes = with_filled m.bytes o n (ops.byte b) }) names
outcome_of ops (PutText o text k) m names = outcome_of ops k (record m { bytes = with_text ops m.bytes o text }) names
outcome_of ops (Empty k) m names = outcome_of ops k (record m { stack = []; rstack = [] }) names
outcome_of ops (EmptyReturn k) m names = outcome_of ops k (record m { rstack = [] }) names
outcome_of ops (SetIp x k) m names = after (cell_of ops m names x) (λ a. outcome_of ops k (record m { ip = a }) names)
outcome_of ops (TakeDue k) m names = take_due m.due (outcome_of ops (k None) m names) (λ c. outcome_of ops (k (Some (Named (length names)))) (record m { due = None }) (names ++ c ∷ []))
outcome_of ops (SetDue x k) m names = after (cell_of ops m names x) (λ a. outcome_of ops k (record m { due = Some a }) names)
outcome_of ops (SetWait w k) m names = after (wait_of ops m names w) (λ x. outcome_of ops k (record m { wait = x }) names)
outcome_of ops (TakeWait k) m names = outcome_of ops (k (named_wait (length names) m.wait)) (record m { wait = Idle }) (names ++ wait_cells m.wait)
outcome_of ops (Call part xs k) m names = after (cells_of ops m names xs) (λ cs. after (outcome_of ops part m cs) (λ r. outcome_of ops (k r.0) r.1 names))
outcome_of ops (Again xs k) m names = after (cells_of ops m names xs) (λ cs. outcome_of ops k m cs)
