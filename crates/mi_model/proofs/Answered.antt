-- An arithmetic that answers each operation meets no fault but throws.
use Rattle.std.proofs.Common.{ℕ, ℤ, ◌+◌, ◌-◌, ◌%◌, ◌==◌, Bool, true, false, cond, nat_le, nat_lt, List, [], ◌∷◌, length, Result, Ok, Err, Option, None, Some}
use Rattle.mi_model.specs.declared.Fault.{Fault}
use Rattle.mi_model.specs.declared.Refusal.{Refusal}
use Rattle.mi_model.specs.declared.Wait.{Wait}
use Rattle.mi_model.specs.declared.Wait.TheVariants.{Idle, Line, Refill, Accept}
use Rattle.mi_model.specs.declared.Pair.{Pair}
use Rattle.mi_model.specs.declared.DivFault.{DivFault}
use Rattle.mi_model.specs.Ops.{Ops, Division}
use Rattle.mi_model.specs.Plain.{plain_ops}
use Rattle.mi_model.specs.Answers.{IsAnswered, Answers, ThrowsAtMost}
use Rattle.mi_model.specs.Answers.IsAnswered.{answered}
use Rattle.mi_model.specs.Answers.ThrowsAtMost.{gives, throws}
use Rattle.mi_model.specs.Machine.{Machine, after, asked, or_throw, unless_throw, quotient_or_throw, division_code, invalid_address, misaligned, stack_underflow, return_underflow, stack_overflow, return_overflow}
use Rattle.mi_model.specs.Region.{offset_of, cell_at, byte_at, range_at, fetch_at, fetch, fetch_byte, tests}
use Rattle.mi_model.specs.Action.{Operand, Question, AnswerKind, Action}
use Rattle.mi_model.specs.Action.Operand.{Named, At, Ip, Plain, Address, CodeAddress, Of}
use Rattle.mi_model.specs.Action.Question.{Offset, CellAt, ByteAt, Number, LowByte, ByteOf, RangeOf}
use Rattle.mi_model.specs.Action.Action.{Give, Throws, Needs, Takes, Drop, Push, RPush, Depth, Size, Item, RItem, Name, Single, Product, Divide, Check, Ask, Tag, Fetch, FetchByteAt, PutCell, PutByte, Move, Fill, PutText, Empty, EmptyReturn, SetIp, TakeDue, SetDue, SetWait, TakeWait, Call, Again}
use Rattle.mi_model.specs.Outcome.{cell_of, cells_of, wait_of, answer_to, division_of, take_due, outcome_of}

throws_after : {X Y : Type 0} (r : Result X Fault) (f : X → Result Y Fault) → ThrowsAtMost r → ((x : X) → ThrowsAtMost (f x)) → ThrowsAtMost (after r f)
throws_after _ f (gives x) k = k x
throws_after _ f (throws c) k = throws c

throws_asked : {X : Type 0} (r : Result X Refusal) → IsAnswered r → ThrowsAtMost (asked r)
throws_asked _ (answered x) = gives x

throws_test : (b : Bool) (c : ℤ) → ThrowsAtMost (unless_throw b c)
throws_test true c = gives tt
throws_test false c = throws c

throws_option : {X : Type 0} (o : Option X) (c : ℤ) → ThrowsAtMost (or_throw o c)
throws_option (Some x) c = gives x
throws_option None c = throws c

throws_quotient : {X : Type 0} (r : Result X DivFault) → ThrowsAtMost (quotient_or_throw r)
throws_quotient (Ok x) = gives x
throws_quotient (Err e) = throws (division_code e)

throws_if : {X : Type 0} (b : Bool) (r s : Result X Fault) → ThrowsAtMost r → ThrowsAtMost s → ThrowsAtMost (cond b r s)
throws_if true r s h k = h
throws_if false r s h k = k

module _ {C B : Type 0} (ops : Ops C B) (answers : Answers ops) where
  throws_offset : (a : C) → ThrowsAtMost (offset_of ops a)
  throws_offset a = throws_after _ _ (throws_asked _ (answers.place a)) (λ o. throws_option o invalid_address)

  throws_cell_at : (bytes : List B) (a : C) → ThrowsAtMost (cell_at ops bytes a)
  unfolding cell_at
  throws_cell_at bytes a = throws_after _ _ (throws_offset a) (λ o. throws_after _ _ (throws_test (nat_le (o + 8) (length bytes)) invalid_address) (λ _. throws_after _ _ (throws_test (o % 8 == 0) misaligned) (λ _. gives o)))

  throws_byte_at : (bytes : List B) (a : C) → ThrowsAtMost (byte_at ops bytes a)
  unfolding byte_at
  throws_byte_at bytes a = throws_after _ _ (throws_offset a) (λ o. throws_after _ _ (throws_test (nat_le (o + 1) (length bytes)) invalid_address) (λ _. gives o))

  throws_range_at : (n : ℕ) (bytes : List B) (a : C) → ThrowsAtMost (range_at ops bytes n a)
  unfolding range_at
  throws_range_at n bytes a = throws_if (n == 0) _ _ (gives _) (throws_after _ _ (throws_offset a) (λ o. throws_after _ _ (throws_test (nat_le (o + n) (length bytes)) invalid_address) (λ _. gives o)))

  throws_fetch_at : (bytes : List B) (o : ℕ) → ThrowsAtMost (fetch_at ops bytes o)
  unfolding fetch_at
  throws_fetch_at bytes o = throws_asked _ (answers.join _)

  throws_fetch : (bytes : List B) (a : C) → ThrowsAtMost (fetch ops bytes a)
  unfolding fetch
  throws_fetch bytes a = throws_after _ _ (throws_cell_at bytes a) (λ o. throws_fetch_at bytes o)

  throws_fetch_byte : (bytes : List B) (a : C) → ThrowsAtMost (fetch_byte ops bytes a)
  unfolding fetch_byte
  throws_fetch_byte bytes a = throws_after _ _ (throws_byte_at bytes a) (λ o. throws_asked _ (answers.value _))

  throws_tests : (i o ri ro : ℕ) (m : Machine C B) → ThrowsAtMost (tests i o ri ro m)
  unfolding tests
  throws_tests i o ri ro m = throws_if (nat_lt (length m.stack) i) _ _ (throws stack_underflow) (throws_if (nat_lt (length m.rstack) ri) _ _ (throws return_underflow)
      (throws_if (nat_lt 4096 ((length m.stack - i) + o)) _ _ (throws stack_overflow) (throws_if (nat_lt 4096 ((length m.rstack - ri) + ro)) _ _ (throws return_overflow) (gives tt))))

  throws_cell : (x : Operand) (m : Machine C B) (names : List C) → ThrowsAtMost (cell_of ops m names x)
  throws_cell (Named i) m names = gives _
  throws_cell (At o) m names = throws_fetch_at m.bytes o
  throws_cell Ip m names = gives _
  throws_cell (Plain n) m names = gives _
  throws_cell (Address o) m names = gives _
  throws_cell (CodeAddress t) m names = gives _
  throws_cell (Of op x y) m names = throws_after _ _ (throws_cell x m names) (λ a. throws_after _ _ (throws_cell y m names) (λ b. throws_asked _ (answers.two op a b)))

  throws_cells : (xs : List Operand) (m : Machine C B) (names : List C) → ThrowsAtMost (cells_of ops m names xs)
  throws_cells [] m names = gives _
  throws_cells (x ∷ xs) m names = throws_after _ _ (throws_cell x m names) (λ a. throws_after _ _ (throws_cells xs m names) (λ _. gives _))

  throws_wait : (w : Wait Operand) (m : Machine C B) (names : List C) → ThrowsAtMost (wait_of ops m names w)
  throws_wait Idle m names = gives _
  throws_wait Line m names = gives _
  throws_wait Refill m names = gives _
  throws_wait (Accept x n) m names = throws_after _ _ (throws_cell x m names) (λ _. gives _)

  throws_answer : (q : Question) (bytes : List B) (a : C) → ThrowsAtMost (answer_to ops bytes q a)
  throws_answer Offset bytes a = throws_offset a
  throws_answer CellAt bytes a = throws_cell_at bytes a
  throws_answer ByteAt bytes a = throws_byte_at bytes a
  throws_answer (RangeOf n) bytes a = throws_range_at n bytes a
  throws_answer Number bytes a = throws_asked _ (answers.number a)
  throws_answer LowByte bytes a = throws_asked _ (answers.low_byte a)
  throws_answer ByteOf bytes a = throws_fetch_byte bytes a

  throws_division : (division : Division) (low high by : C) → ThrowsAtMost (division_of ops division low high by)
  throws_division division low high by = throws_after _ _ (throws_asked _ (answers.divide division low high by)) (λ r. throws_quotient r)

  throws_due : {X : Type 0} (c : Option C) (x : Result X Fault) (f : C → Result X Fault) → ThrowsAtMost x → ((a : C) → ThrowsAtMost (f a)) → ThrowsAtMost (take_due c x f)
  throws_due None x f h k = h
  throws_due (Some a) x f h k = k a

  -- no operation is refused, and no memory is missing
  pub throws_only : {i : AnswerKind} (action : Action i) (m : Machine C B) (names : List C) → ThrowsAtMost (outcome_of ops action m names)
  throws_only (Give x) m names = gives _
  throws_only (Throws c) m names = throws c
  throws_only (Needs i o ri ro k) m names = throws_after _ _ (throws_tests i o ri ro m) (λ _. throws_only k _ _)
  throws_only (Takes i o ri ro k) m names = throws_after _ _ (throws_tests i o ri ro m) (λ _. throws_only (k _) _ _)
  throws_only (Drop n rn k) m names = throws_only k _ _
  throws_only (Push x k) m names = throws_after _ _ (throws_cell x m names) (λ _. throws_only k _ _)
  throws_only (RPush x k) m names = throws_after _ _ (throws_cell x m names) (λ _. throws_only k _ _)
  throws_only (Depth k) m names = throws_only (k _) _ _
  throws_only (Size k) m names = throws_only (k _) _ _
  throws_only (Item i k) m names = throws_only (k _) _ _
  throws_only (RItem i k) m names = throws_only (k _) _ _
  throws_only (Name x k) m names = throws_after _ _ (throws_cell x m names) (λ _. throws_only (k _) _ _)
  throws_only (Single op x k) m names = throws_after _ _ (throws_cell x m names) (λ a. throws_after _ _ (throws_asked _ (answers.one op a)) (λ _. throws_only (k _) _ _))
  throws_only (Product x y k) m names = throws_after _ _ (throws_cell x m names) (λ a. throws_after _ _ (throws_cell y m names) (λ b. throws_after _ _ (throws_asked _ (answers.product a b)) (λ _. throws_only (k _ _) _ _)))
  throws_only (Divide division x y z k) m names = throws_after _ _ (throws_cell x m names) (λ a. throws_after _ _ (throws_cell y m names) (λ b. throws_after _ _ (throws_cell z m names) (λ c.
      throws_after _ _ (throws_division division a b c) (λ _. throws_only (k _ _) _ _))))
  throws_only (Check op x y k) m names = throws_after _ _ (throws_cell x m names) (λ a. throws_after _ _ (throws_cell y m names) (λ b. throws_after _ _ (throws_asked _ (answers.test op a b)) (λ t. throws_only (k t) _ _)))
  throws_only (Ask q x k) m names = throws_after _ _ (throws_cell x m names) (λ a. throws_after _ _ (throws_answer q m.bytes a) (λ n. throws_only (k n) _ _))
  throws_only (Tag x k) m names = throws_after _ _ (throws_cell x m names) (λ a. throws_after _ _ (throws_asked _ (answers.tag a)) (λ t. throws_only (k t) _ _))
  throws_only (Fetch x k) m names = throws_after _ _ (throws_cell x m names) (λ a. throws_after _ _ (throws_fetch m.bytes a) (λ _. throws_only (k _) _ _))
  throws_only (FetchByteAt o k) m names = throws_after _ _ (throws_asked _ (answers.value _)) (λ n. throws_only (k n) _ _)
  throws_only (PutCell o x k) m names = throws_after _ _ (throws_cell x m names) (λ _. throws_only k _ _)
  throws_only (PutByte o b k) m names = throws_only k _ _
  throws_only (Move from to n k) m names = throws_only k _ _
  throws_only (Fill o n b k) m names = throws_only k _ _
  throws_only (PutText o text k) m names = throws_only k _ _
  throws_only (Empty k) m names = throws_only k _ _
  throws_only (EmptyReturn k) m names = throws_only k _ _
  throws_only (SetIp x k) m names = throws_after _ _ (throws_cell x m names) (λ _. throws_only k _ _)
  throws_only (TakeDue k) m names = throws_due m.due _ _ (throws_only (k None) _ _) (λ _. throws_only (k (Some _)) _ _)
  throws_only (SetDue x k) m names = throws_after _ _ (throws_cell x m names) (λ _. throws_only k _ _)
  throws_only (SetWait w k) m names = throws_after _ _ (throws_wait w m names) (λ _. throws_only k _ _)
  throws_only (TakeWait k) m names = throws_only (k _) _ _
  throws_only (Call part xs k) m names = throws_after _ _ (throws_cells xs m names) (λ cs. throws_after _ _ (throws_only part m cs) (λ r. throws_only (k r.0) _ _))
  throws_only (Again xs k) m names = throws_after _ _ (throws_cells xs m names) (λ cs. throws_only k m cs)

pub plain_answers : (pair : Pair) (size : ℕ) → Answers (plain_ops pair size)
unfolding plain_ops
plain_answers pair size = record {
  two = λ op x y. answered _;
  one = λ op x. answered _;
  test = λ op x y. answered _;
  product = λ x y. answered _;
  divide = λ division low high by. answered _;
  place = λ x. answered _;
  tag = λ x. answered _;
  number = λ x. answered _;
  value = λ b. answered _;
  low_byte = λ x. answered _;
  join = λ b. answered _;
}

-- over plain numbers nothing but a throw ends an action
pub plain_throws_only : (pair : Pair) (size : ℕ) {i : AnswerKind} (action : Action i) (m : Machine ℕ ℕ) (names : List ℕ) → ThrowsAtMost (outcome_of (plain_ops pair size) action m names)
plain_throws_only pair size action m names = throws_only _ (plain_answers pair size) action m names
