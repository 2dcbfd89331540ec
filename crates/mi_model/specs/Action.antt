-- Actions: what the rows of the instruction table are written in.
use Rattle.std.specs.Prelude.{ℕ, ℤ, Bool, Option, List}
use Rattle.mi_model.specs.declared.Wait.{Wait}
use Rattle.mi_model.specs.declared.Effect.{Effect}
use Rattle.mi_model.specs.declared.Effect.TheVariants.{Went}
use Rattle.mi_model.specs.declared.Word.{Word}
use Rattle.mi_model.specs.declared.Span.{Span}
use Rattle.mi_model.specs.declared.HeaderPlace.{HeaderPlace}
use Rattle.mi_model.specs.declared.Finished.{Finished}
use Rattle.mi_model.specs.Ops.{Two, One, Test, Division}

-- a cell in an action, evaluated where it is used: one that a step of the action gave, the cell at an offset that is
-- known to be a cell's, the instruction address, a number, the address of an offset, the address of a tag's code, or the
-- answer of an operation
pub data Operand : Type 0 where
  Named : ℕ → Operand
  At : ℕ → Operand
  Ip : Operand
  Plain : ℕ → Operand
  Address : ℕ → Operand
  CodeAddress : ℕ → Operand
  Of : Two → Operand → Operand → Operand

-- A question to a cell, whose answer is a number: the offset that it has as an address, that of the cell, of the byte or
-- of the range at it that may be read or written, the number and the low byte that it is, and the byte at it.
pub data Question : Type 0 where
  Offset CellAt ByteAt Number LowByte ByteOf : Question
  RangeOf : ℕ → Question

-- what an action gives: the action of an instruction gives an effect, and a part that actions share may give a
-- value, which is never a cell
pub data AnswerKind : Type 0 where
  Effects Nothing Numbers Truths Texts Words Lookups Spans HeaderPlaces Finishes : AnswerKind

abbrev pub Answer : AnswerKind → Type 0
Answer Effects = Effect
Answer Nothing = Unit {0}
Answer Numbers = ℕ
Answer Truths = Bool
Answer Texts = List ℕ
Answer Words = Word
Answer Lookups = Option Word
Answer Spans = Span
Answer HeaderPlaces = HeaderPlace
Answer Finishes = Finished

-- what an action does, step by step; where a step gives a cell, the rest is given a name for it, and where it gives a
-- number or a truth value, the rest is given that
pub data Action : AnswerKind → Type 0 where
  Give : {i : AnswerKind} → Answer i → Action i
  Throws : {i : AnswerKind} → ℤ → Action i
  -- the tests of items and room on the two stacks
  Needs : {i : AnswerKind} → (ins outs rins routs : ℕ) → Action i → Action i
  -- the same; gives the name of the first item, lowest first, those of the return stack last
  Takes : {i : AnswerKind} → (ins outs rins routs : ℕ) → (ℕ → Action i) → Action i
  -- drops items from the two stacks
  Drop : {i : AnswerKind} → (n rn : ℕ) → Action i → Action i
  Push : {i : AnswerKind} → Operand → Action i → Action i
  RPush : {i : AnswerKind} → Operand → Action i → Action i
  Depth : {i : AnswerKind} → (ℕ → Action i) → Action i
  Size : {i : AnswerKind} → (ℕ → Action i) → Action i
  -- the item that has so many above it
  Item : {i : AnswerKind} → ℕ → (Operand → Action i) → Action i
  RItem : {i : AnswerKind} → ℕ → (Operand → Action i) → Action i
  Name : {i : AnswerKind} → Operand → (Operand → Action i) → Action i
  Single : {i : AnswerKind} → One → Operand → (Operand → Action i) → Action i
  -- gives the low and the high half
  Product : {i : AnswerKind} → Operand → Operand → (Operand → Operand → Action i) → Action i
  -- gives the remainder and the quotient of a double cell; a division by zero is throw -10, and a quotient that doesn't
  -- fit a cell is throw -11
  Divide : {i : AnswerKind} → Division → (low high by : Operand) → (Operand → Operand → Action i) → Action i
  Check : {i : AnswerKind} → Test → Operand → Operand → (Bool → Action i) → Action i
  Ask : {i : AnswerKind} → Question → Operand → (ℕ → Action i) → Action i
  Tag : {i : AnswerKind} → Operand → (Option ℕ → Action i) → Action i
  -- the cell at an address
  Fetch : {i : AnswerKind} → Operand → (Operand → Action i) → Action i
  -- memory, at offsets that the action has tested
  FetchByteAt : {i : AnswerKind} → ℕ → (ℕ → Action i) → Action i
  PutCell : {i : AnswerKind} → ℕ → Operand → Action i → Action i
  PutByte : {i : AnswerKind} → ℕ → ℕ → Action i → Action i
  Move : {i : AnswerKind} → (from to n : ℕ) → Action i → Action i
  -- n bytes, from an offset on, become this byte
  Fill : {i : AnswerKind} → (o n b : ℕ) → Action i → Action i
  -- copies a text to an offset
  PutText : {i : AnswerKind} → ℕ → List ℕ → Action i → Action i
  -- empties both stacks, or the return stack
  Empty : {i : AnswerKind} → Action i → Action i
  EmptyReturn : {i : AnswerKind} → Action i → Action i
  SetIp : {i : AnswerKind} → Operand → Action i → Action i
  -- the due token, which is then no longer due
  TakeDue : {i : AnswerKind} → (Option Operand → Action i) → Action i
  SetDue : {i : AnswerKind} → Operand → Action i → Action i
  SetWait : {i : AnswerKind} → Wait Operand → Action i → Action i
  -- what the machine waits for, which it then no longer does
  TakeWait : {i : AnswerKind} → (Wait Operand → Action i) → Action i
  -- a part that has names for these cells alone, from 0, and then the rest with the names as they were
  Call : {i j : AnswerKind} → Action j → List Operand → (Answer j → Action i) → Action i
  -- the rest has names for these cells alone, from 0
  Again : {i : AnswerKind} → List Operand → Action i → Action i

-- a piece of an action, which gives an A to the rest
abbrev pub Piece : AnswerKind → Type 0 → Type 0
Piece i A = (A → Action i) → Action i

infixl 20 ◌>>=◌
infixl 20 ◌>>◌
abbrev pub ◌>>=◌ : {i : AnswerKind} {A B : Type 0} → Piece i A → (A → Piece i B) → Piece i B
◌>>=◌ m f = λ k. m (λ a. f a k)

abbrev pub ◌>>◌ : {i : AnswerKind} {A B : Type 0} → Piece i A → Piece i B → Piece i B
◌>>◌ m n = λ k. m (λ _. n k)

abbrev pub give : {i : AnswerKind} {A : Type 0} → A → Piece i A
give a = λ k. k a

-- the action of an instruction that only goes on
abbrev pub action_by : Piece Effects (Unit {0}) → Action Effects
action_by m = m (λ _. Give Went)

-- a whole part
abbrev pub part_of : {j : AnswerKind} → Piece j (Answer j) → Action j
part_of m = m (λ a. Give a)

-- a part, with names for these cells
abbrev pub call : {i j : AnswerKind} → Action j → List Operand → Piece i (Answer j)
call part xs = λ k. Call part xs k

-- the rest is this action
abbrev pub tail : {i : AnswerKind} {A : Type 0} → Action i → Piece i A
tail action = λ k. action
