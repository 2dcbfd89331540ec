-- Steps that actions share, as they are written in the table.
use Rattle.std.specs.Prelude.{ℕ, ℤ, ◌+◌, ◌-◌, ◌*◌, ◌/◌, ◌%◌, ◌^◌, Bool, true, false, cond, ◌&&◌, nat_le, ◌==◌, Option, List, []}
use Rattle.mi_model.specs.declared.Wait.{Wait}
use Rattle.mi_model.specs.Layout.{dp_cell, dictionary}
use Rattle.mi_model.specs.Machine.{dictionary_overflow, invalid_address, misaligned}
use Rattle.mi_model.specs.Ops.{One, Division}
use Rattle.mi_model.specs.Ops.Two.{Add, Sub, Mul, And, Or, Xor, LeftShift, RightShift}
use Rattle.mi_model.specs.Ops.Test.{Equal, Less, Below}
use Rattle.mi_model.specs.Action.{Operand, Action, AnswerKind, Piece, ◌>>=◌, ◌>>◌, give, call, part_of}
use Rattle.mi_model.specs.Action.AnswerKind.{Numbers, Nothing}
use Rattle.mi_model.specs.Action.Operand.{Named, At, Ip, Plain, Address, Of}
use Rattle.mi_model.specs.Action.Question.{Offset, CellAt, ByteAt, Number, LowByte, ByteOf, RangeOf}
use Rattle.mi_model.specs.Action.Action.{Throws, Needs, Takes, Drop, Push, RPush, Depth, Size, Item, RItem, Name, Single, Product, Divide, Check, Ask, Tag, Fetch, FetchByteAt, PutCell, PutByte, Move, Fill, PutText, Empty, EmptyReturn, SetIp, TakeDue, SetDue, SetWait, TakeWait}

-- the rest is this throw
abbrev pub throw : {i : AnswerKind} {A : Type 0} → ℤ → Piece i A
throw c = λ k. Throws c

-- the test holds, else this throw
abbrev pub require : {i : AnswerKind} → Bool → ℤ → Piece i (Unit {0})
require b c = λ k. elim b [ true ↦ k tt | false ↦ Throws c ]

-- one of two ways to go on
abbrev pub choose : {i : AnswerKind} {A : Type 0} → Bool → Piece i A → Piece i A → Piece i A
choose b m n = λ k. elim b [ true ↦ m k | false ↦ n k ]

-- so many items are on the stacks, and so many results fit when they are gone
abbrev pub needs : {i : AnswerKind} → (ins outs rins routs : ℕ) → Piece i (Unit {0})
needs i o ri ro = λ k. Needs i o ri ro (k tt)

-- the items of a stack effect, the lowest first, where the results fit when the items are gone: `outs` on the data
-- stack, `routs` on the return stack; the items stay on the stack
abbrev pub one_in : {i : AnswerKind} → (outs routs : ℕ) → Piece i Operand
one_in o ro = λ k. Takes 1 o 0 ro (λ n. k (Named n))

abbrev pub two_in : {i : AnswerKind} → (outs routs : ℕ) → Piece i (Operand × Operand)
two_in o ro = λ k. Takes 2 o 0 ro (λ n. k (Named n, Named (n + 1)))

abbrev pub three_in : {i : AnswerKind} → (outs routs : ℕ) → Piece i (Operand × Operand × Operand)
three_in o ro = λ k. Takes 3 o 0 ro (λ n. k (Named n, Named (n + 1), Named (n + 2)))

-- the items of a stack effect that takes them from the return stack, the lowest first
abbrev pub one_rin : {i : AnswerKind} → (outs routs : ℕ) → Piece i Operand
one_rin o ro = λ k. Takes 0 o 1 ro (λ n. k (Named n))

abbrev pub two_rin : {i : AnswerKind} → (outs routs : ℕ) → Piece i (Operand × Operand)
two_rin o ro = λ k. Takes 0 o 2 ro (λ n. k (Named n, Named (n + 1)))

-- one item of the data stack, and two of the return stack
abbrev pub one_in_two_rin : {i : AnswerKind} → (outs routs : ℕ) → Piece i (Operand × Operand × Operand)
one_in_two_rin o ro = λ k. Takes 1 o 2 ro (λ n. k (Named n, Named (n + 1), Named (n + 2)))

abbrev pub four_in : {i : AnswerKind} → (outs routs : ℕ) → Piece i (Operand × Operand × Operand × Operand)
four_in o ro = λ k. Takes 4 o 0 ro (λ n. k (Named n, Named (n + 1), Named (n + 2), Named (n + 3)))

-- five items of the return stack, the lowest first
abbrev pub five_rin : {i : AnswerKind} → Piece i (Operand × Operand × Operand × Operand × Operand)
five_rin = λ k. Takes 0 0 5 0 (λ n. k (Named n, Named (n + 1), Named (n + 2), Named (n + 3), Named (n + 4)))

-- drops so many items of the data stack
abbrev pub drop : {i : AnswerKind} → ℕ → Piece i (Unit {0})
drop n = λ k. Drop n 0 (k tt)

-- drops so many items of the return stack
abbrev pub rdrop : {i : AnswerKind} → ℕ → Piece i (Unit {0})
rdrop n = λ k. Drop 0 n (k tt)

-- the value of an operand goes to the data stack
abbrev pub push : {i : AnswerKind} → Operand → Piece i (Unit {0})
push x = λ k. Push x (k tt)

-- the value of an operand goes to the return stack
abbrev pub rpush : {i : AnswerKind} → Operand → Piece i (Unit {0})
rpush x = λ k. RPush x (k tt)

-- the number of items on the data stack
abbrev pub depth : {i : AnswerKind} → Piece i ℕ
depth = λ k. Depth k

-- the item that has so many above it, on the data stack and on the return stack
abbrev pub item : {i : AnswerKind} → ℕ → Piece i Operand
item n = λ k. Item n k

abbrev pub return_item : {i : AnswerKind} → ℕ → Piece i Operand
return_item n = λ k. RItem n k

-- empties the return stack
abbrev pub empty_return_stack : {i : AnswerKind} → Piece i (Unit {0})
empty_return_stack = λ k. EmptyReturn (k tt)

-- empties both stacks
abbrev pub empty_stacks : {i : AnswerKind} → Piece i (Unit {0})
empty_stacks = λ k. Empty (k tt)

-- the size of the region in bytes
abbrev pub size : {i : AnswerKind} → Piece i ℕ
size = λ k. Size k

-- the value that an operand has now
abbrev pub name : {i : AnswerKind} → Operand → Piece i Operand
name x = λ k. Name x k

-- the answer of an operation on one cell
abbrev pub single : {i : AnswerKind} → One → Operand → Piece i Operand
single op x = λ k. Single op x k

-- the low and the high half of a product
abbrev pub product : {i : AnswerKind} → Operand → Operand → Piece i (Operand × Operand)
product x y = λ k. Product x y (λ low high. k (low, high))

-- the remainder and the quotient of a double cell, else throw -10 or -11
abbrev pub divide : {i : AnswerKind} → Division → (low high by : Operand) → Piece i (Operand × Operand)
divide division low high by = λ k. Divide division low high by (λ r q. k (r, q))

-- are two cells equal
abbrev pub equal : {i : AnswerKind} → Operand → Operand → Piece i Bool
equal x y = λ k. Check Equal x y k

-- is the first less than the second, as signed numbers
abbrev pub less : {i : AnswerKind} → Operand → Operand → Piece i Bool
less x y = λ k. Check Less x y k

-- is the first below the second, as unsigned numbers
abbrev pub below : {i : AnswerKind} → Operand → Operand → Piece i Bool
below x y = λ k. Check Below x y k

-- the number that a cell is, as a count
abbrev pub number : {i : AnswerKind} → Operand → Piece i ℕ
number x = λ k. Ask Number x k

-- the low byte of a cell, which is a character
abbrev pub low_byte : {i : AnswerKind} → Operand → Piece i ℕ
low_byte x = λ k. Ask LowByte x k

-- the offset of an address, where it has one, else throw -9
abbrev pub offset : {i : AnswerKind} → Operand → Piece i ℕ
offset x = λ k. Ask Offset x k

-- the offset of a cell that may be read or written, else throw -9 or -23
abbrev pub cell_place : {i : AnswerKind} → Operand → Piece i ℕ
cell_place x = λ k. Ask CellAt x k

-- the offset of a byte that may be read or written, else throw -9
abbrev pub byte_place : {i : AnswerKind} → Operand → Piece i ℕ
byte_place x = λ k. Ask ByteAt x k

-- the offset of n bytes that may be read or written, else throw -9; where there are none, 0, and no place is asked
abbrev pub range : {i : AnswerKind} → ℕ → Operand → Piece i ℕ
range n x = λ k. Ask (RangeOf n) x k

-- the tag whose code stands at an address, if there is one
abbrev pub tag : {i : AnswerKind} → Operand → Piece i (Option ℕ)
tag x = λ k. Tag x k

-- the cell at an address, and the byte at an address
abbrev pub fetch : {i : AnswerKind} → Operand → Piece i Operand
fetch x = λ k. Fetch x k

abbrev pub fetch_byte : {i : AnswerKind} → Operand → Piece i ℕ
fetch_byte x = λ k. Ask ByteOf x k

-- the byte at an offset
abbrev pub fetch_byte_at : {i : AnswerKind} → ℕ → Piece i ℕ
fetch_byte_at o = λ k. FetchByteAt o k

-- puts the value of an operand at the offset of a cell
abbrev pub put_cell : {i : AnswerKind} → ℕ → Operand → Piece i (Unit {0})
put_cell o x = λ k. PutCell o x (k tt)

-- puts a byte at an offset
abbrev pub put_byte : {i : AnswerKind} → (o b : ℕ) → Piece i (Unit {0})
put_byte o b = λ k. PutByte o b (k tt)

-- copies a text to an offset
abbrev pub put_text : {i : AnswerKind} → ℕ → List ℕ → Piece i (Unit {0})
put_text o text = λ k. PutText o text (k tt)

-- copies n bytes from one offset to another
abbrev pub move_bytes : {i : AnswerKind} → (from to n : ℕ) → Piece i (Unit {0})
move_bytes from to n = λ k. Move from to n (k tt)

-- n bytes, from an offset on, become this byte
abbrev pub fill : {i : AnswerKind} → (o n b : ℕ) → Piece i (Unit {0})
fill o n b = λ k. Fill o n b (k tt)

-- n bytes, from an offset on, become 0
abbrev pub clear : {i : AnswerKind} → (o n : ℕ) → Piece i (Unit {0})
clear o n = λ k. Fill o n 0 (k tt)

-- ip becomes the value of an operand
abbrev pub set_ip : {i : AnswerKind} → Operand → Piece i (Unit {0})
set_ip x = λ k. SetIp x (k tt)

-- the value of an operand is due
abbrev pub set_due : {i : AnswerKind} → Operand → Piece i (Unit {0})
set_due x = λ k. SetDue x (k tt)

-- the machine waits
abbrev pub set_wait : {i : AnswerKind} → Wait Operand → Piece i (Unit {0})
set_wait w = λ k. SetWait w (k tt)

-- what the machine waits for, which it then no longer does
abbrev pub take_wait : {i : AnswerKind} → Piece i (Wait Operand)
take_wait = λ k. TakeWait k

-- the due token, which is then no longer due
abbrev pub take_due : {i : AnswerKind} → Piece i (Option Operand)
take_due = λ k. TakeDue k

infixl 30 ◌add◌
-- the answer of an operation on two cells, where it is used
abbrev pub ◌add◌ : Operand → Operand → Operand
◌add◌ x y = Of Add x y

infixl 30 ◌subtract◌
abbrev pub ◌subtract◌ : Operand → Operand → Operand
◌subtract◌ x y = Of Sub x y

infixl 30 ◌multiply◌
abbrev pub ◌multiply◌ : Operand → Operand → Operand
◌multiply◌ x y = Of Mul x y

infixl 30 ◌and◌
abbrev pub ◌and◌ : Operand → Operand → Operand
◌and◌ x y = Of And x y

infixl 30 ◌or◌
abbrev pub ◌or◌ : Operand → Operand → Operand
◌or◌ x y = Of Or x y

infixl 30 ◌xor◌
abbrev pub ◌xor◌ : Operand → Operand → Operand
◌xor◌ x y = Of Xor x y

infixl 30 ◌left_shift◌
abbrev pub ◌left_shift◌ : Operand → Operand → Operand
◌left_shift◌ x y = Of LeftShift x y

infixl 30 ◌right_shift◌
abbrev pub ◌right_shift◌ : Operand → Operand → Operand
◌right_shift◌ x y = Of RightShift x y

infixl 30 ◌mask◌
abbrev pub ◌mask◌ : Operand → ℕ → Operand
◌mask◌ x n = Of And x (Plain n)

-- a truth value as a cell: all bits set, or none
abbrev pub flag : Bool → Operand
flag b = Plain (cond b (2 ^ 64 - 1) 0)

-- the next multiple of 8: x + 7 AND -8
abbrev pub aligned_cell : Operand → Operand
aligned_cell x = (x add Plain 7) mask (2 ^ 64 - 8)

-- the same of a number
abbrev pub aligned : ℕ → ℕ
aligned n = (n + 7) / 8 * 8

-- a cell with all bits set
abbrev pub minus_one : Operand
minus_one = Plain (2 ^ 64 - 1)

-- the token that runs, which an instruction is called with
abbrev pub running_token : Operand
running_token = Named 0

-- a tag's execution token: the address of its header's code field, 48 bytes behind the header
abbrev pub token_of : ℕ → Operand
token_of t = Address (4144 + 64 * t)

-- ip goes on by a cell
abbrev pub skip : {i : AnswerKind} → Piece i (Unit {0})
skip = set_ip (Ip add Plain 8)

-- ip becomes the cell at ip
abbrev pub branch : {i : AnswerKind} → Piece i (Unit {0})
branch = do
  next ← fetch Ip
  set_ip next

-- the offset of HERE, the cell DP, which is from 4096 to the size, else throw -9
unfoldable pub here : Action Numbers
here = part_of do
  p ← offset (At dp_cell)
  s ← size
  require (nat_le dictionary p && nat_le p s) invalid_address
  give p

-- the offset of HERE, where so many cells can be compiled, else throw -8, then -23
unfoldable pub room : (cells : ℕ) → Action Numbers
room cells = part_of do
  p ← call here []
  s ← size
  require (nat_le (p + 8 * cells) s) dictionary_overflow
  require (p % 8 == 0) misaligned
  give p

-- stores the cell that it is called with at HERE, and HERE goes on by a cell; throw -8 where it doesn't fit, then -23
unfoldable pub compile : Action Nothing
compile = part_of do
  p ← call (room 1) []
  next ← name (At dp_cell add Plain 8)
  put_cell p (Named 0)
  put_cell dp_cell next

-- compiles (LIT) and the cell that it is called with; the room for both is tested first
unfoldable pub compile_literal : Action Nothing
compile_literal = part_of do
  p ← call (room 2) []
  next ← name (At dp_cell add Plain 16)
  put_cell p (token_of 9)  -- (LIT)
  put_cell (p + 8) (Named 0)
  put_cell dp_cell next

-- compiles (LIT), the cell that it is called with, and a tag's token; the room for all is tested first
unfoldable pub compile_literal_and : (tag : ℕ) → Action Nothing
compile_literal_and tag = part_of do
  p ← call (room 3) []
  next ← name (At dp_cell add Plain 24)
  put_cell p (token_of 9)  -- (LIT)
  put_cell (p + 8) (Named 0)
  put_cell (p + 16) (token_of tag)
  put_cell dp_cell next
