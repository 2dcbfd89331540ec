-- Reading and writing the region, and testing the stacks, over any arithmetic.
use Rattle.std.specs.Prelude.{ℕ, ◌+◌, ◌-◌, ◌%◌, nat_le, nat_lt, ◌==◌, List, [], ◌∷◌, ◌++◌, Result, Ok, Err, length, get_or, slice_set, take, drop, replicate, if◌then◌else◌}
use Rattle.mi_model.specs.declared.Fault.{Fault}
use Rattle.mi_model.specs.declared.Fault.TheVariants.{Throw}
use Rattle.mi_model.specs.declared.Eight.{Eight}
use Rattle.mi_model.specs.Ops.{Ops}
use Rattle.mi_model.specs.Machine.{Machine, ◌>>=◌, ◌>>◌, asked, or_throw, unless_throw, stack_underflow, return_underflow, stack_overflow, return_overflow, invalid_address, misaligned}

-- the offset of an address
abbrev pub offset_of : {C B : Type 0} → Ops C B → C → Result ℕ Fault
offset_of ops x = do
  found ← asked (ops.place x)
  or_throw found invalid_address

-- the offset of a cell that may be read or written
unfoldable pub cell_at : {C B : Type 0} → Ops C B → List B → C → Result ℕ Fault
cell_at ops bytes x = do
  o ← offset_of ops x
  unless_throw (nat_le (o + 8) (length bytes)) invalid_address
  unless_throw (o % 8 == 0) misaligned
  Ok o

-- the offset of a byte that may be read or written
unfoldable pub byte_at : {C B : Type 0} → Ops C B → List B → C → Result ℕ Fault
byte_at ops bytes x = do
  o ← offset_of ops x
  unless_throw (nat_le (o + 1) (length bytes)) invalid_address
  Ok o

-- the offset of a range of n bytes; a range of none asks for no place
unfoldable pub range_at : {C B : Type 0} → Ops C B → List B → ℕ → C → Result ℕ Fault
range_at ops bytes n x = if n == 0 then Ok 0 else (do
  o ← offset_of ops x
  unless_throw (nat_le (o + n) (length bytes)) invalid_address
  Ok o)

-- the byte at an offset
abbrev pub get : {C B : Type 0} → Ops C B → List B → ℕ → B
get ops bytes o = get_or bytes o (ops.byte 0)

-- the eight bytes from an offset
abbrev pub eight_from : {C B : Type 0} → Ops C B → List B → ℕ → Eight B
eight_from ops bytes o = record {
  b0 = get ops bytes o;
  b1 = get ops bytes (o + 1);
  b2 = get ops bytes (o + 2);
  b3 = get ops bytes (o + 3);
  b4 = get ops bytes (o + 4);
  b5 = get ops bytes (o + 5);
  b6 = get ops bytes (o + 6);
  b7 = get ops bytes (o + 7);
}

-- the bytes with a cell put at an offset
abbrev pub with_cell : {C B : Type 0} → Ops C B → List B → ℕ → C → List B
with_cell ops bytes o v =
    slice_set (slice_set (slice_set (slice_set (slice_set (slice_set (slice_set (slice_set bytes
    o (ops.cut v 0)) (o + 1) (ops.cut v 1)) (o + 2) (ops.cut v 2)) (o + 3) (ops.cut v 3))
    (o + 4) (ops.cut v 4)) (o + 5) (ops.cut v 5)) (o + 6) (ops.cut v 6)) (o + 7) (ops.cut v 7)

-- the bytes with n of them copied from one offset to another, as if through a copy
abbrev pub with_moved : {B : Type 0} → List B → (from to n : ℕ) → List B
with_moved bytes from to n = take to bytes ++ (take n (drop from bytes) ++ drop (to + n) bytes)

-- the bytes with n of them from an offset on made this one
abbrev pub with_filled : {B : Type 0} → List B → (o n : ℕ) → B → List B
with_filled bytes o n b = take o bytes ++ (replicate n b ++ drop (o + n) bytes)

-- the bytes with a text put at an offset
abbrev pub with_text : {C B : Type 0} → Ops C B → List B → ℕ → List ℕ → List B
with_text ops bytes o [] = bytes
with_text ops bytes o (c ∷ cs) = with_text ops (slice_set bytes o (ops.byte c)) (o + 1) cs

-- the cell at an offset
unfoldable pub fetch_at : {C B : Type 0} → Ops C B → List B → ℕ → Result C Fault
fetch_at ops bytes o = asked (ops.join (eight_from ops bytes o))

-- the cell at an address
unfoldable pub fetch : {C B : Type 0} → Ops C B → List B → C → Result C Fault
fetch ops bytes x = do
  o ← cell_at ops bytes x
  fetch_at ops bytes o

-- the byte at an address
unfoldable pub fetch_byte : {C B : Type 0} → Ops C B → List B → C → Result ℕ Fault
fetch_byte ops bytes x = do
  o ← byte_at ops bytes x
  asked (ops.value (get ops bytes o))

-- the tests that come first: the items are there on both stacks, and the results fit
unfoldable pub tests : {C B : Type 0} → (ins outs rins routs : ℕ) → Machine C B → Result (Unit {0}) Fault
tests ins outs rins routs m =
    if nat_lt (length m.stack) ins then Err (Throw stack_underflow) else
    if nat_lt (length m.rstack) rins then Err (Throw return_underflow) else
    if nat_lt 4096 ((length m.stack - ins) + outs) then Err (Throw stack_overflow) else
    if nat_lt 4096 ((length m.rstack - rins) + routs) then Err (Throw return_overflow) else
    Ok tt
