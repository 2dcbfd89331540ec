-- An arithmetic: the operations that an action may name.
use Rattle.std.specs.Prelude.{ℕ, Bool, Option, Result}
use Rattle.mi_model.specs.declared.Refusal.{Refusal}
use Rattle.mi_model.specs.declared.DivFault.{DivFault}
use Rattle.mi_model.specs.declared.Eight.{Eight}

-- the operations of two cells that give a cell
pub data Two : Type 0 where
  Add Sub Mul And Or Xor LeftShift RightShift : Two

-- the operations of one cell that give a cell
pub data One : Type 0 where
  Negate Invert Half : One

-- the operations of two cells that give a truth value; Less is of signed numbers, Below of unsigned ones
pub data Test : Type 0 where
  Equal Less Below : Test

-- the divisions of a double cell by a cell: unsigned, truncating (symmetric) and floored
pub data Division : Type 0 where
  Unsigned Symmetric Floored : Division

-- the operations on cells C and bytes B; each that may be refused answers a Result
pub record Ops (C B : Type 0) : Type 0 where
  -- the makers of cells: a number, the address of an offset of the region, the address of a tag's code
  pub plain : ℕ → C
  pub region_cell : ℕ → C
  pub code_cell : ℕ → C
  pub two : Two → C → C → Result C Refusal
  pub one : One → C → Result C Refusal
  pub test : Test → C → C → Result Bool Refusal
  -- the low and the high half of a product
  pub product : C → C → Result (C × C) Refusal
  -- the remainder and the quotient of the double cell low, high
  pub divide : Division → (low high by : C) → Result (Result (C × C) DivFault) Refusal
  -- the offset that an address has in the region, the tag whose code stands at an address, a cell as a count
  pub place : C → Result (Option ℕ) Refusal
  pub tag : C → Result (Option ℕ) Refusal
  pub number : C → Result ℕ Refusal
  -- bytes: one that is made, byte i of a cell, its value, the low byte of a cell, a cell of eight bytes
  pub byte : ℕ → B
  pub cut : C → ℕ → B
  pub value : B → Result ℕ Refusal
  pub low_byte : C → Result ℕ Refusal
  pub join : Eight B → Result C Refusal
