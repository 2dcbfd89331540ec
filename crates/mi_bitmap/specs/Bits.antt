-- The bits of a list of bytes, as truth values.
use Rattle.std.specs.Prelude.{ℕ, ◌≡◌, ◌≤◌, ◌<◌, ◌+◌, ◌/◌, ◌%◌, zero, suc, Bool, false, nat_eq, List, [], ◌∷◌, length, get_or, Result, Ok, Err}
use Rattle.std.specs.Int.{bit_at}
use Rattle.mi_bitmap.specs.declared.fault.BitmapFault.{BitmapFault}
use Rattle.mi_bitmap.specs.declared.fault.BitmapFault.TheVariants.{NoMemory}

-- is bit i mod 8 of byte i div 8 set
abbrev pub bit : List ℕ → (i : ℕ) → Bool
bit bytes i = nat_eq (bit_at (get_or bytes (i / 8) 0) (i % 8)) 1

-- so many bits, from bit i on
abbrev pub bits_from : List ℕ → (count i : ℕ) → List Bool
bits_from bytes zero i = []
bits_from bytes (suc count) i = bit bytes i ∷ bits_from bytes count (i + 1)

-- the first so many bits
abbrev pub bits : List ℕ → (count : ℕ) → List Bool
bits bytes count = bits_from bytes count 0

-- no bit behind the cells is set
abbrev pub SpareAreClear : List ℕ → (cells : ℕ) → Type 0
SpareAreClear bytes cells = (i : ℕ) → cells ≤ i → bit bytes i ≡ false

-- the bytes are as many as the cells need, and the spare bits are 0
pub record IsPacked (bytes : List ℕ) (cells : ℕ) : Type 0 where
  pub size : length bytes ≡ (cells + 7) / 8
  pub fits : (i : ℕ) → get_or bytes i 0 < 256
  pub spare : SpareAreClear bytes cells

-- the list is given, or memory was refused
abbrev pub Again : List Bool → Result (List Bool) BitmapFault → Type 0
Again marks (Ok found) = found ≡ marks
Again marks (Err fault) = fault ≡ NoMemory
