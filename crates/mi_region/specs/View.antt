-- What a state is seen as, and what its calls do to it.
use Rattle.std.specs.Prelude.{ℕ, ◌+◌, List, [], Option, Result, Ok, Err, ◌≡◌, ◌⊎◌, Bool, IsTrue, slice_set}
use Rattle.mi_model.specs.declared.Fault.{Fault}
use Rattle.mi_model.specs.declared.Fault.TheVariants.{NoMemory}
use Rattle.mi_model.specs.declared.Wait.{Wait}
use Rattle.mi_model.specs.declared.Eight.{Eight}
use Rattle.mi_model.specs.Ops.{Ops}
use Rattle.mi_model.specs.Machine.{Machine, ◌>>=◌, asked}
use Rattle.mi_model.specs.Region.{cell_at, byte_at, range_at, with_cell, with_moved, with_filled}

-- a machine, and the arithmetic that it runs over
pub record StateView (A C B : Type 0) : Type 0 where
  pub arith : A
  pub machine : Machine C B

-- A call gives what is told of it: the same answer, and this state after it; a fault is told, and leaves the state as
-- it was. Want of memory comes only where the arithmetic grows.
abbrev pub Tells : {X M : Type 0} → Bool → Result X Fault → M → M → Result (X × M) Fault → Type 0
Tells grows (Ok x) old new told = told ≡ Ok (x, new)
Tells grows (Err e) old new told = (new ≡ old) × ((told ≡ Err e) ⊎ ((e ≡ NoMemory) × IsTrue grows))

-- the same of a call of which nothing is said where it finds no memory
abbrev pub Gives : {X M : Type 0} → Bool → Result X Fault → M → M → Result (X × M) Fault → Type 0
Gives grows (Ok x) old new told = told ≡ Ok (x, new)
Gives grows (Err e) old new told = ((told ≡ Err e) × (new ≡ old)) ⊎ ((e ≡ NoMemory) × IsTrue grows)

-- a call that always succeeds, but where the arithmetic grows and there is no memory; then nothing changed
abbrev pub Becomes : {M : Type 0} → Bool → Result (Unit {0}) Fault → M → M → M → Type 0
Becomes grows (Ok x) old new told = new ≡ told
Becomes grows (Err e) old new told = (new ≡ old) × (e ≡ NoMemory) × IsTrue grows

-- what an action gives on a state's machine, and the state after it
abbrev pub leading : {X A C B : Type 0} → StateView A C B → Result (X × Machine C B) Fault → Result (X × StateView A C B) Fault
leading s (Ok r) = Ok (r.0, record s { machine = r.1 })
leading s (Err e) = Err e

-- an answer that leaves the machine as it is
abbrev pub keeping : {X M : Type 0} → M → Result X Fault → Result (X × M) Fault
keeping m (Ok x) = Ok (x, m)
keeping m (Err e) = Err e

-- the state with another part
abbrev pub with_bytes : {A C B : Type 0} → StateView A C B → List B → StateView A C B
with_bytes s x = record s { machine = record s.machine { bytes = x } }

abbrev pub with_stack : {A C B : Type 0} → StateView A C B → List C → StateView A C B
with_stack s x = record s { machine = record s.machine { stack = x } }

abbrev pub with_rstack : {A C B : Type 0} → StateView A C B → List C → StateView A C B
with_rstack s x = record s { machine = record s.machine { rstack = x } }

abbrev pub with_empty_stacks : {A C B : Type 0} → StateView A C B → StateView A C B
with_empty_stacks s = record s { machine = record s.machine { stack = []; rstack = [] } }

abbrev pub with_ip : {A C B : Type 0} → StateView A C B → C → StateView A C B
with_ip s x = record s { machine = record s.machine { ip = x } }

abbrev pub with_due : {A C B : Type 0} → StateView A C B → Option C → StateView A C B
with_due s x = record s { machine = record s.machine { due = x } }

abbrev pub with_wait : {A C B : Type 0} → StateView A C B → Wait C → StateView A C B
with_wait s x = record s { machine = record s.machine { wait = x } }

-- the state with a cell stored at an address
abbrev pub stored : {A C B : Type 0} → Ops C B → StateView A C B → C → C → Result (Unit {0} × StateView A C B) Fault
stored ops s x v = do
  o ← cell_at ops s.machine.bytes x
  Ok (tt, with_bytes s (with_cell ops s.machine.bytes o v))

-- the state with the low byte of a cell stored at an address
abbrev pub byte_stored : {A C B : Type 0} → Ops C B → StateView A C B → C → C → Result (Unit {0} × StateView A C B) Fault
byte_stored ops s x v = do
  c ← asked (ops.low_byte v)
  o ← byte_at ops s.machine.bytes x
  Ok (tt, with_bytes s (slice_set s.machine.bytes o (ops.byte c)))

-- the state with n bytes copied from one address to another
abbrev pub bytes_moved : {A C B : Type 0} → Ops C B → StateView A C B → (from to : C) → ℕ → Result (Unit {0} × StateView A C B) Fault
bytes_moved ops s from to n = do
  o ← range_at ops s.machine.bytes n from
  p ← range_at ops s.machine.bytes n to
  Ok (tt, with_bytes s (with_moved s.machine.bytes o p n))

-- the state with n bytes from an address on made this one
abbrev pub bytes_filled : {A C B : Type 0} → Ops C B → StateView A C B → C → (n b : ℕ) → Result (Unit {0} × StateView A C B) Fault
bytes_filled ops s x n b = do
  o ← range_at ops s.machine.bytes n x
  Ok (tt, with_bytes s (with_filled s.machine.bytes o n (ops.byte b)))

-- the bytes with these eight put at an offset
abbrev pub with_eight : {B : Type 0} → List B → ℕ → Eight B → List B
with_eight bytes o e =
    slice_set (slice_set (slice_set (slice_set (slice_set (slice_set (slice_set (slice_set bytes
    (o + 7) e.b7) (o + 6) e.b6) (o + 5) e.b5) (o + 4) e.b4) (o + 3) e.b3) (o + 2) e.b2) (o + 1) e.b1) o e.b0
