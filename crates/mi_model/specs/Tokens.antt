-- The token of an instruction, and its tag.
use Rattle.std.specs.Prelude.{ℕ, List, Option, None, Some, Result, Ok, Err}
use Rattle.mi_model.specs.declared.Fault.{Fault}
use Rattle.mi_model.specs.declared.Token.{Token}
use Rattle.mi_model.specs.Ops.{Ops}
use Rattle.mi_model.specs.Ops.Two.{Add}
use Rattle.mi_model.specs.Machine.{Machine, ◌>>=◌, asked, or_throw, invalid_address}
use Rattle.mi_model.specs.Region.{cell_at, fetch_at, fetch}

-- the token that is due, or else the cell at ip, once ip can go on by a cell
abbrev pub due_or_fetched : {C B : Type 0} → Ops C B → Machine C B → Option C → Result C Fault
due_or_fetched ops m (Some x) = Ok x
due_or_fetched ops m None = do
  x ← fetch ops m.bytes m.ip
  next ← asked (ops.two Add m.ip (ops.plain 8))
  Ok x

abbrev pub due_token : {C B : Type 0} → Ops C B → Machine C B → Result C Fault
due_token ops m = due_or_fetched ops m m.due

-- the offset of a token, and the tag whose code the cell there is the address of; else a throw, as where it is executed
unfoldable pub token_at : {C B : Type 0} → Ops C B → List B → C → Result Token Fault
token_at ops bytes x = do
  o ← cell_at ops bytes x
  code ← fetch_at ops bytes o
  found ← asked (ops.tag code)
  t ← or_throw found invalid_address
  Ok (record { offset = o; tag = t })

-- the token of the next instruction
unfoldable pub token_of : {C B : Type 0} → Ops C B → Machine C B → Result Token Fault
token_of ops m = do
  x ← due_token ops m
  token_at ops m.bytes x

-- the last token whose tag was found: the one before it, where that of this instruction wasn't
abbrev pub last_token : Token → Result Token Fault → Token
last_token before (Ok found) = found
last_token before (Err f) = before

-- the token that stands before the first instruction, and in the finish
abbrev pub first_token : Token
first_token = record { offset = 4144; tag = 0 }
