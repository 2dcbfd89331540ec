-- The outcomes: their exit status, and which of them are faults.
use Rattle.std.specs.Prelude.{ℕ, ◌≡◌, ◌⊎◌}
use Rattle.mi_commands.specs.declared.outcome.Outcome.{Outcome}
use Rattle.mi_commands.specs.declared.outcome.Outcome.TheVariants.{Built, NoMemory, Usage, ReadFault, NoFile, WriteFault, TooManySources, SourceTooLong, Thrown, Spent, NoEntry, Step, Cell, Done, NotImage, Truncated, TooLarge, MadeFor, PairNotAllowed, EntryThrown, InputTooLong}

-- the exit status
abbrev pub status_of : Outcome → ℕ
status_of (Built _ _) = 0
status_of NoMemory = 1
status_of Usage = 2
status_of ReadFault = 3
status_of (NoFile _) = 18
status_of WriteFault = 4
status_of (TooManySources _) = 11
status_of (SourceTooLong _) = 11
status_of (Thrown _ _ _) = 5
status_of (Spent _) = 6
status_of NoEntry = 13
status_of (Step _ _ _ _ _ _ _ _) = 7
status_of (Cell _ _) = 8
status_of Done = 0
status_of (NotImage _ _ _) = 9
status_of (Truncated _ _) = 9
status_of (TooLarge _ _ _) = 9
status_of (MadeFor _) = 10
status_of (PairNotAllowed _) = 10
status_of (EntryThrown _) = 12
status_of InputTooLong = 15

-- neither the words nor the files decide this answer: memory was refused, or the files, the input or the output failed
abbrev pub IsFault : Outcome → Type 0
IsFault outcome = (outcome ≡ NoMemory) ⊎ (outcome ≡ ReadFault) ⊎ (outcome ≡ WriteFault)
