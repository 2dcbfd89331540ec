-- What is read of the lines of an input that tells.
use Rattle.std.specs.Prelude.{ℕ, ◌≡◌, nat_le, true, false, cond, List, [], ◌∷◌, ◌++◌, length, take, Option, IfSome, IsSomeAnd, option_map}
use Rattle.mi_model.specs.Lines.{lines_of}
use Rattle.mi_model.specs.Run.{Input, whole_lines}
use Rattle.mi_run.specs.declared.lines.Next.{Next}
use Rattle.mi_run.specs.declared.lines.Next.TheVariants.{Line, End, TooLong}

-- the bytes that are left: those in the buffer, and then those of the source
abbrev pub text_of : (waiting : List ℕ) → (left : Option (List ℕ)) → Option (List ℕ)
text_of waiting left = option_map (λ bytes. waiting ++ bytes) left

-- the input that these bytes are, of which so many may be read
abbrev pub input_within : (room : ℕ) → List ℕ → Input
input_within room text = cond (nat_le (length text) room)
    (record { lines = lines_of text; longer = false })
    (record { lines = lines_of (whole_lines (take room text)); longer = true })

-- the first 1,021 bytes of two lines are the same, so they are the same line, or a machine takes neither
abbrev pub IsSameToMachines : (kept line : List ℕ) → Type 0
IsSameToMachines kept line = take 1021 kept ≡ take 1021 line

-- a line was read of an input, or there is none
abbrev pub IsNext : Next → (old new : Input) → (kept : List ℕ) → Type 0
IsNext Line old new kept = (line : List ℕ) × (old.lines ≡ line ∷ new.lines) × (old.longer ≡ new.longer) × IsSameToMachines kept line
IsNext End old new kept = (old.lines ≡ []) × (old.longer ≡ false) × (new ≡ old)
IsNext TooLong old new kept = (old.lines ≡ []) × (old.longer ≡ true)

-- the same of what is left of an input that tells
abbrev pub TellsLine : Next → (old new : Option (List ℕ)) → (old_room new_room : ℕ) → (kept : List ℕ) → Type 0
TellsLine next old new old_room new_room kept =
    IfSome old (λ text. IsSomeAnd new (λ rest. IsNext next (input_within old_room text) (input_within new_room rest) kept))
