-- What a reader of lines has read of an input that tells.
use Rattle.std.specs.Prelude.{ℕ, ◌≡◌, ◌≤◌, ◌+◌, ◌⊎◌, suc, Bool, true, false, List, [], ◌∷◌, ◌++◌, length, Option, IfSome, IsSomeAnd, Result, Ok, Err}
use Rattle.mi_model.specs.Run.{has_line_feed}
use Rattle.mi_text.specs.Ending.{without_last_cr}
use Rattle.mi_run.specs.declared.lines.Lines.{Lines}
use Rattle.mi_run.specs.declared.lines.Next.{Next}
use Rattle.mi_run.specs.declared.lines.Next.TheVariants.{Line, End, TooLong}
use Rattle.mi_run.specs.Lines.{text_of, IsSameToMachines}

-- whether the end was seen, how many bytes may still be taken, and the bytes that are left
pub record Reading : Type 0 where
  pub ended : Bool
  pub room : ℕ
  pub text : Option (List ℕ)

abbrev pub reading_of : Lines → (left : Option (List ℕ)) → Reading
reading_of lines left = record { ended = lines.ended; room = lines.room; text = text_of lines.buffer left }

-- once the end was seen nothing is left
abbrev pub IsDoneAtEnd : Reading → Type 0
IsDoneAtEnd r = r.ended ≡ true → IfSome r.text (λ text. text ≡ [])

-- of the text a line was taken, with its LF
pub record TakesLine (text left : List ℕ) (old_room new_room : ℕ) (kept : List ℕ) : Type 0 where
  pub body : List ℕ
  pub is : text ≡ body ++ 10 ∷ left
  pub none : has_line_feed body ≡ false
  pub room_left : old_room ≡ length body + suc new_room
  pub same : IsSameToMachines kept (without_last_cr body)

-- of the text bytes without an LF were taken
pub record TakesPart (text left : List ℕ) (room : ℕ) : Type 0 where
  pub body : List ℕ
  pub is : text ≡ body ++ left
  pub none : has_line_feed body ≡ false
  pub within : length body ≤ room

-- a line was taken, or its end is the end of the input, which was seen
abbrev pub TakesNext : Next → (old new : Reading) → (kept : List ℕ) → Type 0
TakesNext Line old new kept =
    (new.ended ≡ true) ⊎ ((old.ended ≡ false) × IfSome old.text (λ text. IsSomeAnd new.text (λ left. TakesLine text left old.room new.room kept)))
TakesNext End old new kept = new.ended ≡ true
TakesNext TooLong old new kept = Unit {0}

-- the same, and where the source failed, its end was not seen, and what was taken has no LF
abbrev pub Takes : {E : Type 0} → Result Next E → (old new : Reading) → (left : Option (List ℕ)) → (kept : List ℕ) → Type 0
Takes (Ok next) old new left kept = TakesNext next old new kept
Takes (Err e) old new left kept = (old.ended ≡ false) × IfSome old.text (λ text. IsSomeAnd left (λ left. TakesPart text left old.room))
