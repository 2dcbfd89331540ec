-- What reading an image's file answers, and what it leaves.
use Rattle.std.specs.Prelude.{◌≡◌, ◌⊎◌, ℕ, List, [], ◌++◌, Bool, true, false, Option, Some, Result, Ok, Err}
use Rattle.mi_model.specs.Image.{ImageRecord}
use Rattle.mi_outside.specs.Holding.{Holding, SameFiles}
use Rattle.mi_image.specs.declared.fault.ImageFault.{ImageFault}
use Rattle.mi_commands.specs.declared.outcome.Outcome.{Outcome}
use Rattle.mi_commands.specs.Outcomes.{IsFault}
use Rattle.mi_commands.specs.commands.Run.{image_read}

-- the answer is right for a file with this content, or for none
abbrev pub IsReadAs : Result ImageRecord Outcome → (content : Option (List ℕ)) → Type 0
IsReadAs (Ok image) content = image_read content ≡ Ok image
IsReadAs (Err outcome) content = IsFault outcome ⊎ (image_read content ≡ Err outcome)

-- the answer is right for the named file; no file changed
pub record ReadsImage (result : Result ImageRecord Outcome) (name : List ℕ) (old new : Holding) : Type 0 where
  pub answer : IsReadAs result (old.file name)
  pub files : SameFiles old new

-- the answer is right for what was left of the file being read; no file changed
pub record DecodesRest (result : Result ImageRecord Outcome) (old new : Holding) : Type 0 where
  pub answer : (rest : List ℕ) → old.reading ≡ Some rest → IsReadAs result (Some rest)
  pub files : SameFiles old new

-- the bytes that a decoder was fed
abbrev pub fed : Result (List ℕ) ImageFault → List ℕ
fed (Ok bytes) = bytes
fed (Err fault) = []

-- the decoder was fed what is no longer left, or nothing was left, or the file is refused
abbrev pub IsFed : Result Bool Outcome → (before after rest : List ℕ) → (reading : Option (List ℕ)) → Type 0
IsFed (Ok true) before after rest reading = (left : List ℕ) × (reading ≡ Some left) × (before ++ rest ≡ after ++ left)
IsFed (Ok false) before after rest reading = (rest ≡ []) × (after ≡ before)
IsFed (Err outcome) before after rest reading = IsFault outcome ⊎ (image_read (Some (before ++ rest)) ≡ Err outcome)

-- the decoder was fed the next piece of the file being read; no file changed
pub record FeedsPiece (result : Result Bool Outcome) (before after : List ℕ) (old new : Holding) : Type 0 where
  pub piece : (rest : List ℕ) → old.reading ≡ Some rest → IsFed result before after rest new.reading
  pub files : SameFiles old new
