-- What a decoder is seen as, and what its calls answer.
use Rattle.std.specs.Prelude.{ℕ, ◌≡◌, ◌<◌, ◌≤◌, ◌⊎◌, Option, None, Some, Result, Ok, Err, true, false, List, ◌++◌, length, take}
use Rattle.mi_model.specs.Image.{ImageRecord}
use Rattle.mi_image.specs.declared.fault.ImageFault.{ImageFault}
use Rattle.mi_image.specs.declared.fault.ImageFault.TheVariants.{Truncated, NoMemory}
use Rattle.mi_image.specs.Grammar.{first_broken, ends_early}

-- the answer says which part is the first broken one
abbrev pub Judges : {A : Type 0} → Result A ImageFault → Option ImageFault → Type 0
Judges (Ok x) broken = broken ≡ None
Judges (Err fault) broken = broken ≡ Some fault

-- the piece is taken: no part of the bytes so far is broken
abbrev pub IsTaken : Result (List ℕ) ImageFault → (piece : List ℕ) → Result (List ℕ) ImageFault → Type 0
IsTaken (Ok bytes) piece new = (new ≡ Ok (bytes ++ piece)) × (first_broken (bytes ++ piece) ≡ None)
IsTaken (Err fault) piece new = ⊥

-- memory was refused as the bytes came to the end of the part Used, and neither it nor a part before it is broken
pub record IsWant (bytes piece : List ℕ) (fault : ImageFault) : Type 0 where
  pub memory : fault ≡ NoMemory
  pub before : length bytes < 40
  pub judged : 40 ≤ length (bytes ++ piece)
  pub allowed : first_broken (take 40 (bytes ++ piece)) ≡ None

-- the fault with which a piece is refused: the first broken part of the bytes with it, or want of memory, or what was
-- refused before
abbrev pub IsRefused : Result (List ℕ) ImageFault → (piece : List ℕ) → ImageFault → Type 0
IsRefused (Ok bytes) piece fault = (first_broken (bytes ++ piece) ≡ Some fault) ⊎ IsWant bytes piece fault
IsRefused (Err before) piece fault = fault ≡ before

-- the bytes end before the end of the file, and no part that is there is broken
pub record IsTruncated (bytes : List ℕ) (fault : ImageFault) : Type 0 where
  pub told : fault ≡ Truncated (length bytes)
  pub early : ends_early bytes ≡ true
  pub allowed : first_broken bytes ≡ None

-- memory was refused for the image of a whole file
pub record IsWantAtEnd (bytes : List ℕ) (fault : ImageFault) : Type 0 where
  pub memory : fault ≡ NoMemory
  pub whole : ends_early bytes ≡ false

-- the fault with which the end is refused: want of memory, or too few bytes, or what was refused before
abbrev pub IsUnfinished : Result (List ℕ) ImageFault → ImageFault → Type 0
IsUnfinished (Ok bytes) fault = IsWantAtEnd bytes fault ⊎ IsTruncated bytes fault
IsUnfinished (Err before) fault = fault ≡ before

-- the image is given, or memory was refused
abbrev pub Again : ImageRecord → Result ImageRecord ImageFault → Type 0
Again r (Ok image) = image ≡ r
Again r (Err fault) = fault ≡ NoMemory
