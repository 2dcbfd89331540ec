-- What writing a file by way of its part does to the files.
use Rattle.std.specs.Prelude.{◌≡◌, ◌≢◌, ◌++◌, ◌⊎◌, ℕ, List, Some, None, Result, OnOk, OnErr, codes}
use Rattle.mi_outside.specs.Causes.{Rose}
use Rattle.mi_outside.specs.Holding.{Holding, SameFiles, SameFilesBut, SameFilesButTwo}

-- the name of a file's part
abbrev pub part_of : List ℕ → List ℕ
part_of out = out ++ codes ".part"

-- the part has these bytes and is written no more where all went well; no other file changed
pub record WritesPart {T E : Type 0} (result : Result T E) (part bytes : List ℕ) (old new : Holding) : Type 0 where
  pub written : OnOk result (new.file part ≡ Some bytes)
  pub ended : OnOk result (new.writing ≡ None)
  pub others : SameFilesBut part old new

-- the part became the file where all went well, and no file changed where it failed
pub record PutsInPlace {T E : Type 0} (result : Result T E) (part out : List ℕ) (old new : Holding) : Type 0 where
  pub placed : OnOk result ((content : List ℕ) → old.file part ≡ Some content → new.file out ≡ Some content)
  pub gone : OnOk result (part ≢ out → new.file part ≡ None)
  pub others : SameFilesButTwo part out old new
  pub failed : OnErr result (SameFiles old new)

-- the part is gone, unless the count of faults rose; no other file changed
pub record Discards (part : List ℕ) (before now : ℕ) (old new : Holding) : Type 0 where
  pub gone : (new.file part ≡ None) ⊎ Rose before now
  pub others : SameFilesBut part old new

-- the part is gone, or as it was
abbrev pub LeavesNoPart : (part : List ℕ) → Holding → Holding → Type 0
LeavesNoPart part old new = (new.file part ≡ None) ⊎ (new.file part ≡ old.file part)

-- the file has these bytes and its part is gone; no other file changed
pub record IsInPlace (part out bytes : List ℕ) (old new : Holding) : Type 0 where
  pub placed : new.file out ≡ Some bytes
  pub gone : new.file part ≡ None
  pub others : SameFilesButTwo part out old new
