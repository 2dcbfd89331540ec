-- What the calls do to the bytes that a source, a sink or some files hold.
use Rattle.std.specs.Prelude.{◌≡◌, ◌≢◌, ◌⊎◌, ◌<◌, ◌≤◌, ℕ, Bool, List, [], ◌++◌, length, take, drop, Option, Some, None, Result, OnOk, OnErr, IfOk, MatchResult, MatchBool}

-- the next n bytes were taken and put in front; none only where there is no room or no byte is left
pub record Takes (old new room filled : List ℕ) (n : ℕ) : Type 0 where
  pub within : n ≤ length old
  pub left : new ≡ drop n old
  pub front : filled ≡ take n old ++ drop n room
  pub at_end : n ≡ 0 → 0 < length room → old ≡ []

-- a read took what it says, and nothing where it failed
abbrev pub Reads : {E : Type 0} → Result ℕ E → List ℕ → List ℕ → List ℕ → List ℕ → Type 0
Reads result room filled old new = MatchResult result (λ n. Takes old new room filled n) (λ _. new ≡ old)

-- a write appended the whole piece, and a part of its front where it failed
abbrev pub Writes : {T E : Type 0} → Result T E → List ℕ → List ℕ → List ℕ → Type 0
Writes result piece old new =
    MatchResult result (λ _. new ≡ old ++ piece) (λ _. (n : ℕ) × (new ≡ old ++ take n piece))

-- the files that an object holds: each name's content, what is left to read, the name being written
pub record Holding : Type 0 where
  pub file : List ℕ → Option (List ℕ)
  pub reading : Option (List ℕ)
  pub writing : Option (List ℕ)

-- no file changed
abbrev pub SameFiles : Holding → Holding → Type 0
SameFiles old new = (name : List ℕ) → new.file name ≡ old.file name

-- no file but this one changed
abbrev pub SameFilesBut : List ℕ → Holding → Holding → Type 0
SameFilesBut one old new = (name : List ℕ) → name ≢ one → new.file name ≡ old.file name

-- no file but these two changed
abbrev pub SameFilesButTwo : List ℕ → List ℕ → Holding → Holding → Type 0
SameFilesButTwo one two old new = (name : List ℕ) → name ≢ one → name ≢ two → new.file name ≡ old.file name

-- the named file is read from place 0, or there is none and no file is read
abbrev pub IsBegun : Bool → List ℕ → Holding → Holding → Type 0
IsBegun begun name old new =
    MatchBool begun
    ((bytes : List ℕ) × (old.file name ≡ Some bytes) × (new.reading ≡ Some bytes))
    ((old.file name ≡ None) × (new.reading ≡ None))

-- a file begins to be read; no file changes
pub record BeginsRead {E : Type 0} (result : Result Bool E) (name : List ℕ) (old new : Holding) : Type 0 where
  pub begun : IfOk result (λ begun. IsBegun begun name old new)
  pub files : SameFiles old new
  pub writing : new.writing ≡ old.writing

-- the next n bytes of the file being read were taken, and none where there is no such file
abbrev pub TakesOn : Option (List ℕ) → Option (List ℕ) → List ℕ → List ℕ → ℕ → Type 0
TakesOn (Some old) (Some new) room filled n = Takes old new room filled n
TakesOn None None room filled n = (n ≡ 0) × (filled ≡ room)
TakesOn (Some old) None room filled n = ⊥
TakesOn None (Some new) room filled n = ⊥

-- the file being read goes on; no file changes
pub record ReadsFile {E : Type 0} (result : Result ℕ E) (room filled : List ℕ) (old new : Holding) : Type 0 where
  pub taken : IfOk result (TakesOn old.reading new.reading room filled)
  pub failed : OnErr result (new.reading ≡ old.reading)
  pub files : SameFiles old new
  pub writing : new.writing ≡ old.writing

-- no file is read any more; no file changes
pub record EndsRead (old new : Holding) : Type 0 where
  pub reading : new.reading ≡ None
  pub files : SameFiles old new
  pub writing : new.writing ≡ old.writing

-- the file being written is the old one or none
abbrev pub WritesNoOther : Holding → Holding → Type 0
WritesNoOther old new = (new.writing ≡ old.writing) ⊎ (new.writing ≡ None)

-- the named file is empty and being written; no other file changes
pub record Creates {T E : Type 0} (result : Result T E) (name : List ℕ) (old new : Holding) : Type 0 where
  pub created : OnOk result ((new.file name ≡ Some []) × (new.writing ≡ Some name))
  pub others : SameFilesBut name old new
  pub writing : WritesNoOther old new ⊎ (new.writing ≡ Some name)

-- the file being written gained the piece
abbrev pub IsAppended : List ℕ → List ℕ → Holding → Holding → Type 0
IsAppended name piece old new =
    (content : List ℕ) → old.file name ≡ Some content → new.file name ≡ Some (content ++ piece)

-- the file being written gains the piece; no other file changes
pub record Appends {T E : Type 0} (result : Result T E) (piece : List ℕ) (old new : Holding) : Type 0 where
  pub appended : OnOk result ((name : List ℕ) → old.writing ≡ Some name → IsAppended name piece old new)
  pub others : (name : List ℕ) → old.writing ≡ Some name → SameFilesBut name old new
  pub unwritten : old.writing ≡ None → SameFiles old new
  pub writing : new.writing ≡ old.writing

-- no file is written any more; where it failed the file being written may have changed
pub record EndsWrite {T E : Type 0} (result : Result T E) (old new : Holding) : Type 0 where
  pub ended : OnOk result (SameFiles old new × (new.writing ≡ None))
  pub others : (name : List ℕ) → old.writing ≡ Some name → SameFilesBut name old new
  pub unwritten : old.writing ≡ None → SameFiles old new
  pub writing : WritesNoOther old new

-- the second name has the content of the first, which is gone where the two differ
pub record Renames {T E : Type 0} (result : Result T E) (from to : List ℕ) (old new : Holding) : Type 0 where
  pub moved : OnOk result ((content : List ℕ) → old.file from ≡ Some content → new.file to ≡ Some content)
  pub gone : OnOk result (from ≢ to → new.file from ≡ None)
  pub missing : OnOk result (old.file from ≡ None → SameFiles old new)
  pub others : SameFilesButTwo from to old new
  pub failed : OnErr result (SameFiles old new)
  pub writing : WritesNoOther old new

-- the named file is gone; no other file changes
pub record Removes {T E : Type 0} (result : Result T E) (name : List ℕ) (old new : Holding) : Type 0 where
  pub gone : OnOk result (new.file name ≡ None)
  pub missing : old.file name ≡ None → SameFiles old new
  pub others : SameFilesBut name old new
  pub writing : WritesNoOther old new

-- no file is held
pub record HoldsNone (now : Holding) : Type 0 where
  pub file : (name : List ℕ) → now.file name ≡ None
  pub reading : now.reading ≡ None
  pub writing : now.writing ≡ None

-- the named file has these bytes; no other file changes
pub record Puts (name bytes : List ℕ) (old new : Holding) : Type 0 where
  pub file : new.file name ≡ Some bytes
  pub others : SameFilesBut name old new
  pub unread : old.reading ≡ None → new.reading ≡ None
  pub writing : new.writing ≡ old.writing
