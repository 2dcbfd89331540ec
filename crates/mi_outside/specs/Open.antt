-- What the calls over std do to an open file, of which std may tell the bytes.
use Rattle.std.specs.Prelude.{◌≡◌, ℕ, List, Option, None, Some, Result, Ok, OnOk, IsOk, IsSomeAnd}
use Rattle.std.specs.Io.KnownBytes.{Appends, ReadConsumes}

-- the open file was read on; with none there is no byte to read
abbrev pub ReadsOpen : {F E : Type 0} → (F → Option (List ℕ)) → Option F → Option F → Result ℕ E → List ℕ → Type 0
ReadsOpen remaining None new result into = result ≡ Ok 0
ReadsOpen remaining (Some was) new result into =
    IsSomeAnd new (λ now. ReadConsumes (remaining was) (remaining now) result into)

-- the open file gained the piece; with none the call did nothing
abbrev pub AppendsOpen : {F T E : Type 0} → (F → Option (List ℕ)) → Option F → Option F → Result T E → List ℕ → Type 0
AppendsOpen contents None new result piece = IsOk result
AppendsOpen contents (Some was) new result piece =
    IsSomeAnd new (λ now. OnOk result (Appends (contents was) (contents now) piece))
