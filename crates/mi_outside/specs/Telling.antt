-- What an object tells of its bytes, and for how long.
use Rattle.std.specs.Prelude.{◌≡◌, Option, None, IfSome, IsSomeAnd, MatchOption}

-- it tells as the call ends exactly where it told as it began, and there the two have R
abbrev pub WhileTold : {A : Type 0} → Option A → Option A → (A → A → Type 0) → Type 0
WhileTold old new R = MatchOption old (new ≡ None) (λ was. IsSomeAnd new (λ now. R was now))

-- where it tells as the call ends it told as it began, and there the two have R
abbrev pub IfStillTold : {A : Type 0} → Option A → Option A → (A → A → Type 0) → Type 0
IfStillTold old new R = IfSome new (λ now. IsSomeAnd old (λ was. R was now))
