-- Which calls of an object in memory are to fail.
use Rattle.std.specs.Prelude.{◌≡◌, ℕ, ◌+◌, ◌-◌, ◌^◌, min, Bool, false, List, nat_eq, Result, is_err, OnOk}
use Rattle.std.specs.List.{list_any}

-- the numbers of the calls that are to fail, counted from 1, and how many calls were made
pub record Schedule : Type 0 where
  pub fails : List ℕ
  pub calls : ℕ

-- before the first call
abbrev pub schedule_at_first : List ℕ → Schedule
schedule_at_first fails = record { fails = fails; calls = 0 }

-- after one call more, with the same numbers; the count stays at the end of its range
abbrev pub after_call : Schedule → Schedule
after_call before = record { fails = before.fails; calls = min (before.calls + 1) (2 ^ 64 - 1) }

-- whether the call that was made last is one of those that are to fail
unfoldable pub is_listed : Schedule → Bool
is_listed now = list_any (λ number. nat_eq number now.calls) now.fails

-- the call failed exactly where its number is listed
abbrev pub FailsAsListed : {T E : Type 0} → Schedule → Result T E → Type 0
FailsAsListed now result = is_err result ≡ is_listed now

-- the call failed where its number is listed, and maybe elsewhere
abbrev pub FailsWhereListed : {T E : Type 0} → Schedule → Result T E → Type 0
FailsWhereListed now result = OnOk result (is_listed now ≡ false)
