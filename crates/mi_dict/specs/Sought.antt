-- The name that a lookup is called with.
use Rattle.std.specs.Prelude.{ℕ, ◌≤◌, ◌+◌}
use Rattle.mi_model.specs.Lookup.{SoughtName}
use Rattle.mi_model.specs.Lookup.SoughtName.{InRegion, Given}
use Rattle.mi_dict.specs.declared.lookup.Name.{Name}
use Rattle.mi_dict.specs.declared.lookup.Name.TheVariants.{Placed, Text}

-- what is sought by a name
abbrev pub sought_of : Name → SoughtName
sought_of (Placed span) = InRegion span.place span.length
sought_of (Text text) = Given text.now

-- a name in the region lies within its size
abbrev pub LiesWithin : Name → (size : ℕ) → Type 0
LiesWithin (Placed span) size = span.place + span.length ≤ size
LiesWithin (Text text) size = Unit {0}
