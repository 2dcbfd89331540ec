-- The limits of a build's sources.
use Rattle.std.specs.Prelude.{ℕ}

-- the most bytes that a source may have
abbrev pub source_limit : ℕ
source_limit = 4194304

-- the most sources that a build may have
abbrev pub source_count : ℕ
source_count = 64
