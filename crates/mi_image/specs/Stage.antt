-- What a decoder holds.
use Rattle.std.specs.Prelude.{ℕ, ◌≡◌, ◌<◌, ◌≤◌, ◌+◌, None, Result, Ok, Err, List, length, take, vec_capacity}
use Rattle.mi_image.specs.declared.fault.ImageFault.{ImageFault}
use Rattle.mi_image.specs.declared.decoder.Stage.{Stage}
use Rattle.mi_image.specs.declared.decoder.Stage.TheVariants.{Header, Body, Refused}
use Rattle.mi_image.specs.Grammar.{file_length, first_broken}

-- the bytes fed so far, or the refusal
abbrev pub seen : Stage → Result (List ℕ) ImageFault
seen (Header bytes count) = Ok (take count bytes)
seen (Body bytes) = Ok bytes.items
seen (Refused fault) = Err fault

-- bytes before the part Used is judged
pub record IsHeader (bytes : List ℕ) (count : ℕ) : Type 0 where
  pub short : count < 40
  pub allowed : first_broken (take count bytes) ≡ None

-- bytes after that, with room for the whole file and one byte more
pub record IsBody (bytes : List ℕ) (capacity : ℕ) : Type 0 where
  pub judged : 40 ≤ length bytes
  pub allowed : first_broken bytes ≡ None
  pub room : file_length bytes + 1 ≤ capacity

-- no part of the bytes is broken
abbrev pub Holds : Stage → Type 0
Holds (Header bytes count) = IsHeader bytes count
Holds (Body bytes) = IsBody bytes.items (vec_capacity bytes)
Holds (Refused fault) = Unit {0}
