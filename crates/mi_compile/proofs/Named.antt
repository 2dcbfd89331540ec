-- A word that reads a name does the rest in one part.
use Rattle.std.proofs.Common.{◌≡◌, ℕ, [], refl}
use Rattle.mi_model.specs.Ops.{Ops}
use Rattle.mi_model.specs.Machine.{Machine}
use Rattle.mi_model.specs.Action.{Action, ◌>>=◌, ◌>>◌, call, part_of, tail}
use Rattle.mi_model.specs.Action.AnswerKind.{Effects, Nothing}
use Rattle.mi_model.specs.Parts.{needs}
use Rattle.mi_model.specs.Outcome.{outcome_of}
use Rattle.mi_model.specs.Parsing.{parse_name}
use Rattle.mi_model.specs.Defining.{do_colon, do_postpone}
use Rattle.mi_model.specs.Values.{assign}
use Rattle.mi_compile.specs.Named.{begin_definition, postpone_word, assign_word}

abbrev pub colon_by_name : Action Effects
colon_by_name = part_of do
  needs 0 2 0 0
  span ← call parse_name []
  tail (begin_definition span)

abbrev pub postpone_by_name : Action Effects
postpone_by_name = part_of do
  span ← call parse_name []
  tail (postpone_word span)

abbrev pub assign_by_name : (tag : ℕ) → Action Nothing
assign_by_name t = part_of do
  span ← call parse_name []
  tail (assign_word t span)

pub colon_parts : {C B : Type 0} (ops : Ops C B) (m : Machine C B) → outcome_of ops do_colon m [] ≡ outcome_of ops colon_by_name m []
unfolding begin_definition
colon_parts ops m = refl

pub postpone_parts : {C B : Type 0} (ops : Ops C B) (m : Machine C B) → outcome_of ops do_postpone m [] ≡ outcome_of ops postpone_by_name m []
unfolding postpone_word
postpone_parts ops m = refl

pub assign_parts : {C B : Type 0} (ops : Ops C B) (t : ℕ) (m : Machine C B) → outcome_of ops (assign t) m [] ≡ outcome_of ops (assign_by_name t) m []
unfolding assign assign_word
assign_parts ops t m = refl
