-- How a run goes on after a throw.
use Rattle.std.specs.Prelude.{ℕ, ℤ, negsuc, List, [], ◌∷◌, ◌++◌, codes, if◌then◌else◌}
use Rattle.std.specs.Fmt.{signed_decimal}
use Rattle.std.specs.Ordering.{int_eq}
use Rattle.mi_model.specs.declared.Wait.TheVariants.{Idle}
use Rattle.mi_model.specs.Action.{Action, ◌>>=◌, ◌>>◌, call, part_of}
use Rattle.mi_model.specs.Action.AnswerKind.{Nothing}
use Rattle.mi_model.specs.Parts.{empty_stacks, take_due, set_wait}
use Rattle.mi_model.specs.Sources.{restart}
use Rattle.mi_model.specs.Throws.{throw_text_of}

-- empty stacks, no due token and no wait, and then what QUIT does
unfoldable pub recover : Action Nothing
recover = part_of do
  empty_stacks
  due ← take_due
  set_wait Idle
  call restart []

-- a text behind a blank, or nothing where it is empty
abbrev pub behind_blank : List ℕ → List ℕ
behind_blank [] = []
behind_blank (c ∷ cs) = 32 ∷ c ∷ cs

-- what is printed: nothing for the throw -1 of ABORT, an LF for -2 of ABORT", and else a line with the code and its
-- text
unfoldable pub recovery_text : (code : ℤ) → List ℕ
recovery_text code =
    if int_eq code (negsuc 0) then [] else
    if int_eq code (negsuc 1) then (10 ∷ []) else
    (codes "? " ++ signed_decimal code ++ behind_blank (throw_text_of code) ++ (10 ∷ []))
