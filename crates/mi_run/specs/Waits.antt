-- The wait at which a run stopped because its input failed.
use Rattle.std.specs.Prelude.{ℕ, ◌≡◌, ◌≤◌, true, List, [], ◌++◌, length, Option, IfSome, IsSomeAnd}
use Rattle.mi_model.specs.declared.Pair.{Pair}
use Rattle.mi_model.specs.Image.{ImageRecord, loaded}
use Rattle.mi_model.specs.Plain.{plain_ops}
use Rattle.mi_model.specs.Kernel.{Kernel, whole_kernel}
use Rattle.mi_model.specs.Ops.{Ops}
use Rattle.mi_model.specs.Outcome.{outcome_of}
use Rattle.mi_model.specs.Lines.{lines_of}
use Rattle.mi_model.specs.Run.{Input, Run, whole_lines, input_limit, start_entry, machine_on, run_started}
use Rattle.mi_model.specs.Run.RunEnd.{InputTooLong}
use Rattle.mi_outside.specs.Written.{Emits}

-- an input of which only these bytes are there, and more may follow: a run on it ends as InputTooLong at the wait for the
-- first line whose LF isn't among them
abbrev pub input_taken : (taken : List ℕ) → Input
input_taken taken = record { lines = lines_of (whole_lines taken); longer = true }

-- the run of a region on such an input
abbrev pub run_taken : {C B : Type 0} → Kernel → Ops C B → (region : List B) → (turns : ℕ) → (taken : List ℕ) → Run
run_taken kernel ops region turns taken = run_started kernel ops turns (input_taken taken) (outcome_of ops start_entry (machine_on ops region) [])

-- the run of an image that is loaded at a pair, on such an input
abbrev pub run_taken_of : ImageRecord → Pair → (turns : ℕ) → (taken : List ℕ) → Run
run_taken_of image pair turns taken = run_taken whole_kernel (plain_ops pair image.size) (loaded image pair) turns taken

-- Of the input's bytes some were taken, and the rest is left. With those that were taken the run comes to the wait for the
-- first line whose LF isn't among them, and exactly what it emits up to that wait was written.
pub record StopsAtWait (run : List ℕ → Run) (text rest : List ℕ) (old new : Option (List ℕ)) : Type 0 where
  pub taken : List ℕ
  pub is : text ≡ taken ++ rest
  pub within : length taken ≤ input_limit
  pub reached : (run taken).end ≡ InputTooLong
  pub written : Emits old new (run taken).output

-- the same of what is left of an input that tells
abbrev pub StopsThere : (run : List ℕ → Run) → (left_old left_new : Option (List ℕ)) → (old new : Option (List ℕ)) → Type 0
StopsThere run left_old left_new old new = IfSome left_old (λ text. IsSomeAnd left_new (λ rest. StopsAtWait run text rest old new))
