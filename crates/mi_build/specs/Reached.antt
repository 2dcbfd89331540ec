-- That the fresh plain build at a pair comes to the instruction in which the build over origins was refused an operation.
use Rattle.std.specs.Prelude.{ℕ, ◌-◌, ◌≡◌, ◌≢◌, ◌⊎◌, List, []}
use Rattle.mi_model.specs.declared.Pair.{Pair}
use Rattle.mi_model.specs.declared.Why.TheVariants.{Byte}
use Rattle.mi_model.specs.Machine.{Machine}
use Rattle.mi_model.specs.Kernel.{whole_kernel}
use Rattle.mi_model.specs.Table.{step}
use Rattle.mi_model.specs.Plain.{plain_ops}
use Rattle.mi_model.specs.OriginOps.{FormStands}
use Rattle.mi_model.specs.Met.{operations_met}
use Rattle.mi_model.specs.Refusals.{MeetsRefused}
use Rattle.mi_model.specs.Build.{Stopped, RefusedStep, fresh_stop, fresh_emitted, prelude_budget}
use Rattle.mi_model.specs.Build.Stopped.{Wants, Halts, Fails, RunsOut}
use Rattle.mi_model.specs.Build.Doing.{Instruction}

-- the build has taken the last instruction of this budget, with a fact on its machine
abbrev pub RunsOutOf : {C B : Type 0} → (budget : ℕ) → Stopped C B → (Machine C B → Type 0) → Type 0
RunsOutOf budget (Wants p) P = ⊥
RunsOutOf budget (Halts p) P = ⊥
RunsOutOf budget (Fails f doing p) P = ⊥
RunsOutOf budget (RunsOut p) P = (p.budget ≡ budget) × P p.machine

-- among the operations of the machine's next instruction is the refused one, on the values that its two forms have at the
-- pair; of an operation that is refused for a byte nothing is said
abbrev pub MeetsNext : (size : ℕ) → Pair → RefusedStep → Machine ℕ ℕ → Type 0
MeetsNext size pair s m = s.why ≢ Byte
    → MeetsRefused size (FormStands pair) (record { first = s.first; second = s.second; why = s.why }) (operations_met (plain_ops pair size) (step whole_kernel) m [])

-- With these budgets for the prelude and the sources, the fresh build at the pair takes all instructions before the refused
-- one, and has emitted this; the next instruction is the refused one.
pub record RunsOutBefore (s : RefusedStep) (pair : Pair) (size : ℕ) (texts : List (List ℕ)) (output : List ℕ) (budget turns : ℕ) : Type 0 where
  pub next : RunsOutOf (s.number - 1) (fresh_stop whole_kernel (plain_ops pair size) size texts budget turns) (MeetsNext size pair s)
  pub emitted : fresh_emitted whole_kernel (plain_ops pair size) size texts budget turns ≡ output

-- An operation that was refused in an instruction, of the prelude or of the sources, is come to: the fresh build takes so
-- many instructions of that budget less one, and emits what the build over origins did.
abbrev pub Reaches : RefusedStep → Pair → (size : ℕ) → (texts : List (List ℕ)) → (turns : ℕ) → (output : List ℕ) → Type 0
Reaches s pair size texts turns output = s.doing ≡ Instruction
    → RunsOutBefore s pair size texts output (s.number - 1) turns ⊎ RunsOutBefore s pair size texts output prelude_budget (s.number - 1)
