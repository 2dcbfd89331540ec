-- When a build or a run over one arithmetic agrees with that over another: it comes to the same, with machines of which
-- one stands for the other, and writes the same; or an operation is refused, and what was written until then is the
-- first that the other writes.
use Rattle.std.specs.Prelude.{ℕ, ℤ, ◌≡◌, ◌++◌, List}
use Rattle.mi_model.specs.declared.Fault.TheVariants.{Throw, Refused as IsRefused}
use Rattle.mi_model.specs.declared.Form.{Form}
use Rattle.mi_model.specs.declared.Why.{Why}
use Rattle.mi_model.specs.Machine.{Machine}
use Rattle.mi_model.specs.Stands.{MachineStands}
use Rattle.mi_model.specs.Build.{Progress, Stopped, Doing, RefusedStep, Build, BuildEnd}
use Rattle.mi_model.specs.Build.Stopped.{Wants, Halts, Fails, RunsOut}
use Rattle.mi_model.specs.Build.BuildEnd.{Done, Failed, Refused, EntryMissing, Spent}
use Rattle.mi_model.specs.Run.{Run, RunEnd}
use Rattle.mi_model.specs.Run.RunEnd.{Broken}

-- builds have come equally far, and the machine of one stands for that of the other; which token was the last isn't told
pub record ProgressStands {C B D E : Type 0} (cell : C → D → Type 0) (byte : B → E → Type 0) (p : Progress C B) (q : Progress D E) : Type 0 where
  pub machine : MachineStands cell byte p.machine q.machine
  pub budget : p.budget ≡ q.budget
  pub left : p.left ≡ q.left
  pub file : p.file ≡ q.file
  pub line : p.line ≡ q.line

-- where a build has stopped, and what it has written
pub data StopAgrees {C B D E : Type 0} (cell : C → D → Type 0) (byte : B → E → Type 0) : Stopped C B → List ℕ → Stopped D E → List ℕ → Type 0 where
  wants : {p : Progress C B} {q : Progress D E} (out : List ℕ) → ProgressStands cell byte p q → StopAgrees cell byte (Wants p) out (Wants q) out
  halts : {p : Progress C B} {q : Progress D E} (out : List ℕ) → ProgressStands cell byte p q → StopAgrees cell byte (Halts p) out (Halts q) out
  fails : {p : Progress C B} {q : Progress D E} (code : ℤ) (doing : Doing) (out : List ℕ) → ProgressStands cell byte p q → StopAgrees cell byte (Fails (Throw code) doing p) out (Fails (Throw code) doing q) out
  runs_out : {p : Progress C B} {q : Progress D E} (out : List ℕ) → ProgressStands cell byte p q → StopAgrees cell byte (RunsOut p) out (RunsOut q) out
  refused : (a b : Form) (why : Why) (doing : Doing) (p : Progress C B) (s : Stopped D E) (out rest : List ℕ) → StopAgrees cell byte (Fails (IsRefused a b why) doing p) out s (out ++ rest)

-- a whole build
pub data BuildAgrees {C B D E : Type 0} (cell : C → D → Type 0) (byte : B → E → Type 0) : Build C B → Build D E → Type 0 where
  done : {m : Machine C B} {n : Machine D E} (used taken : ℕ) (out : List ℕ) → MachineStands cell byte m n
      → BuildAgrees cell byte (record { output = out; end = Done m used taken }) (record { output = out; end = Done n used taken })
  failed : (code : ℤ) (file line : ℕ) (out : List ℕ) → BuildAgrees cell byte (record { output = out; end = Failed (Throw code) file line }) (record { output = out; end = Failed (Throw code) file line })
  entry_missing : (out : List ℕ) → BuildAgrees cell byte (record { output = out; end = EntryMissing }) (record { output = out; end = EntryMissing })
  spent : (budget : ℕ) (out : List ℕ) → BuildAgrees cell byte (record { output = out; end = Spent budget }) (record { output = out; end = Spent budget })
  refused : (step : RefusedStep) (end : BuildEnd D E) (out rest : List ℕ) → BuildAgrees cell byte (record { output = out; end = Refused step }) (record { output = out ++ rest; end = end })

-- a whole run
pub data RunAgrees : Run → Run → Type 0 where
  same : (r : Run) → RunAgrees r r
  refused : (a b : Form) (why : Why) (end : RunEnd) (out rest : List ℕ) → RunAgrees (record { output = out; end = Broken (IsRefused a b why) }) (record { output = out ++ rest; end = end })
