-- A build at one pair: no operation is refused, since plain numbers answer each.
use Rattle.std.proofs.Common.{ℕ, ◌≡◌, zero, suc, Bool, true, false, List, [], ◌∷◌, Option, Some, Result, Err}
use Rattle.mi_model.specs.declared.Fault.{Fault}
use Rattle.mi_model.specs.declared.Fault.TheVariants.{Throw, Refused as IsRefused, NoMemory as OutOfMemory}
use Rattle.mi_model.specs.declared.Effect.{Effect}
use Rattle.mi_model.specs.declared.Effect.TheVariants.{Went, Emit, Want, Halt}
use Rattle.mi_model.specs.declared.Finished.{Finished}
use Rattle.mi_model.specs.declared.Finished.TheVariants.{Ready, NoEntry as EntryAbsent}
use Rattle.mi_model.specs.declared.Form.{Form}
use Rattle.mi_model.specs.declared.Pair.{Pair}
use Rattle.mi_model.specs.declared.Why.{Why}
use Rattle.mi_model.specs.Machine.{Machine}
use Rattle.mi_model.specs.Answers.{ThrowsAtMost}
use Rattle.mi_model.specs.Answers.ThrowsAtMost.{gives, throws}
use Rattle.mi_model.specs.Plain.{plain_ops}
use Rattle.mi_model.specs.Kernel.{whole_kernel}
use Rattle.mi_model.specs.Table.{step}
use Rattle.mi_model.specs.Lines.{NumberedLine, lines_of_all}
use Rattle.mi_model.specs.Seed.{blank_machine, seed, at_loop}
use Rattle.mi_model.specs.Input.{give_line, give_end}
use Rattle.mi_model.specs.Finish.{finish}
use Rattle.mi_model.specs.Build.{Progress, Stopped, BuildEnd, after_effect, after_step, after_end, taking, end_given, at_wait, advanced, on_wait, after_line, lines_given, end_finished, end_halted, end_of, beginning, with_budget, lines_of_prelude, prelude_budget, prelude_done, stop_from, stop_seeded, fresh_stop, fresh_build}
use Rattle.mi_model.specs.Build.Stopped.{Wants, Halts, Fails, RunsOut}
use Rattle.mi_model.specs.Build.BuildEnd.{Done, Failed, Refused, EntryMissing, Spent}
use Rattle.mi_model.proofs.Answered.{plain_throws_only}
use Rattle.mi_reloc.specs.declared.building.Settings.{Settings}
use Rattle.mi_reloc.specs.declared.building.BuildFault.{BuildFault}
use Rattle.mi_reloc.specs.declared.building.BuildFault.TheVariants.{Thrown, Spent as OutOfTurns, Step, NoEntry, Cell, WriteFault, NoMemory}
use Rattle.mi_build.specs.Builds.{plain_build}
use Rattle.mi_build.specs.Faults.{fault_of_end, IsTold}
use Rattle.mi_build.specs.Made.{AnswersFixed}

-- the build hasn't stopped at a refused operation
abbrev IsUnrefused : Stopped ℕ ℕ → Type 0
IsUnrefused (Wants p) = Unit {0}
IsUnrefused (Halts p) = Unit {0}
IsUnrefused (Fails (Throw code) doing p) = Unit {0}
IsUnrefused (Fails (IsRefused first second why) doing p) = ⊥
IsUnrefused (Fails OutOfMemory doing p) = Unit {0}
IsUnrefused (RunsOut p) = Unit {0}

-- nor has it ended so
abbrev IsEndUnrefused : BuildEnd ℕ ℕ → Type 0
IsEndUnrefused (Done m used taken) = Unit {0}
IsEndUnrefused (Failed f file line) = Unit {0}
IsEndUnrefused (Refused s) = ⊥
IsEndUnrefused EntryMissing = Unit {0}
IsEndUnrefused (Spent budget) = Unit {0}

unrefused_effect : (f fw : Progress ℕ ℕ → Stopped ℕ ℕ) → ((q : Progress ℕ ℕ) → IsUnrefused (f q)) → ((q : Progress ℕ ℕ) → IsUnrefused (fw q)) → (p : Progress ℕ ℕ) (e : Effect) → IsUnrefused (after_effect f fw p e)
unrefused_effect f fw k kw p Went = k p
unrefused_effect f fw k kw p (Emit b) = k p
unrefused_effect f fw k kw p Want = kw p
unrefused_effect f fw k kw p Halt = tt

unrefused_step : (f fw : Progress ℕ ℕ → Stopped ℕ ℕ) → ((q : Progress ℕ ℕ) → IsUnrefused (f q)) → ((q : Progress ℕ ℕ) → IsUnrefused (fw q)) → (p : Progress ℕ ℕ) (r : Result (Effect × Machine ℕ ℕ) Fault) → ThrowsAtMost r → IsUnrefused (after_step f fw p r)
unrefused_step f fw k kw p _ (gives x) = unrefused_effect f fw k kw (record p { machine = x.1 }) x.0
unrefused_step f fw k kw p _ (throws code) = tt

unrefused_end : (f : Progress ℕ ℕ → Stopped ℕ ℕ) → ((q : Progress ℕ ℕ) → IsUnrefused (f q)) → (p : Progress ℕ ℕ) (r : Result (Effect × Machine ℕ ℕ) Fault) → ThrowsAtMost r → IsUnrefused (after_end f p r)
unrefused_end f k p _ (gives x) = unrefused_effect f (λ q. Wants q) k (λ q. tt) (record p { machine = x.1 }) x.0
unrefused_end f k p _ (throws code) = tt

unrefused_wait : (s : Stopped ℕ ℕ) (f : Progress ℕ ℕ → Stopped ℕ ℕ) → IsUnrefused s → ((p : Progress ℕ ℕ) → IsUnrefused (f p)) → IsUnrefused (on_wait s f)
unrefused_wait (Wants p) f h k = k p
unrefused_wait (Halts p) f h k = tt
unrefused_wait (Fails (Throw code) doing p) f h k = tt
unrefused_wait (Fails (IsRefused first second why) doing p) f h k = absurd h
unrefused_wait (Fails OutOfMemory doing p) f h k = tt
unrefused_wait (RunsOut p) f h k = tt

module _ (pair : Pair) (size : ℕ) where
  given_end : (f : Progress ℕ ℕ → Stopped ℕ ℕ) → ((q : Progress ℕ ℕ) → IsUnrefused (f q)) → (p : Progress ℕ ℕ) → IsUnrefused (end_given (plain_ops pair size) f p)
  given_end f k p = unrefused_end f k p _ (plain_throws_only pair size give_end p.machine [])

  waited : (f : Progress ℕ ℕ → Stopped ℕ ℕ) → ((q : Progress ℕ ℕ) → IsUnrefused (f q)) → (ended : Bool) (p : Progress ℕ ℕ) → IsUnrefused (at_wait (plain_ops pair size) ended f p)
  waited f k false p = tt
  waited f k true p = given_end f k p

  went_on : (ended : Bool) (left : ℕ) (p : Progress ℕ ℕ) → IsUnrefused (advanced whole_kernel (plain_ops pair size) ended left p)
  went_on ended zero p = tt
  went_on ended (suc left) p =
      unrefused_step _ _ (λ q. went_on ended left q) (λ q. waited _ (λ r. went_on ended left r) ended q) (taking (plain_ops pair size) left p) _ (plain_throws_only pair size (step whole_kernel) p.machine [])

  after_a_line : (p : Progress ℕ ℕ) (r : Result (Unit {0} × Machine ℕ ℕ) Fault) → ThrowsAtMost r → IsUnrefused (after_line whole_kernel (plain_ops pair size) p r)
  after_a_line p _ (gives x) = went_on false p.left (record p { machine = x.1 })
  after_a_line p _ (throws code) = tt

  given_lines : (ls : List NumberedLine) (p : Progress ℕ ℕ) → IsUnrefused (lines_given whole_kernel (plain_ops pair size) ls p)
  given_lines [] p = tt
  given_lines (l ∷ ls) p =
      unrefused_wait _ _ (after_a_line (record p { file = l.file; line = l.line }) _ (plain_throws_only pair size (give_line l.text) p.machine [])) (λ q. given_lines ls q)

  done_prelude : (budget : ℕ) (m : Machine ℕ ℕ) → IsUnrefused (prelude_done whole_kernel (plain_ops pair size) budget m)
  unfolding prelude_done
  done_prelude budget m = unrefused_wait _ _ (went_on false budget (beginning budget m)) (λ p. given_lines (lines_of_prelude whole_kernel) p)

  whole : (texts : List (List ℕ)) (budget turns : ℕ) (m : Machine ℕ ℕ) → IsUnrefused (stop_from whole_kernel (plain_ops pair size) texts budget turns m)
  whole texts budget turns m =
      unrefused_wait _ _ (unrefused_wait _ _ (done_prelude budget m) (λ p. given_lines (lines_of_all 1 texts) (with_budget turns p))) (λ p. given_end _ (λ q. went_on true p.left q) p)

  seeded : (texts : List (List ℕ)) (budget turns : ℕ) (r : Result (Unit {0} × Machine ℕ ℕ) Fault) → ThrowsAtMost r → IsUnrefused (stop_seeded whole_kernel (plain_ops pair size) texts budget turns (blank_machine (plain_ops pair size) size) r)
  seeded texts budget turns _ (gives x) = whole texts budget turns (at_loop (plain_ops pair size) x.1)
  seeded texts budget turns _ (throws code) = tt

  stopped : (texts : List (List ℕ)) (budget turns : ℕ) → IsUnrefused (fresh_stop whole_kernel (plain_ops pair size) size texts budget turns)
  unfolding fresh_stop
  stopped texts budget turns = seeded texts budget turns _ (plain_throws_only pair size (seed whole_kernel) (blank_machine (plain_ops pair size) size) [])

  finished : (p : Progress ℕ ℕ) (f : Finished) → IsEndUnrefused (end_finished p f)
  finished p (Ready used) = tt
  finished p EntryAbsent = tt

  halted : (texts : List (List ℕ)) (p : Progress ℕ ℕ) (r : Result (Finished × Machine ℕ ℕ) Fault) → ThrowsAtMost r → IsEndUnrefused (end_halted texts p r)
  halted texts p _ (gives x) = finished (record p { machine = x.1 }) x.0
  halted texts p _ (throws code) = tt

  ended : (texts : List (List ℕ)) (entry : Option (List ℕ)) (s : Stopped ℕ ℕ) → IsUnrefused s → IsEndUnrefused (end_of (plain_ops pair size) texts entry s)
  ended texts entry (Wants p) h = tt
  ended texts entry (Halts p) h = halted texts p _ (plain_throws_only pair size (finish entry) p.machine [])
  ended texts entry (Fails (Throw code) doing p) h = tt
  ended texts entry (Fails (IsRefused first second why) doing p) h = absurd h
  ended texts entry (Fails OutOfMemory doing p) h = tt
  ended texts entry (RunsOut p) h = tt

  never_refused_end : (texts : List (List ℕ)) (entry : Option (List ℕ)) (turns : ℕ) → IsEndUnrefused (fresh_build whole_kernel (plain_ops pair size) size texts entry turns).end
  unfolding fresh_build
  never_refused_end texts entry turns = ended texts entry _ (stopped texts prelude_budget turns)

-- the fresh build at a pair doesn't end by a refused operation
pub never_refused : (pair : Pair) (settings : Settings) (texts : List (List ℕ)) → IsEndUnrefused (plain_build pair settings texts).end
never_refused pair settings texts = never_refused_end pair settings.size texts _ settings.turns

-- so it isn't answered as one that does
not_a_step : (end : BuildEnd ℕ ℕ) (number offset tag : ℕ) (first second : Form) (why : Why) (file line : ℕ) → IsEndUnrefused end → fault_of_end end ≡ Some (Step number offset tag first second why file line) → ⊥
not_a_step (Done m used taken) number offset tag first second why file line h told = absurd (cc)
not_a_step (Failed (Throw code) f l) number offset tag first second why file line h told = absurd (cc)
not_a_step (Failed (IsRefused a b w) f l) number offset tag first second why file line h told = absurd (cc)
not_a_step (Failed OutOfMemory f l) number offset tag first second why file line h told = absurd (cc)
not_a_step (Refused s) number offset tag first second why file line h told = absurd h
not_a_step EntryMissing number offset tag first second why file line h told = absurd (cc)
not_a_step (Spent budget) number offset tag first second why file line h told = absurd (cc)

-- the answer to a build at a pair that isn't done
pub fixed_fault : (pair : Pair) (settings : Settings) (texts : List (List ℕ)) (e : BuildFault) → IsTold e (fault_of_end (plain_build pair settings texts).end) → AnswersFixed (Err e) pair (plain_build pair settings texts).end
fixed_fault pair settings texts (Thrown code file line) told = told
fixed_fault pair settings texts (OutOfTurns turns) told = told
fixed_fault pair settings texts (Step number offset tag first second why file line) told = not_a_step _ number offset tag first second why file line (never_refused pair settings texts) told
fixed_fault pair settings texts NoEntry told = told
fixed_fault pair settings texts (Cell offset found) told = told
fixed_fault pair settings texts WriteFault told = tt
fixed_fault pair settings texts NoMemory told = tt
