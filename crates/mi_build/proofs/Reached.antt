-- The fresh build at a pair comes to the instruction in which the build over origins was refused an operation.
use Rattle.std.proofs.Common.{ℕ, ◌≡◌, ◌<◌, ◌≤◌, ◌+◌, ◌-◌, ◌⊎◌, inl, inr, List, [], ◌++◌, Option, Result, Ok, Err, refl, sym, ap, subst, ◌∙◌, append_assoc, arith}
use Rattle.std.proofs.lemmas.Bool.{cases_lt}
use Rattle.mi_model.specs.declared.Fault.{Fault}
use Rattle.mi_model.specs.declared.Fault.TheVariants.{Throw, Refused as IsRefused, NoMemory}
use Rattle.mi_model.specs.declared.Form.{Form}
use Rattle.mi_model.specs.declared.OriginByte.{OriginByte}
use Rattle.mi_model.specs.declared.Pair.{Pair}
use Rattle.mi_model.specs.declared.Finished.{Finished}
use Rattle.mi_model.specs.declared.Finished.TheVariants.{Ready, NoEntry}
use Rattle.mi_model.specs.Ops.{Ops}
use Rattle.mi_model.specs.Machine.{Machine}
use Rattle.mi_model.specs.Kernel.{Kernel, whole_kernel}
use Rattle.mi_model.specs.Table.{step}
use Rattle.mi_model.specs.Outcome.{outcome_of}
use Rattle.mi_model.specs.Action.AnswerKind.{Effects}
use Rattle.mi_model.specs.Lines.{NumberedLine, lines_of_all}
use Rattle.mi_model.specs.Pairs.{IsAllowedPair}
use Rattle.mi_model.specs.Plain.{plain_ops}
use Rattle.mi_model.specs.Forms.{IsSize}
use Rattle.mi_model.specs.Image.{IsRegionSize}
use Rattle.mi_model.specs.OriginOps.{origin_ops, FormStands, ByteStands}
use Rattle.mi_model.specs.Seed.{blank_machine, seed, at_loop}
use Rattle.mi_model.specs.Finish.{finish}
use Rattle.mi_model.specs.Build.{Progress, Stopped, Doing, RefusedStep, BuildEnd, lines_given, with_budget, number_at, end_failed, end_finished, end_halted, end_of, prelude_budget, prelude_done, prelude_emitted, sources_done, sources_emitted, input_done, input_emitted, stop_from, emitted_from, stop_seeded, emitted_seeded, fresh_stop, fresh_emitted, fresh_build}
use Rattle.mi_model.specs.Build.Stopped.{Wants, Halts, Fails, RunsOut}
use Rattle.mi_model.specs.Build.Doing.{Instruction, Giving, Finishing}
use Rattle.mi_model.specs.Build.BuildEnd.{Refused}
use Rattle.mi_model.specs.Agreeing.{ProgressStands, StopAgrees}
use Rattle.mi_model.specs.Agreeing.StopAgrees.{wants, halts, fails, runs_out, refused}
use Rattle.mi_model.proofs.Builds.{stops_agree}
use Rattle.mi_form.proofs.Stand.{origin_stands}
use Rattle.mi_form.proofs.Refusing.{meets_refused}
use Rattle.mi_reloc.specs.declared.building.Settings.{Settings}
use Rattle.mi_build.specs.Builds.{origin_build}
use Rattle.mi_build.specs.Reached.{RunsOutOf, MeetsNext, RunsOutBefore, Reaches}
use Rattle.mi_build.proofs.Shortened.{IsOther, Shortens, other_prelude, other_sources, short_prelude, short_sources}
use Rattle.mi_build.proofs.Shortened.Shortens.{waits, here, other}

module _ {C B : Type 0} (K : Kernel) (O : Ops C B) where
  -- a build that fails in an instruction, and one with fewer instructions that runs out in front of it
  record ComesTo (c e : ℕ) (f : Fault) (p : Progress C B) (xs : List ℕ) (t : Stopped C B) (ys : List ℕ) : Type 0 where
    pub stop : Progress C B
    pub is : t ≡ RunsOut stop
    pub same : ys ≡ xs
    pub budget : p.budget ≡ c
    pub cut : stop.budget ≡ e
    pub machine : stop.machine ≡ p.machine
    pub fails : outcome_of O (step K) p.machine [] ≡ Err f

  comes_to : (c e d : ℕ) {s t : Stopped C B} {xs ys : List ℕ} (f : Fault) (p : Progress C B) → Shortens K O c e d s xs t ys → s ≡ Fails f Instruction p → p.left + 1 ≡ d → ComesTo c e f p xs t ys
  comes_to c e d f p (waits out h) is at = absurd (cc)
  comes_to c e d f p (here {p = r} {q = q} g out i b cut m o) is at =
      let same : r ≡ p = cc in
      let fault : g ≡ f = cc in
      record {
        stop = q;
        is = refl;
        same = refl;
        budget = subst (λ (v : Progress C B). v.budget ≡ c) same b;
        cut = cut;
        machine = m ∙ ap (λ (v : Progress C B). v.machine) same;
        fails = subst (λ (v : Progress C B). outcome_of O (step K) v.machine [] ≡ Err f) same (subst (λ (x : Fault). outcome_of O (step K) r.machine [] ≡ Err x) fault o);
      }
  comes_to c e d f p (other xs ys h) is at = absurd (subst (λ (v : Stopped C B). IsOther K O c e d v) is h at)

  -- a build that takes two budgets, with these, runs out in front of the instruction, and has emitted this
  record Cut (stops : (budget turns : ℕ) → Stopped C B) (emits : (budget turns : ℕ) → List ℕ) (f : Fault) (p : Progress C B) (xs : List ℕ) (budget turns : ℕ) : Type 0 where
    pub stop : Progress C B
    pub is : stops budget turns ≡ RunsOut stop
    pub same : emits budget turns ≡ xs
    pub cut : stop.budget ≡ p.budget - p.left - 1
    pub machine : stop.machine ≡ p.machine
    pub fails : outcome_of O (step K) p.machine [] ≡ Err f

  -- in the prelude, or in the sources
  abbrev IsCut : (stops : (budget turns : ℕ) → Stopped C B) → (emits : (budget turns : ℕ) → List ℕ) → Fault → Progress C B → (budget turns : ℕ) → Type 0
  IsCut stops emits f p budget turns =
      Cut stops emits f p (emits budget turns) (p.budget - p.left - 1) turns ⊎ Cut stops emits f p (emits budget turns) budget (p.budget - p.left - 1)

  module _ (texts : List (List ℕ)) (m : Machine C B) where
    abbrev Stops : (budget turns : ℕ) → Stopped C B
    Stops budget turns = stop_from K O texts budget turns m

    abbrev Emits : (budget turns : ℕ) → List ℕ
    Emits budget turns = emitted_from K O texts budget turns m

    -- what is emitted behind the prelude
    abbrev Later : (turns : ℕ) → Stopped C B → List ℕ
    Later turns s = sources_emitted K O texts turns s ++ input_emitted K O (sources_done K O texts turns s)

    in_parts : (budget turns : ℕ) → Emits budget turns ≡ prelude_emitted K O budget m ++ Later turns (prelude_done K O budget m)
    in_parts budget turns = append_assoc (prelude_emitted K O budget m) (sources_emitted K O texts turns (prelude_done K O budget m)) (input_emitted K O (sources_done K O texts turns (prelude_done K O budget m)))

    less_one : (c : ℕ) (p : Progress C B) → p.budget ≡ c → c - (p.left + 1) ≡ p.budget - p.left - 1
    less_one c p is = omega (arith, is)

    cut_in_prelude : (c turns : ℕ) (f : Fault) (p : Progress C B) → prelude_done K O c m ≡ Fails f Instruction p → Cut Stops Emits f p (Emits c turns) (p.budget - p.left - 1) turns
    cut_in_prelude c turns f p begun = elim (cases_lt c (p.left + 1)) [ inl less ↦ too_few less | inr least ↦ enough least ]
      where
        too_few : c < p.left + 1 → Cut Stops Emits f p (Emits c turns) (p.budget - p.left - 1) turns
        too_few less = absurd (subst (λ (v : Stopped C B). IsOther K O c 0 (p.left + 1) v) begun (other_prelude K O c 0 (p.left + 1) m less) refl)

        enough : p.left + 1 ≤ c → Cut Stops Emits f p (Emits c turns) (p.budget - p.left - 1) turns
        enough least =
            let d : ℕ = p.left + 1 in
            let e : ℕ = c - d in
            let some : 0 < d = omega arith in
            let split : c ≡ d + e = omega (arith, least) in
            let i : ComesTo c e f p (prelude_emitted K O c m) (prelude_done K O e m) (prelude_emitted K O e m) = comes_to c e d f p (short_prelude K O c e d m some split) begun refl in
            let later : Later turns (prelude_done K O e m) ≡ Later turns (prelude_done K O c m) = ap (λ (s : Stopped C B). Later turns s) i.is ∙ sym (ap (λ (s : Stopped C B). Later turns s) begun) in
            let same : Emits e turns ≡ Emits c turns =
            in_parts e turns ∙ ap (λ (xs : List ℕ). xs ++ Later turns (prelude_done K O e m)) i.same ∙ ap (λ (ys : List ℕ). prelude_emitted K O c m ++ ys) later ∙ sym (in_parts c turns) in
            subst (λ (n : ℕ). Cut Stops Emits f p (Emits c turns) n turns) (less_one c p i.budget)
            (record { stop = i.stop; is = ap (λ (s : Stopped C B). input_done K O (sources_done K O texts turns s)) i.is; same = same; cut = i.cut ∙ less_one c p i.budget; machine = i.machine; fails = i.fails })

    cut_in_sources : (budget c : ℕ) (w : Progress C B) (f : Fault) (p : Progress C B) → prelude_done K O budget m ≡ Wants w → Stops budget c ≡ Fails f Instruction p
        → Cut Stops Emits f p (Emits budget c) budget (p.budget - p.left - 1)
    cut_in_sources budget c w f p begun is = elim (cases_lt c (p.left + 1)) [ inl less ↦ too_few less | inr least ↦ enough least ]
      where
        ls : List NumberedLine
        ls = lines_of_all 1 texts

        failed : input_done K O (lines_given K O ls (with_budget c w)) ≡ Fails f Instruction p
        failed = sym (ap (λ (s : Stopped C B). input_done K O (sources_done K O texts c s)) begun) ∙ is

        too_few : c < p.left + 1 → Cut Stops Emits f p (Emits budget c) budget (p.budget - p.left - 1)
        too_few less = absurd (subst (λ (v : Stopped C B). IsOther K O c 0 (p.left + 1) v) failed (other_sources K O c 0 (p.left + 1) ls w less) refl)

        enough : p.left + 1 ≤ c → Cut Stops Emits f p (Emits budget c) budget (p.budget - p.left - 1)
        enough least =
            let d : ℕ = p.left + 1 in
            let e : ℕ = c - d in
            let some : 0 < d = omega arith in
            let split : c ≡ d + e = omega (arith, least) in
            let i : ComesTo c e f p (Later c (Wants w)) (input_done K O (sources_done K O texts e (Wants w))) (Later e (Wants w)) = comes_to c e d f p (short_sources K O c e d ls w some split) failed refl in
            let later : Later e (prelude_done K O budget m) ≡ Later c (prelude_done K O budget m) =
            ap (λ (s : Stopped C B). Later e s) begun ∙ i.same ∙ sym (ap (λ (s : Stopped C B). Later c s) begun) in
            subst (λ (n : ℕ). Cut Stops Emits f p (Emits budget c) budget n) (less_one c p i.budget)
            (record { stop = i.stop; is = ap (λ (s : Stopped C B). input_done K O (sources_done K O texts e s)) begun ∙ i.is; same = in_parts budget e ∙ ap (λ (ys : List ℕ). prelude_emitted K O budget m ++ ys) later ∙ sym (in_parts budget c); cut = i.cut ∙ less_one c p i.budget; machine = i.machine; fails = i.fails })

    cut_from : (budget turns : ℕ) (f : Fault) (p : Progress C B) → Stops budget turns ≡ Fails f Instruction p → IsCut Stops Emits f p budget turns
    cut_from budget turns f p is = by_prelude (prelude_done K O budget m) refl
      where
        by_prelude : (s : Stopped C B) → prelude_done K O budget m ≡ s → IsCut Stops Emits f p budget turns
        by_prelude (Wants w) begun = inr (cut_in_sources budget turns w f p begun is)
        by_prelude (Halts r) begun =
            let no : Halts r ≡ Fails f Instruction p = sym (ap (λ (s : Stopped C B). input_done K O (sources_done K O texts turns s)) begun) ∙ is in
            absurd (cc)
        by_prelude (Fails g doing r) begun =
            let same : Fails g doing r ≡ Fails f Instruction p = sym (ap (λ (s : Stopped C B). input_done K O (sources_done K O texts turns s)) begun) ∙ is in
            inl (cut_in_prelude budget turns f p (begun ∙ same))
        by_prelude (RunsOut r) begun =
            let no : RunsOut r ≡ Fails f Instruction p = sym (ap (λ (s : Stopped C B). input_done K O (sources_done K O texts turns s)) begun) ∙ is in
            absurd (cc)

  cut_seeded : (texts : List (List ℕ)) (budget turns : ℕ) (blank : Machine C B) (f : Fault) (p : Progress C B) (r : Result (Unit {0} × Machine C B) Fault)
      → stop_seeded K O texts budget turns blank r ≡ Fails f Instruction p
      → IsCut (λ b t. stop_seeded K O texts b t blank r) (λ b t. emitted_seeded K O texts b t r) f p budget turns
  cut_seeded texts budget turns blank f p (Ok x) is = cut_from texts (at_loop O x.1) budget turns f p is
  cut_seeded texts budget turns blank f p (Err g) is = absurd (cc)

  cut_fresh : (size : ℕ) (texts : List (List ℕ)) (budget turns : ℕ) (f : Fault) (p : Progress C B) → fresh_stop K O size texts budget turns ≡ Fails f Instruction p
      → IsCut (λ b t. fresh_stop K O size texts b t) (λ b t. fresh_emitted K O size texts b t) f p budget turns
  unfolding fresh_stop fresh_emitted
  cut_fresh size texts budget turns f p is = cut_seeded texts budget turns (blank_machine O size) f p (outcome_of O (seed K) (blank_machine O size) []) is

  -- the stop of a build that ends by an operation that was refused in an instruction
  record StopsAt (s : RefusedStep) (stop : Stopped C B) : Type 0 where
    pub at : Progress C B
    pub is : stop ≡ Fails (IsRefused s.first s.second s.why) Instruction at
    pub number : s.number ≡ at.budget - at.left

  by_failure : (s : RefusedStep) (f : Fault) (doing : Doing) (p : Progress C B) → (let e : BuildEnd C B = end_failed f doing p in e) ≡ Refused s → s.doing ≡ Instruction → StopsAt s (Fails f doing p)
  by_failure s (Throw code) doing p ends did = absurd (cc)
  by_failure s (IsRefused first second why) Instruction p ends did =
      let same : record { doing = Instruction; number = number_at Instruction p; token = p.last; first = first; second = second; why = why; file = p.file; line = p.line } ≡ s = cc in
      record { at = p; is = ap (λ (v : RefusedStep). Fails (IsRefused v.first v.second v.why) Instruction p) same; number = sym (ap (λ (v : RefusedStep). v.number) same) }
  by_failure s (IsRefused first second why) Giving p ends did =
      let same : record { doing = Giving; number = number_at Giving p; token = p.last; first = first; second = second; why = why; file = p.file; line = p.line } ≡ s = cc in
      let no : Giving ≡ Instruction = ap (λ (v : RefusedStep). v.doing) same ∙ did in
      absurd (cc)
  by_failure s (IsRefused first second why) Finishing p ends did =
      let same : record { doing = Finishing; number = number_at Finishing p; token = p.last; first = first; second = second; why = why; file = p.file; line = p.line } ≡ s = cc in
      let no : Finishing ≡ Instruction = ap (λ (v : RefusedStep). v.doing) same ∙ did in
      absurd (cc)
  by_failure s NoMemory doing p ends did = absurd (cc)

  not_finished : (s : RefusedStep) (p : Progress C B) (x : Finished) → end_finished p x ≡ Refused s → ⊥
  not_finished s p (Ready used) ends = absurd (cc)
  not_finished s p NoEntry ends = absurd (cc)

  by_halt : (s : RefusedStep) (texts : List (List ℕ)) (p : Progress C B) (r : Result (Finished × Machine C B) Fault) → end_halted texts p r ≡ Refused s → s.doing ≡ Instruction → ⊥
  by_halt s texts p (Ok x) ends did = not_finished s (record p { machine = x.1 }) x.0 ends
  by_halt s texts p (Err f) ends did = let h = by_failure s f Finishing _ ends did in let no = h.is in absurd (cc)

  stops_at : (s : RefusedStep) (texts : List (List ℕ)) (entry : Option (List ℕ)) (stop : Stopped C B) → end_of O texts entry stop ≡ Refused s → s.doing ≡ Instruction → StopsAt s stop
  stops_at s texts entry (Wants p) ends did = absurd (cc)
  stops_at s texts entry (Halts p) ends did = absurd (by_halt s texts p (outcome_of O (finish entry) p.machine []) ends did)
  stops_at s texts entry (Fails f doing p) ends did = by_failure s f doing p ends did
  stops_at s texts entry (RunsOut p) ends did = absurd (cc)

-- where a build over origins runs out, the fresh build at a pair does
record RunsOutToo (pair : Pair) (p : Progress Form OriginByte) (xs : List ℕ) (t : Stopped ℕ ℕ) (ys : List ℕ) : Type 0 where
  pub stop : Progress ℕ ℕ
  pub is : t ≡ RunsOut stop
  pub same : ys ≡ xs
  pub stands : ProgressStands (FormStands pair) (ByteStands pair) p stop

runs_out_too : (pair : Pair) (p : Progress Form OriginByte) {s : Stopped Form OriginByte} {t : Stopped ℕ ℕ} {xs ys : List ℕ} → StopAgrees (FormStands pair) (ByteStands pair) s xs t ys → s ≡ RunsOut p → RunsOutToo pair p xs t ys
runs_out_too pair p (wants out h) is = absurd (cc)
runs_out_too pair p (halts out h) is = absurd (cc)
runs_out_too pair p (fails code doing out h) is = absurd (cc)
runs_out_too pair p (runs_out {p = r} {q = q} out h) is =
    let same : r ≡ p = cc in
    record { stop = q; is = refl; same = refl; stands = subst (λ (v : Progress Form OriginByte). ProgressStands (FormStands pair) (ByteStands pair) v q) same h }
runs_out_too pair p (refused a b why doing r s out rest) is = absurd (cc)

module _ (settings : Settings) (texts : List (List ℕ)) (pair : Pair) (s : RefusedStep) (region : IsRegionSize settings.size) (allowed : IsAllowedPair pair) where
  runs_out_before : (at : Progress Form OriginByte) (budget turns : ℕ) → s.number ≡ at.budget - at.left
      → Cut whole_kernel (origin_ops settings.size) (λ b t. fresh_stop whole_kernel (origin_ops settings.size) settings.size texts b t) (λ b t. fresh_emitted whole_kernel (origin_ops settings.size) settings.size texts b t)
      (IsRefused s.first s.second s.why) at (origin_build settings texts).output budget turns
      → RunsOutBefore s pair settings.size texts (origin_build settings texts).output budget turns
  runs_out_before at budget turns number cut =
      let fits : IsSize settings.size = record { least = region.least; most = region.most } in
      let too : RunsOutToo pair cut.stop (fresh_emitted whole_kernel (origin_ops settings.size) settings.size texts budget turns)
      (fresh_stop whole_kernel (plain_ops pair settings.size) settings.size texts budget turns) (fresh_emitted whole_kernel (plain_ops pair settings.size) settings.size texts budget turns) =
      runs_out_too pair cut.stop (stops_agree (FormStands pair) (ByteStands pair) _ _ (origin_stands settings.size pair fits allowed) whole_kernel settings.size texts budget turns) cut.is in
      let met : MeetsNext settings.size pair s too.stop.machine =
      λ other. meets_refused settings.size pair Effects (step whole_kernel) cut.stop.machine too.stop.machine s.first s.second s.why fits allowed too.stands.machine
      (subst (λ (m : Machine Form OriginByte). outcome_of (origin_ops settings.size) (step whole_kernel) m [] ≡ Err (IsRefused s.first s.second s.why)) (sym cut.machine) cut.fails) (λ is. other is) in
      let left : too.stop.budget ≡ s.number - 1 = sym too.stands.budget ∙ cut.cut ∙ ap (λ (n : ℕ). n - 1) (sym number) in
      record {
        next = subst (λ (t : Stopped ℕ ℕ). RunsOutOf (s.number - 1) t (MeetsNext settings.size pair s)) (sym too.is) (left, met);
        emitted = too.same ∙ cut.same;
      }

  either : (at : Progress Form OriginByte) → s.number ≡ at.budget - at.left
      → IsCut whole_kernel (origin_ops settings.size) (λ b t. fresh_stop whole_kernel (origin_ops settings.size) settings.size texts b t) (λ b t. fresh_emitted whole_kernel (origin_ops settings.size) settings.size texts b t)
      (IsRefused s.first s.second s.why) at prelude_budget settings.turns
      → RunsOutBefore s pair settings.size texts (origin_build settings texts).output (s.number - 1) settings.turns ⊎ RunsOutBefore s pair settings.size texts (origin_build settings texts).output prelude_budget (s.number - 1)
  unfolding fresh_build
  either at number (inl cut) = inl (subst (λ (n : ℕ). RunsOutBefore s pair settings.size texts (origin_build settings texts).output (n - 1) settings.turns) (sym number) (runs_out_before at (at.budget - at.left - 1) settings.turns number cut))
  either at number (inr cut) = inr (subst (λ (n : ℕ). RunsOutBefore s pair settings.size texts (origin_build settings texts).output prelude_budget (n - 1)) (sym number) (runs_out_before at prelude_budget (at.budget - at.left - 1) number cut))

  -- the refused operation is reached
  pub reached : (origin_build settings texts).end ≡ Refused s → Reaches s pair settings.size texts settings.turns (origin_build settings texts).output
  unfolding fresh_build
  reached ends did =
      let at : StopsAt whole_kernel (origin_ops settings.size) s (fresh_stop whole_kernel (origin_ops settings.size) settings.size texts prelude_budget settings.turns) =
      stops_at whole_kernel (origin_ops settings.size) s texts _ _ ends did in
      either at.at at.number (cut_fresh whole_kernel (origin_ops settings.size) settings.size texts prelude_budget settings.turns (IsRefused s.first s.second s.why) at.at at.is)
