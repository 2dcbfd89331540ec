-- What the parts of a build emit, one after another.
use Rattle.std.proofs.Common.{◌≡◌, ℕ, false, List, ◌++◌, Result, Ok, Err, refl, ap, sym, subst, ◌∙◌}
use Rattle.mi_model.specs.declared.Token.{Token}
use Rattle.mi_model.specs.Ops.{Ops}
use Rattle.mi_model.specs.Machine.{Machine}
use Rattle.mi_model.specs.Kernel.{whole_kernel}
use Rattle.mi_model.specs.Lines.{lines_of_all}
use Rattle.mi_model.specs.Tokens.{first_token}
use Rattle.mi_model.specs.Build.{Progress, Stopped, advanced, emitted, on_wait, emitted_on_wait, lines_given, lines_emitted, lines_of_prelude, beginning, with_budget, end_emitted, prelude_budget, prelude_done, prelude_emitted, sources_done, sources_emitted, input_emitted}
use Rattle.mi_model.specs.Build.Stopped.{Wants}
use Rattle.mi_reloc.specs.declared.building.BuildFault.{BuildFault}
use Rattle.mi_build.specs.Puts.{Output, Puts, PutsAll}
use Rattle.mi_build.specs.Course.{emitted_before_end}
use Rattle.mi_build.specs.Faults.{fault_of, IsTold}
use Rattle.mi_build.proofs.PutLemmas.{puts_then, puts_nothing, fault_stops}

-- the progress with which the prelude begins
begun : {C B : Type 0} (m : Machine C B) (turns : ℕ) (last : Token) → turns ≡ prelude_budget → last ≡ first_token
    → record { machine = m; budget = turns; left = turns; file = 0; line = 0; last = last } ≡ beginning prelude_budget m
begun {C} {B} m turns last e f =
    ap (λ (t : ℕ). let p : Progress C B = record { machine = m; budget = t; left = t; file = 0; line = 0; last = last } in p) e
    ∙ ap (λ (l : Token). let p : Progress C B = record { machine = m; budget = prelude_budget; left = prelude_budget; file = 0; line = 0; last = l } in p) f

pub prelude_emits : {Y C B : Type 0} (ops : Ops C B) (r : Result Y BuildFault) (m : Machine C B) (turns : ℕ) (last : Token) (q : Progress C B) (first second third : Output)
    → turns ≡ prelude_budget → last ≡ first_token
    → advanced whole_kernel ops false turns (record { machine = m; budget = turns; left = turns; file = 0; line = 0; last = last }) ≡ Wants q
    → Puts first second (emitted whole_kernel ops false turns m)
    → PutsAll r second third (lines_emitted whole_kernel ops (lines_of_prelude whole_kernel) q)
    → PutsAll r first third (prelude_emitted whole_kernel ops prelude_budget m)
unfolding prelude_emitted
prelude_emits {Y} {C} {B} ops r m turns last q first second third e f s h k =
    let rest = λ (p : Progress C B). lines_emitted whole_kernel ops (lines_of_prelude whole_kernel) p in
    let stop : advanced whole_kernel ops false prelude_budget (beginning prelude_budget m) ≡ Wants q =
    sym (ap (λ (p : Progress C B). advanced whole_kernel ops false prelude_budget p) (begun m turns last e f)
    ) ∙ ap (λ (n : ℕ). advanced whole_kernel ops false n (record { machine = m; budget = turns; left = turns; file = 0; line = 0; last = last })) (sym e) ∙ s in
    let all : emitted whole_kernel ops false prelude_budget m ++ emitted_on_wait (advanced whole_kernel ops false prelude_budget (beginning prelude_budget m)) rest ≡ emitted whole_kernel ops false turns m ++ rest q =
    ap (λ (t : Stopped C B). emitted whole_kernel ops false prelude_budget m ++ emitted_on_wait t rest) stop ∙ ap (λ (n : ℕ). emitted whole_kernel ops false n m ++ rest q) (sym e) in
    subst (λ (bytes : List ℕ). PutsAll r first third bytes) (sym all) (puts_then r first second third (emitted whole_kernel ops false turns m) (rest q) h k)

pub prelude_stops : (Y Z : Type 0) {C B : Type 0} (ops : Ops C B) (e : BuildFault) (m : Machine C B) (turns : ℕ) (last : Token) (first second : Output)
    → turns ≡ prelude_budget → last ≡ first_token
    → IsTold e (fault_of (advanced whole_kernel ops false turns (record { machine = m; budget = turns; left = turns; file = 0; line = 0; last = last })))
    → PutsAll {X = Y} (Err e) first second (emitted whole_kernel ops false turns m)
    → PutsAll {X = Z} (Err e) first second (prelude_emitted whole_kernel ops prelude_budget m)
unfolding prelude_emitted
prelude_stops Y Z {C} {B} ops e m turns last first second is f t k =
    let rest = λ (p : Progress C B). lines_emitted whole_kernel ops (lines_of_prelude whole_kernel) p in
    let begin : Progress C B = record { machine = m; budget = turns; left = turns; file = 0; line = 0; last = last } in
    let stop : advanced whole_kernel ops false turns begin ≡ advanced whole_kernel ops false prelude_budget (beginning prelude_budget m) =
    ap (λ (n : ℕ). advanced whole_kernel ops false n begin) is ∙ ap (λ (p : Progress C B). advanced whole_kernel ops false prelude_budget p) (begun m turns last is f) in
    let all : emitted whole_kernel ops false prelude_budget m ++ emitted_on_wait (advanced whole_kernel ops false prelude_budget (beginning prelude_budget m)) rest ≡ emitted whole_kernel ops false turns m ++ emitted_on_wait (advanced whole_kernel ops false turns begin) rest =
    ap (λ (n : ℕ). emitted whole_kernel ops false n m ++ emitted_on_wait (advanced whole_kernel ops false prelude_budget (beginning prelude_budget m)) rest) (sym is)
    ∙ ap (λ (s : Stopped C B). emitted whole_kernel ops false turns m ++ emitted_on_wait s rest) (sym stop) in
    fault_stops Y Z e first first second _ (emitted whole_kernel ops false turns m) (advanced whole_kernel ops false turns begin) rest (puts_nothing first _ _ all) t k

pub sources_stop : (Y Z : Type 0) {C B : Type 0} (ops : Ops C B) (e : BuildFault) (texts : List (List ℕ)) (turns : ℕ) (m : Machine C B) (first second : Output)
    → IsTold e (fault_of (prelude_done whole_kernel ops prelude_budget m))
    → PutsAll {X = Y} (Err e) first second (prelude_emitted whole_kernel ops prelude_budget m)
    → PutsAll {X = Z} (Err e) first second (emitted_before_end ops texts turns m)
unfolding emitted_before_end
sources_stop Y Z {C} {B} ops e texts turns m first second t k =
    fault_stops Y Z e first first second _ (prelude_emitted whole_kernel ops prelude_budget m) (prelude_done whole_kernel ops prelude_budget m)
    (λ (p : Progress C B). lines_emitted whole_kernel ops (lines_of_all 1 texts) (with_budget turns p)) (puts_nothing first _ _ refl) t k

pub sources_emit : {Y C B : Type 0} (ops : Ops C B) (r : Result Y BuildFault) (texts : List (List ℕ)) (turns : ℕ) (m : Machine C B) (q : Progress C B) (first second third : Output)
    → prelude_done whole_kernel ops prelude_budget m ≡ Wants q
    → Puts first second (prelude_emitted whole_kernel ops prelude_budget m)
    → PutsAll r second third (lines_emitted whole_kernel ops (lines_of_all 1 texts) (with_budget turns q))
    → PutsAll r first third (emitted_before_end ops texts turns m)
unfolding emitted_before_end
sources_emit {Y} {C} {B} ops r texts turns m q first second third s h k =
    let all : prelude_emitted whole_kernel ops prelude_budget m ++ sources_emitted whole_kernel ops texts turns (prelude_done whole_kernel ops prelude_budget m)
    ≡ prelude_emitted whole_kernel ops prelude_budget m ++ lines_emitted whole_kernel ops (lines_of_all 1 texts) (with_budget turns q) =
    ap (λ (t : Stopped C B). prelude_emitted whole_kernel ops prelude_budget m ++ sources_emitted whole_kernel ops texts turns t) s in
    subst (λ (bytes : List ℕ). PutsAll r first third bytes) (sym all) (puts_then r first second third _ _ h k)

pub end_emits_then : {Y C B : Type 0} (ops : Ops C B) (r : Result Y BuildFault) (before : List ℕ) (s : Stopped C B) (q : Progress C B) (first second third : Output)
    → s ≡ Wants q → Puts first second before
    → PutsAll r second third (input_emitted whole_kernel ops (Wants q))
    → PutsAll r first third (before ++ input_emitted whole_kernel ops s)
end_emits_then {Y} {C} {B} ops r before s q first second third e h k =
    subst (λ (t : Stopped C B). PutsAll r first third (before ++ input_emitted whole_kernel ops t)) (sym e) (puts_then r first second third before _ h k)
