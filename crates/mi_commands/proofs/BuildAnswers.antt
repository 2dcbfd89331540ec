-- The answer of a build, in the words of the program.
use Rattle.std.proofs.Common.{◌≡◌, ◌≢◌, ℕ, List, Option, Some, Ok, Err, refl, ap}
use Rattle.std.specs.Prelude.{IfOk, IfErr, OnErr, IsErrOf, Result}
use Rattle.mi_model.specs.declared.Form.{Form}
use Rattle.mi_model.specs.declared.Found.TheVariants.{Form as AForm}
use Rattle.mi_model.specs.declared.Kind.TheVariants.{Relocatable}
use Rattle.mi_model.specs.declared.Pair.{Pair}
use Rattle.mi_model.specs.Build.{RefusedStep}
use Rattle.mi_model.specs.Build.BuildEnd.{Refused}
use Rattle.mi_model.specs.Image.{ImageRecord, IsImage, loaded}
use Rattle.mi_model.specs.Pairs.{IsAllowedPair}
use Rattle.mi_outside.specs.Gathered.{last_of}
use Rattle.mi_outside.specs.Written.{Emits, EmitsFront}
use Rattle.mi_reloc.specs.declared.building.Made.{Made}
use Rattle.mi_reloc.specs.declared.building.Settings.{Settings as BuildSettings}
use Rattle.mi_reloc.specs.declared.building.BuildFault.{BuildFault}
use Rattle.mi_reloc.specs.declared.building.BuildFault.TheVariants.{Thrown, Spent, Step, NoEntry, Cell, WriteFault, NoMemory}
use Rattle.mi_build.specs.Builds.{origin_build, plain_build}
use Rattle.mi_build.specs.EveryPair.{EndsAt}
use Rattle.mi_build.specs.Made.{Answers, IsDone}
use Rattle.mi_build.specs.Puts.{KeepsLast}
use Rattle.mi_build.specs.Reached.{Reaches}
use Rattle.mi_build.specs.Written.{EmitsAll}
use Rattle.mi_commands.specs.declared.outcome.Outcome.TheVariants.{Built}
use Rattle.mi_commands.specs.Settings.{settings_in_bytes}
use Rattle.mi_commands.specs.Builds.{build_over_origins}
use Rattle.mi_commands.specs.Causes.{ComesOfTexts}
use Rattle.mi_commands.specs.Claims.{Claims}
use Rattle.mi_commands.specs.commands.Build.{outcome_of_fault, outcome_of_texts, image_of_texts}
use Rattle.mi_commands.specs.Contract.{ServesEveryPair, Gains}
use Rattle.mi_commands.proofs.CauseLemmas.{fault_comes}
use Rattle.mi_commands.proofs.EveryPair.{served, built, imaged, claimed}
use Rattle.mi_commands.proofs.OutputLemmas.{made_gains, made_last, fault_front, fault_whole, fault_last}

pub serves : (r : Result Made BuildFault) (settings : BuildSettings) (texts : List (List ℕ)) → Answers r settings.size (origin_build settings texts).end → IfOk r (λ made. IsImage made.image × (made.image.kind ≡ Relocatable))
    → ((pair : Pair) → IsAllowedPair pair → EndsAt r (origin_build settings texts).output pair (plain_build pair settings texts)) → IfOk r (λ made. ServesEveryPair made.image made.image.used made.turns (settings_in_bytes settings) texts)
serves (Ok made) settings texts answers image ends = served made settings texts answers image ends
serves (Err fault) settings texts answers image ends = tt

pub means : (r : Result Made BuildFault) (settings : BuildSettings) (texts : List (List ℕ)) → Answers r settings.size (origin_build settings texts).end → IfOk r (λ made. outcome_of_texts (settings_in_bytes settings) texts ≡ Built made.image.used made.turns)
means (Ok made) settings texts answers = built made settings texts answers
means (Err fault) settings texts answers = tt

pub makes : (r : Result Made BuildFault) (settings : BuildSettings) (texts : List (List ℕ)) → Answers r settings.size (origin_build settings texts).end → IfOk r (λ made. image_of_texts (settings_in_bytes settings) texts ≡ Some made.image)
makes (Ok made) settings texts answers = imaged made settings texts answers
makes (Err fault) settings texts answers = tt

pub comes : (r : Result Made BuildFault) (settings : BuildSettings) (texts : List (List ℕ)) → Answers r settings.size (origin_build settings texts).end → IfErr r (λ fault. ComesOfTexts (outcome_of_fault fault) (settings_in_bytes settings) texts)
comes (Ok made) settings texts answers = tt
comes (Err fault) settings texts answers = fault_comes fault (outcome_of_fault fault) settings texts refl answers

pub claims : (r : Result Made BuildFault) (settings : BuildSettings) (texts : List (List ℕ))
    → ((pair : Pair) → IsAllowedPair pair → EndsAt r (origin_build settings texts).output pair (plain_build pair settings texts))
    → ((offset : ℕ) (x : Form) → IsErrOf r (Cell offset (AForm x)) → (i : ImageRecord) → IsImage i → ¬ ((pair : Pair) → IsAllowedPair pair → IsDone (plain_build pair settings texts).end (λ m used taken. loaded i pair ≡ m.bytes)))
    → ((pair : Pair) (s : RefusedStep) → IsAllowedPair pair → (origin_build settings texts).end ≡ Refused s → Reaches s pair settings.size texts settings.turns (origin_build settings texts).output)
    → IfErr r (λ fault. Claims (outcome_of_fault fault) (settings_in_bytes settings) texts)
claims (Ok made) settings texts ends none reached = tt
claims (Err fault) settings texts ends none reached = claimed fault (outcome_of_fault fault) settings texts refl ends none reached

pub emits : (r : Result Made BuildFault) (settings : BuildSettings) (texts : List (List ℕ)) (old new : Option (List ℕ)) → EmitsAll r old new (origin_build settings texts).output → IfOk r (λ made. Gains old new (build_over_origins (settings_in_bytes settings) texts).output)
emits (Ok made) settings texts old new h = made_gains settings texts old new h
emits (Err fault) settings texts old new h = tt

pub front : (r : Result Made BuildFault) (settings : BuildSettings) (texts : List (List ℕ)) (old new : Option (List ℕ)) → EmitsAll r old new (origin_build settings texts).output → OnErr r (EmitsFront old new (build_over_origins (settings_in_bytes settings) texts).output)
front (Ok made) settings texts old new h = tt
front (Err fault) settings texts old new h = fault_front fault settings texts old new h

pub whole : (r : Result Made BuildFault) (settings : BuildSettings) (texts : List (List ℕ)) (old new : Option (List ℕ)) → EmitsAll r old new (origin_build settings texts).output
    → IfErr r (λ fault. fault ≢ NoMemory → fault ≢ WriteFault → Emits old new (build_over_origins (settings_in_bytes settings) texts).output)
whole (Ok made) settings texts old new h = tt
whole (Err fault) settings texts old new h = λ memory writes. fault_whole fault settings texts old new h memory writes

pub last : (r : Result Made BuildFault) (settings : BuildSettings) (texts : List (List ℕ)) (before now : ℕ) → KeepsLast r before now (origin_build settings texts).output → IfOk r (λ made. now ≡ last_of before (build_over_origins (settings_in_bytes settings) texts).output)
last (Ok made) settings texts before now h = made_last made settings texts before now h
last (Err fault) settings texts before now h = tt

pub last_refused : (r : Result Made BuildFault) (settings : BuildSettings) (texts : List (List ℕ)) (before now : ℕ) → KeepsLast r before now (origin_build settings texts).output
    → IfErr r (λ fault. fault ≢ NoMemory → fault ≢ WriteFault → now ≡ last_of before (build_over_origins (settings_in_bytes settings) texts).output)
last_refused (Ok made) settings texts before now h = tt
last_refused (Err fault) settings texts before now h = λ memory writes. fault_last fault settings texts before now h memory writes
