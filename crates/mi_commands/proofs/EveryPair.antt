-- What a build over origins answers, as the program says it of the fresh builds at every pair.
use Rattle.std.proofs.Common.{◌≡◌, ℕ, List, Option, Some, Ok, Err, refl, sym, ap, ◌∙◌, subst}
use Rattle.std.specs.Prelude.{Result, IsErrOf}
use Rattle.mi_model.specs.declared.Form.{Form}
use Rattle.mi_model.specs.declared.Found.{Found}
use Rattle.mi_model.specs.declared.Found.TheVariants.{Form as AForm, Mixed}
use Rattle.mi_model.specs.declared.Kind.TheVariants.{Relocatable}
use Rattle.mi_model.specs.declared.OriginByte.{OriginByte}
use Rattle.mi_model.specs.declared.Pair.{Pair}
use Rattle.mi_model.specs.Pairs.{IsAllowedPair}
use Rattle.mi_model.specs.Machine.{Machine}
use Rattle.mi_model.specs.Kernel.{whole_kernel}
use Rattle.mi_model.specs.Plain.{plain_ops}
use Rattle.mi_model.specs.Build.{Build, BuildEnd, RefusedStep}
use Rattle.mi_model.specs.Build.BuildEnd.{Done, Failed, Refused, EntryMissing, Spent}
use Rattle.mi_model.specs.Explained.{UnexplainedCell, image_of}
use Rattle.mi_model.specs.Image.{ImageRecord, IsImage, loaded}
use Rattle.mi_model.specs.Run.{run}
use Rattle.mi_reloc.specs.declared.building.Settings.{Settings as BuildSettings}
use Rattle.mi_reloc.specs.declared.building.Made.{Made}
use Rattle.mi_reloc.specs.declared.building.BuildFault.{BuildFault}
use Rattle.mi_reloc.specs.declared.building.BuildFault.TheVariants.{Thrown as FaultThrown, Spent as FaultSpent, Step as FaultStep, NoEntry as FaultNoEntry, Cell as FaultCell, WriteFault as FaultWrite, NoMemory as FaultNoMemory}
use Rattle.mi_build.specs.Builds.{origin_build, plain_build}
use Rattle.mi_build.specs.EveryPair.{EndsAt}
use Rattle.mi_build.specs.Made.{Answers, IsDone, IsOriginImage}
use Rattle.mi_build.specs.Reached.{Reaches}
use Rattle.mi_run.specs.Ending.{run_of}
use Rattle.mi_commands.specs.declared.outcome.Outcome.{Outcome}
use Rattle.mi_commands.specs.declared.outcome.Outcome.TheVariants.{Built, Cell}
use Rattle.mi_commands.specs.Settings.{settings_in_bytes}
use Rattle.mi_commands.specs.Builds.{build_at, build_over_origins}
use Rattle.mi_commands.specs.Contract.{ServesAt, ServesEveryPair}
use Rattle.mi_commands.specs.Claims.{HoldsAt, Claims}
use Rattle.mi_commands.specs.commands.Build.{outcome_of_fault, outcome_of_cells, outcome_of_end, outcome_of_texts, image_of_cells, image_of_end, image_of_texts}

-- what follows on a machine that is done
is_done_so : {C B : Type 0} (end : BuildEnd C B) (P Q : Machine C B → ℕ → ℕ → Type 0) → ((m : Machine C B) (u t : ℕ) → P m u t → Q m u t) → IsDone end P → IsDone end Q
is_done_so (Done m u t) P Q step h = step m u t h
is_done_so (Failed f file line) P Q step h = h
is_done_so (Refused s) P Q step h = h
is_done_so EntryMissing P Q step h = h
is_done_so (Spent budget) P Q step h = h

size_of_image : (size : ℕ) (bytes : List OriginByte) (used : ℕ) → (image_of size bytes used).size ≡ size
unfolding image_of
size_of_image size bytes used = refl

used_of_image : (size : ℕ) (bytes : List OriginByte) (used : ℕ) → (image_of size bytes used).used ≡ used
unfolding image_of
used_of_image size bytes used = refl

image_size : (made : Made) (size : ℕ) (end : BuildEnd Form OriginByte) → IsDone end (IsOriginImage made size) → made.image.size ≡ size
image_size made size (Done m used taken) h = ap (λ (r : ImageRecord). r.size) h.image ∙ size_of_image size m.bytes used
image_size made size (Failed f file line) h = absurd h
image_size made size (Refused s) h = absurd h
image_size made size EntryMissing h = absurd h
image_size made size (Spent budget) h = absurd h

-- a run of the loaded image is a run of the same region
same_run : (image : ImageRecord) (pair : Pair) (size : ℕ) (bytes : List ℕ) → image.size ≡ size → loaded image pair ≡ bytes → (input : List ℕ) (n : ℕ) → run_of image pair input n ≡ run whole_kernel (plain_ops pair size) bytes input n
same_run image pair size bytes same region input n =
    ap (λ (s : ℕ). run whole_kernel (plain_ops pair s) (loaded image pair) input n) same ∙ ap (λ (b : List ℕ). run whole_kernel (plain_ops pair size) b input n) region

serves_at : (made : Made) (settings : BuildSettings) (texts : List (List ℕ)) (pair : Pair) → made.image.size ≡ settings.size → EndsAt (Ok made) (origin_build settings texts).output pair (plain_build pair settings texts)
    → ServesAt made.image made.image.used made.turns (settings_in_bytes settings) texts pair
unfolding build_at build_over_origins
serves_at made settings texts pair same h =
    record {
      region = h.0;
      runs = is_done_so (plain_build pair settings texts).end _ _ (λ m u t k. same_run made.image pair settings.size m.bytes same k.0) h.0;
      emits = h.1;
    }

-- the image that was made serves the texts at every pair
pub served : (made : Made) (settings : BuildSettings) (texts : List (List ℕ)) → Answers (Ok made) settings.size (origin_build settings texts).end → IsImage made.image × (made.image.kind ≡ Relocatable)
    → ((pair : Pair) → IsAllowedPair pair → EndsAt (Ok made) (origin_build settings texts).output pair (plain_build pair settings texts))
    → ServesEveryPair made.image made.image.used made.turns (settings_in_bytes settings) texts
served made settings texts answers image ends =
    let same : made.image.size ≡ settings.size = image_size made settings.size (origin_build settings texts).end answers in
    record {
      within_limits = image.0;
      relocatable = image.1;
      size = same;
      in_use = refl;
      every_pair = λ pair allowed. serves_at made settings texts pair same (ends pair allowed);
    }

built_end : (made : Made) (size : ℕ) (end : BuildEnd Form OriginByte) → IsDone end (IsOriginImage made size) → outcome_of_end size end ≡ Built made.image.used made.turns
built_end made size (Done m used taken) h =
    let same : made.image.used ≡ used = ap (λ (r : ImageRecord). r.used) h.image ∙ used_of_image size m.bytes used in
    ap (λ (c : Option UnexplainedCell). outcome_of_cells c used taken) h.explained ∙ (ap (λ (n : ℕ). Built n taken) (sym same) ∙ ap (λ (n : ℕ). Built made.image.used n) (sym h.turns))
built_end made size (Failed f file line) h = absurd h
built_end made size (Refused s) h = absurd h
built_end made size EntryMissing h = absurd h
built_end made size (Spent budget) h = absurd h

imaged_end : (made : Made) (size : ℕ) (end : BuildEnd Form OriginByte) → IsDone end (IsOriginImage made size) → image_of_end size end ≡ Some made.image
imaged_end made size (Done m used taken) h = ap (λ (c : Option UnexplainedCell). image_of_cells c (image_of size m.bytes used)) h.explained ∙ ap (λ (r : ImageRecord). Some r) (sym h.image)
imaged_end made size (Failed f file line) h = absurd h
imaged_end made size (Refused s) h = absurd h
imaged_end made size EntryMissing h = absurd h
imaged_end made size (Spent budget) h = absurd h

-- and that is what the texts come to
pub built : (made : Made) (settings : BuildSettings) (texts : List (List ℕ)) → Answers (Ok made) settings.size (origin_build settings texts).end → outcome_of_texts (settings_in_bytes settings) texts ≡ Built made.image.used made.turns
unfolding outcome_of_texts build_over_origins
built made settings texts answers = built_end made settings.size (origin_build settings texts).end answers

-- and the image is the one that they make
pub imaged : (made : Made) (settings : BuildSettings) (texts : List (List ℕ)) → Answers (Ok made) settings.size (origin_build settings texts).end → image_of_texts (settings_in_bytes settings) texts ≡ Some made.image
unfolding image_of_texts build_over_origins
imaged made settings texts answers = imaged_end made settings.size (origin_build settings texts).end answers

holds_of_cell : (offset : ℕ) (found : Found) (output : List ℕ) (pair : Pair) (build : Build ℕ ℕ) → EndsAt (Err (FaultCell offset found)) output pair build → HoldsAt (Cell offset found) output pair build
holds_of_cell offset (AForm x) output pair build h = h
holds_of_cell offset Mixed output pair build h = h

-- how the fresh build ends, told by the outcome
holds : (fault : BuildFault) (output : List ℕ) (pair : Pair) (build : Build ℕ ℕ) → EndsAt (Err fault) output pair build → HoldsAt (outcome_of_fault fault) output pair build
holds (FaultThrown code file line) output pair build h = h
holds (FaultSpent turns) output pair build h = h
holds (FaultStep number offset tag first second why file line) output pair build h = h
holds FaultNoEntry output pair build h = h
holds (FaultCell offset found) output pair build h = holds_of_cell offset found output pair build h
holds FaultWrite output pair build h = tt
holds FaultNoMemory output pair build h = tt

cell_of : (fault : BuildFault) (offset : ℕ) (found : Found) → outcome_of_fault fault ≡ Cell offset found → fault ≡ FaultCell offset found
cell_of (FaultThrown code file line) offset found e = let no : ⊥ = cc in absurd no
cell_of (FaultSpent turns) offset found e = let no : ⊥ = cc in absurd no
cell_of (FaultStep number at tag first second why file line) offset found e = let no : ⊥ = cc in absurd no
cell_of FaultNoEntry offset found e = let no : ⊥ = cc in absurd no
cell_of (FaultCell o f) offset found e = cc
cell_of FaultWrite offset found e = let no : ⊥ = cc in absurd no
cell_of FaultNoMemory offset found e = let no : ⊥ = cc in absurd no

abbrev failed : BuildFault → Result Made BuildFault
failed fault = Err fault

-- the claims of a fault
pub claimed : (fault : BuildFault) (outcome : Outcome) (settings : BuildSettings) (texts : List (List ℕ)) → outcome ≡ outcome_of_fault fault
    → ((pair : Pair) → IsAllowedPair pair → EndsAt (Err fault) (origin_build settings texts).output pair (plain_build pair settings texts))
    → ((offset : ℕ) (x : Form) → IsErrOf (failed fault) (FaultCell offset (AForm x)) → (r : ImageRecord) → IsImage r → ¬ ((pair : Pair) → IsAllowedPair pair → IsDone (plain_build pair settings texts).end (λ m used taken. loaded r pair ≡ m.bytes)))
    → ((pair : Pair) (s : RefusedStep) → IsAllowedPair pair → (origin_build settings texts).end ≡ Refused s → Reaches s pair settings.size texts settings.turns (origin_build settings texts).output)
    → Claims outcome (settings_in_bytes settings) texts
unfolding build_at build_over_origins
claimed fault outcome settings texts is ends none reached =
    record {
      every_pair = λ pair allowed. subst (λ (o : Outcome). HoldsAt o (origin_build settings texts).output pair (plain_build pair settings texts)) (sym is) (holds fault (origin_build settings texts).output pair (plain_build pair settings texts) (ends pair allowed));
      no_image = λ offset x e r image gives. none offset x (ap failed (cell_of fault offset (AForm x) (sym is ∙ e))) r image gives;
      reached = λ s pair allowed e refused. reached pair s allowed refused;
    }
