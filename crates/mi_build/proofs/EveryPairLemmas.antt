-- One build over origins stands for the fresh plain build at each pair.
use Rattle.std.proofs.Common.{◌≡◌, ℕ, zero, suc, ◌+◌, ◌-◌, ◌≤◌, List, [], ◌∷◌, ◌++◌, length, drop, replicate, Option, None, Some, Result, Ok, Err, IfOk, IfErr, refl, ap, sym, subst, ◌∙◌, append-nil}
use Rattle.mi_model.specs.declared.Fault.{Fault}
use Rattle.mi_model.specs.declared.Fault.TheVariants.{Throw}
use Rattle.mi_model.specs.declared.Form.{Form}
use Rattle.mi_model.specs.declared.Found.{Found}
use Rattle.mi_model.specs.declared.Found.TheVariants.{Form as AForm, Mixed}
use Rattle.mi_model.specs.declared.OriginByte.{OriginByte}
use Rattle.mi_model.specs.declared.OriginByte.TheVariants.{Plain as PlainByte}
use Rattle.mi_model.specs.declared.Pair.{Pair}
use Rattle.mi_model.specs.Ops.{Ops}
use Rattle.mi_model.specs.Machine.{Machine}
use Rattle.mi_model.specs.Kernel.{whole_kernel}
use Rattle.mi_model.specs.Pairs.{IsAllowedPair}
use Rattle.mi_model.specs.Plain.{plain_ops}
use Rattle.mi_model.specs.Forms.{IsSize, value_at}
use Rattle.mi_model.specs.Image.{ImageRecord, IsImage, IsRegionSize, loaded}
use Rattle.mi_model.specs.declared.Kind.TheVariants.{Relocatable}
use Rattle.mi_model.specs.OriginOps.{origin_ops, FormStands, ByteStands}
use Rattle.mi_model.specs.Stands.{Each, MachineStands}
use Rattle.mi_model.specs.Stands.Each.{none, more}
use Rattle.mi_model.specs.Explained.{ImageCell, UnexplainedCell, cell_found_at, or_else, unexplained_from, first_unexplained, image_of}
use Rattle.mi_model.specs.Outcome.{outcome_of}
use Rattle.mi_model.specs.Seed.{blank_machine, seed, at_loop}
use Rattle.mi_model.specs.Build.{Build, BuildEnd, fresh_build, fresh_stop, fresh_emitted, stop_seeded, emitted_seeded, stop_from, emitted_from, end_of, prelude_budget}
use Rattle.mi_model.specs.Build.BuildEnd.{Done, Failed, Refused, EntryMissing, Spent}
use Rattle.mi_model.specs.Agreeing.{BuildAgrees}
use Rattle.mi_model.specs.Agreeing.BuildAgrees.{done, failed, refused, entry_missing, spent}
use Rattle.mi_model.proofs.Builds.{builds_agree}
use Rattle.mi_model.proofs.Each.{each_length, each_drop}
use Rattle.mi_form.proofs.Stand.{origin_stands}
use Rattle.mi_reloc.specs.Cells.{cell_from}
use Rattle.mi_reloc.proofs.NoImage.{found_there}
use Rattle.mi_reloc.specs.declared.building.Made.{Made}
use Rattle.mi_reloc.specs.declared.building.Settings.{Settings}
use Rattle.mi_reloc.specs.declared.building.BuildFault.{BuildFault}
use Rattle.mi_reloc.specs.declared.building.BuildFault.TheVariants.{Thrown, Spent as OutOfTurns, Step, NoEntry, Cell, WriteFault, NoMemory}
use Rattle.mi_machine.specs.Ready.{IsTidy}
use Rattle.mi_build.specs.Builds.{plain_build, origin_build}
use Rattle.mi_build.specs.Faults.{fault_of_end, IsTold}
use Rattle.mi_build.specs.Made.{CellIsTold, IsDone, IsOriginImage, IsSeeded}
use Rattle.mi_build.specs.EveryPair.{EndsAt}

-- a build goes on from the seed's machine
pub built_end : {C B : Type 0} (ops : Ops C B) (size : ℕ) (texts : List (List ℕ)) (entry : Option (List ℕ)) (turns : ℕ) (m : Machine C B)
    → IsSeeded (outcome_of ops (seed whole_kernel) (blank_machine ops size) []) (λ n. m ≡ at_loop ops n)
    → (fresh_build whole_kernel ops size texts entry turns).end ≡ end_of ops texts entry (stop_from whole_kernel ops texts prelude_budget turns m)
unfolding fresh_build fresh_stop
built_end {C} {B} ops size texts entry turns m h = by_seed _ h
  where
    by_seed : (told : Result (Unit {0} × Machine C B) Fault) → IsSeeded told (λ n. m ≡ at_loop ops n)
        → end_of ops texts entry (stop_seeded whole_kernel ops texts prelude_budget turns (blank_machine ops size) told) ≡ end_of ops texts entry (stop_from whole_kernel ops texts prelude_budget turns m)
    by_seed (Ok r) h = ap (λ (n : Machine C B). end_of ops texts entry (stop_from whole_kernel ops texts prelude_budget turns n)) (sym h)
    by_seed (Err f) h = absurd h

pub built_output : {C B : Type 0} (ops : Ops C B) (size : ℕ) (texts : List (List ℕ)) (entry : Option (List ℕ)) (turns : ℕ) (m : Machine C B)
    → IsSeeded (outcome_of ops (seed whole_kernel) (blank_machine ops size) []) (λ n. m ≡ at_loop ops n)
    → (fresh_build whole_kernel ops size texts entry turns).output ≡ emitted_from whole_kernel ops texts prelude_budget turns m
unfolding fresh_build fresh_emitted
built_output {C} {B} ops size texts entry turns m h = by_seed _ h
  where
    by_seed : (told : Result (Unit {0} × Machine C B) Fault) → IsSeeded told (λ n. m ≡ at_loop ops n)
        → emitted_seeded whole_kernel ops texts prelude_budget turns told ≡ emitted_from whole_kernel ops texts prelude_budget turns m
    by_seed (Ok r) h = ap (λ (n : Machine C B). emitted_from whole_kernel ops texts prelude_budget turns n) (sym h)
    by_seed (Err f) h = absurd h

abbrev pub AgreesAt : Pair → Build Form OriginByte → Build ℕ ℕ → Type 0
AgreesAt pair origin plain = BuildAgrees (FormStands pair) (ByteStands pair) origin plain

pub agrees_at : (settings : Settings) (texts : List (List ℕ)) (pair : Pair) → IsRegionSize settings.size → IsAllowedPair pair → AgreesAt pair (origin_build settings texts) (plain_build pair settings texts)
agrees_at settings texts pair region allowed =
    let fits : IsSize settings.size = record { least = region.least; most = region.most } in
    builds_agree (FormStands pair) (ByteStands pair) _ _ (origin_stands settings.size pair fits allowed) whole_kernel settings.size texts _ settings.turns

-- the bytes of a region behind what is in use are 0 at each pair, where they are plain zeros
zeros_stand : (pair : Pair) (n : ℕ) (ys : List ℕ) → Each (ByteStands pair) (replicate n (PlainByte 0)) ys → ys ≡ replicate n 0
zeros_stand pair zero _ none = refl
zeros_stand pair (suc n) _ (more {y = y} {ys = ys} h t) = ap (λ (b : ℕ). b ∷ ys) (sym h) ∙ ap (λ (bs : List ℕ). 0 ∷ bs) (zeros_stand pair n _ t)

pub cleared_at : (size used : ℕ) (pair : Pair) (bytes : List OriginByte) (plain : List ℕ) → IsTidy used (origin_ops size) bytes → Each (ByteStands pair) bytes plain
    → drop used plain ≡ replicate (length plain - used) 0
unfolding origin_ops
cleared_at size used pair bytes plain tidy h =
    let zeros : Each (ByteStands pair) (replicate (length bytes - used) (PlainByte 0)) (drop used plain) = subst (λ (bs : List OriginByte). Each (ByteStands pair) bs (drop used plain)) tidy.cleared (each_drop used h) in
    zeros_stand pair (length bytes - used) (drop used plain) zeros ∙ ap (λ (n : ℕ). replicate (n - used) 0) (each_length h)

-- what is known of an image and a build over origins that is done
pub record IsServedBy (made : Made) (m : Machine Form OriginByte) (used taken : ℕ) : Type 0 where
  pub in_use : used ≡ made.image.used
  pub turns : taken ≡ made.turns
  pub loads : (pair : Pair) (plain : List ℕ) → IsAllowedPair pair → Each (ByteStands pair) m.bytes plain → loaded made.image pair ≡ plain

pub made_at : (made : Made) (pair : Pair) (origin : Build Form OriginByte) (plain : Build ℕ ℕ) → IsAllowedPair pair → AgreesAt pair origin plain → IsDone origin.end (IsServedBy made) → EndsAt (Ok made) origin.output pair plain
made_at made pair _ _ allowed (done used taken out h) s = ((s.loads pair _ allowed h.bytes, s.in_use, s.turns), refl)
made_at made pair _ _ allowed (failed code file line out) s = absurd s
made_at made pair _ _ allowed (entry_missing out) s = absurd s
made_at made pair _ _ allowed (spent budget out) s = absurd s
made_at made pair _ _ allowed (refused step end out rest) s = absurd s

-- the cell that is found first
unexplained_at : (size : ℕ) (bytes : List OriginByte) (count from : ℕ) (u : UnexplainedCell) → unexplained_from size bytes count from ≡ Some u → cell_found_at size bytes u.offset ≡ Err u.found
unexplained_at size bytes zero from u e = absurd (cc)
unexplained_at size bytes (suc count) from u e = by_cell (λ f. unexplained_at size bytes count (from + 8) u f) (cell_found_at size bytes from) refl e
  where
    by_cell : (unexplained_from size bytes count (from + 8) ≡ Some u → cell_found_at size bytes u.offset ≡ Err u.found)
        → (r : Result ImageCell Found) → cell_found_at size bytes from ≡ r → or_else from r (unexplained_from size bytes count (from + 8)) ≡ Some u → cell_found_at size bytes u.offset ≡ Err u.found
    by_cell later (Ok c) is e = later e
    by_cell later (Err found) is e =
        let same : record { offset = from; found = found } ≡ u = cc in
        subst (λ (v : UnexplainedCell). cell_found_at size bytes v.offset ≡ Err v.found) same is

pub cell_unexplained : (size : ℕ) (bytes : List OriginByte) (used offset : ℕ) (found : Found) → first_unexplained size bytes used ≡ Some (record { offset = offset; found = found }) → cell_found_at size bytes offset ≡ Err found
unfolding first_unexplained
cell_unexplained size bytes used offset found e = unexplained_at size bytes _ 0 _ e

pub cell_at : (size offset : ℕ) (found : Found) (pair : Pair) (origin : Build Form OriginByte) (plain : Build ℕ ℕ) → AgreesAt pair origin plain
    → IsDone origin.end (λ m used taken. first_unexplained size m.bytes used ≡ Some (record { offset = offset; found = found })) → EndsAt (Err (Cell offset found)) origin.output pair plain
cell_at size offset (AForm x) pair _ _ (done {m} {n} used taken out h) s = (found_there size m.bytes offset x pair n.bytes (cell_unexplained size m.bytes used offset (AForm x) s) h.bytes, refl)
cell_at size offset Mixed pair _ _ (done used taken out h) s = (tt, refl)
cell_at size offset found pair _ _ (failed code file line out) s = absurd s
cell_at size offset found pair _ _ (entry_missing out) s = absurd s
cell_at size offset found pair _ _ (spent budget out) s = absurd s
cell_at size offset found pair _ _ (refused step end out rest) s = absurd s

-- a build that isn't done ends so at each pair
pub fault_at_pair : (e : BuildFault) (pair : Pair) (origin : Build Form OriginByte) (plain : Build ℕ ℕ) → AgreesAt pair origin plain → IsTold e (fault_of_end origin.end) → EndsAt (Err e) origin.output pair plain
fault_at_pair (Thrown code file line) pair _ _ (failed c f l out) s = (cc, refl)
fault_at_pair (Thrown code file line) pair _ _ (done used taken out h) s = absurd (cc)
fault_at_pair (Thrown code file line) pair _ _ (entry_missing out) s = absurd (cc)
fault_at_pair (Thrown code file line) pair _ _ (spent budget out) s = absurd (cc)
fault_at_pair (Thrown code file line) pair _ _ (refused step end out rest) s = absurd (cc)
fault_at_pair (OutOfTurns turns) pair _ _ (failed c f l out) s = absurd (cc)
fault_at_pair (OutOfTurns turns) pair _ _ (done used taken out h) s = absurd (cc)
fault_at_pair (OutOfTurns turns) pair _ _ (entry_missing out) s = absurd (cc)
fault_at_pair (OutOfTurns turns) pair _ _ (spent budget out) s = (cc, refl)
fault_at_pair (OutOfTurns turns) pair _ _ (refused step end out rest) s = absurd (cc)
fault_at_pair NoEntry pair _ _ (failed c f l out) s = absurd (cc)
fault_at_pair NoEntry pair _ _ (done used taken out h) s = absurd (cc)
fault_at_pair NoEntry pair _ _ (entry_missing out) s = (refl, refl)
fault_at_pair NoEntry pair _ _ (spent budget out) s = absurd (cc)
fault_at_pair NoEntry pair _ _ (refused step end out rest) s = absurd (cc)
fault_at_pair (Step number offset tag a b why file line) pair _ _ (refused step end out rest) s = (rest, refl)
fault_at_pair (Step number offset tag a b why file line) pair _ _ (done used taken out h) s = absurd (cc)
fault_at_pair (Step number offset tag a b why file line) pair _ _ (failed c f l out) s = absurd (cc)
fault_at_pair (Step number offset tag a b why file line) pair _ _ (entry_missing out) s = absurd (cc)
fault_at_pair (Step number offset tag a b why file line) pair _ _ (spent budget out) s = absurd (cc)
fault_at_pair (Cell offset found) pair _ _ h s = absurd s
fault_at_pair WriteFault pair _ _ h s = tt
fault_at_pair NoMemory pair _ _ h s = tt

-- the region of a build that is done
abbrev pub region_of : {C B : Type 0} → BuildEnd C B → List B
region_of (Done m used taken) = m.bytes
region_of (Failed f file line) = []
region_of (Refused step) = []
region_of EntryMissing = []
region_of (Spent budget) = []

pub regions_stand : (pair : Pair) (origin : Build Form OriginByte) (plain : Build ℕ ℕ) (m : Machine Form OriginByte) (used taken : ℕ) → AgreesAt pair origin plain → origin.end ≡ Done m used taken → Each (ByteStands pair) m.bytes (region_of plain.end)
regions_stand pair _ _ m used taken (done {n} u t out h) e =
    let same : _ ≡ m.bytes = ap (λ (end : BuildEnd Form OriginByte). region_of end) e in
    subst (λ (bytes : List OriginByte). Each (ByteStands pair) bytes n.bytes) same h.bytes
regions_stand pair _ _ m used taken (failed code file line out) e = absurd (cc)
regions_stand pair _ _ m used taken (entry_missing out) e = absurd (cc)
regions_stand pair _ _ m used taken (spent budget out) e = absurd (cc)
regions_stand pair _ _ m used taken (refused step end out rest) e = absurd (cc)

pub done_region : (end : BuildEnd ℕ ℕ) (bytes : List ℕ) → IsDone end (λ m used taken. bytes ≡ m.bytes) → bytes ≡ region_of end
done_region (Done m used taken) bytes h = h
done_region (Failed f file line) bytes h = absurd h
done_region (Refused step) bytes h = absurd h
done_region EntryMissing bytes h = absurd h
done_region (Spent budget) bytes h = absurd h

-- the image of a build that is done
pub used_of_image : (size used : ℕ) (bytes : List OriginByte) (image : ImageRecord) → image ≡ image_of size bytes used → used ≡ image.used
unfolding image_of
used_of_image size used bytes image e = sym (ap (λ (r : ImageRecord). r.used) e)

pub kind_of_image : (size used : ℕ) (bytes : List OriginByte) (image : ImageRecord) → image ≡ image_of size bytes used → image.kind ≡ Relocatable
unfolding image_of
kind_of_image size used bytes image e = ap (λ (r : ImageRecord). r.kind) e

abbrev pub IsMade : Made → (size : ℕ) → Machine Form OriginByte → (used turns : ℕ) → Type 0
IsMade made size m used turns = IsOriginImage made size m used turns × IsImage made.image

pub image_kind : (r : Result Made BuildFault) (size : ℕ) (m : Machine Form OriginByte) (used turns : ℕ) → IfOk r (λ made. IsMade made size m used turns) → IfOk r (λ made. IsImage made.image × (made.image.kind ≡ Relocatable))
image_kind (Ok made) size m used turns h = (h.1, kind_of_image size used m.bytes made.image h.0.image)
image_kind (Err e) size m used turns h = tt

abbrev pub Loads : Made → Machine Form OriginByte → (used : ℕ) → Type 0
Loads made m used = (pair : Pair) (plain : List ℕ) → IsAllowedPair pair → Each (ByteStands pair) m.bytes plain → drop used plain ≡ replicate (length plain - used) 0 → loaded made.image pair ≡ plain

pub ends_at : (r : Result Made BuildFault) (size : ℕ) (m : Machine Form OriginByte) (used turns : ℕ) (pair : Pair) (origin : Build Form OriginByte) (plain : Build ℕ ℕ)
    → IsAllowedPair pair → AgreesAt pair origin plain → origin.end ≡ Done m used turns → IsTidy used (origin_ops size) m.bytes
    → IfOk r (λ made. IsMade made size m used turns) → IfErr r (λ e. CellIsTold e (first_unexplained size m.bytes used)) → IfOk r (λ made. Loads made m used)
    → EndsAt r origin.output pair plain
ends_at (Ok made) size m used turns pair origin plain allowed agrees end tidy is cell loads =
    let served : IsServedBy made m used turns = record {
      in_use = used_of_image size used m.bytes made.image is.0.image;
      turns = sym is.0.turns;
      loads = λ pair plain allowed h. loads pair plain allowed h (cleared_at size used pair m.bytes plain tidy h);
    } in
    made_at made pair origin plain allowed agrees (subst (λ (e : BuildEnd Form OriginByte). IsDone e (IsServedBy made)) (sym end) served)
ends_at (Err (Cell offset found)) size m used turns pair origin plain allowed agrees end tidy is cell loads =
    cell_at size offset found pair origin plain agrees (subst (λ (e : BuildEnd Form OriginByte). IsDone e (λ m used taken. first_unexplained size m.bytes used ≡ Some (record { offset = offset; found = found }))) (sym end) cell)
ends_at (Err NoMemory) size m used turns pair origin plain allowed agrees end tidy is cell loads = tt
ends_at (Err (Thrown code file line)) size m used turns pair origin plain allowed agrees end tidy is cell loads = absurd cell
ends_at (Err (OutOfTurns budget)) size m used turns pair origin plain allowed agrees end tidy is cell loads = absurd cell
ends_at (Err (Step number offset tag a b why file line)) size m used turns pair origin plain allowed agrees end tidy is cell loads = absurd cell
ends_at (Err NoEntry) size m used turns pair origin plain allowed agrees end tidy is cell loads = absurd cell
ends_at (Err WriteFault) size m used turns pair origin plain allowed agrees end tidy is cell loads = absurd cell
