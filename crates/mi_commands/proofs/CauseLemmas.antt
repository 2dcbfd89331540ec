-- Why each answer comes, from call to call.
use Rattle.std.proofs.Common.{◌≡◌, ℕ, List, Option, None, Some, Err, refl, sym, ap, ◌∙◌, subst, inl, inr}
use Rattle.std.specs.Prelude.{◌⊎◌, IfSome, Result}
use Rattle.mi_model.specs.declared.Form.{Form}
use Rattle.mi_model.specs.declared.Found.{Found}
use Rattle.mi_model.specs.declared.OriginByte.{OriginByte}
use Rattle.mi_model.specs.Build.{BuildEnd}
use Rattle.mi_model.specs.Build.BuildEnd.{Done, Failed, Refused, EntryMissing, Spent as OutOfTurns}
use Rattle.mi_model.specs.Image.{ImageRecord}
use Rattle.mi_model.specs.Explained.{UnexplainedCell, first_unexplained}
use Rattle.mi_outside.specs.Holding.{Holding}
use Rattle.mi_reloc.specs.declared.building.Settings.{Settings as BuildSettings}
use Rattle.mi_reloc.specs.declared.building.BuildFault.{BuildFault}
use Rattle.mi_reloc.specs.declared.building.BuildFault.TheVariants.{Thrown as FaultThrown, Spent as FaultSpent, Step as FaultStep, NoEntry as FaultNoEntry, Cell as FaultCell, WriteFault as FaultWrite, NoMemory as FaultNoMemory}
use Rattle.mi_build.specs.Builds.{origin_build}
use Rattle.mi_build.specs.Faults.{fault_of_end}
use Rattle.mi_build.specs.Made.{Answers, IsDone}
use Rattle.mi_commands.specs.declared.outcome.Outcome.{Outcome}
use Rattle.mi_commands.specs.declared.outcome.Outcome.TheVariants.{Cell}
use Rattle.mi_commands.specs.Settings.{Settings, settings_in_bytes}
use Rattle.mi_commands.specs.Builds.{build_over_origins}
use Rattle.mi_commands.specs.commands.Build.{outcome_of_fault, outcome_undone, outcome_of_cells, outcome_of_end, outcome_of_texts, outcome_of_read, sources_read, contents_of, image_of_texts, image_of_read, image_of_sources}
use Rattle.mi_commands.specs.Causes.{ComesOfTexts, AreRead, ComesOfSources}
use Rattle.mi_commands.specs.Outcomes.{IsFault}

-- a fault that is answered is what the end comes to
told_end : (fault : BuildFault) (size : ℕ) (end : BuildEnd Form OriginByte) → fault_of_end end ≡ Some fault → outcome_of_fault fault ≡ outcome_of_end size end
told_end fault size (Done m used taken) h = let no : ⊥ = cc in absurd no
told_end fault size (Failed f file line) h = sym (ap outcome_undone h)
told_end fault size (Refused step) h = sym (ap outcome_undone h)
told_end fault size EntryMissing h = sym (ap outcome_undone h)
told_end fault size (OutOfTurns budget) h = sym (ap outcome_undone h)

-- so is a cell that no cell of an image gives
cell_end : (offset : ℕ) (found : Found) (size : ℕ) (end : BuildEnd Form OriginByte) → IsDone end (λ m used taken. first_unexplained size m.bytes used ≡ Some (record { offset = offset; found = found })) → Cell offset found ≡ outcome_of_end size end
cell_end offset found size (Done m used taken) h = sym (ap (λ (c : Option UnexplainedCell). outcome_of_cells c used taken) h)
cell_end offset found size (Failed f file line) h = absurd h
cell_end offset found size (Refused step) h = absurd h
cell_end offset found size EntryMissing h = absurd h
cell_end offset found size (OutOfTurns budget) h = absurd h

ends : (fault : BuildFault) (size : ℕ) (end : BuildEnd Form OriginByte) → Answers (Err fault) size end → IsFault (outcome_of_fault fault) ⊎ (outcome_of_fault fault ≡ outcome_of_end size end)
ends (FaultThrown code file line) size end h = inr (told_end (FaultThrown code file line) size end h)
ends (FaultSpent turns) size end h = inr (told_end (FaultSpent turns) size end h)
ends (FaultStep number offset tag first second why file line) size end h = inr (told_end (FaultStep number offset tag first second why file line) size end h)
ends FaultNoEntry size end h = inr (told_end FaultNoEntry size end h)
ends (FaultCell offset found) size end h = inr (cell_end offset found size end h)
ends FaultWrite size end h = inl (inr (inr refl))
ends FaultNoMemory size end h = inl (inl refl)

-- the build has made no image
pub fault_comes : (fault : BuildFault) (outcome : Outcome) (settings : BuildSettings) (texts : List (List ℕ)) → outcome ≡ outcome_of_fault fault → Answers (Err fault) settings.size (origin_build settings texts).end → ComesOfTexts outcome (settings_in_bytes settings) texts
unfolding outcome_of_texts build_over_origins
fault_comes fault outcome settings texts is h =
    subst (λ (o : Outcome). ComesOfTexts o (settings_in_bytes settings) texts) (sym is) (ends fault settings.size (origin_build settings texts).end h)

-- the sources were refused
pub refusal_comes : (outcome : Outcome) (settings : Settings) (sources : List (List ℕ)) (held : Option Holding) → IsFault outcome ⊎ IfSome held (λ old. sources_read (contents_of old sources) ≡ Err outcome) → ComesOfSources outcome settings sources held
refusal_comes outcome settings sources held (inl fault) = inl fault
refusal_comes outcome settings sources None (inr told) = inr tt
refusal_comes outcome settings sources (Some x) (inr told) = inr (sym (ap (λ (r : Result (List (List ℕ)) Outcome). outcome_of_read settings r) told))

-- the sources were read, and their texts refused
pub texts_refused : (outcome : Outcome) (settings : Settings) (sources texts : List (List ℕ)) (held : Option Holding) → AreRead sources texts held → ComesOfTexts outcome settings texts → ComesOfSources outcome settings sources held
texts_refused outcome settings sources texts held read (inl fault) = inl fault
texts_refused outcome settings sources texts None read (inr comes) = inr tt
texts_refused outcome settings sources texts (Some x) read (inr comes) = inr (comes ∙ sym (ap (λ (r : Result (List (List ℕ)) Outcome). outcome_of_read settings r) read))

-- the image of the texts is that of the sources
pub sources_image : (sources texts : List (List ℕ)) (settings : Settings) (image : ImageRecord) (held : Option Holding) → AreRead sources texts held → image_of_texts settings texts ≡ Some image → IfSome held (λ old. image_of_sources settings (contents_of old sources) ≡ Some image)
sources_image sources texts settings image None read h = tt
sources_image sources texts settings image (Some old) read h = ap (λ (r : Result (List (List ℕ)) Outcome). image_of_read settings r) read ∙ h
