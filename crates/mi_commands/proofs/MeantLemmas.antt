-- A call does what its words mean, by what its parts say.
use Rattle.std.proofs.Common.{◌≡◌, ◌≢◌, ◌≤◌, ◌<◌, ℕ, Bool, true, false, List, [], ◌∷◌, ◌++◌, Option, None, Some, Ok, Err, refl, sym, ap, ◌∙◌, subst, arith, length, inl, inr}
use Rattle.std.specs.Prelude.{◌⊎◌, ◌+◌, cond, nat_lt, IfSome, IsSomeAnd, IfErr, Result, option_map}
use Rattle.mi_model.specs.declared.Form.{Form}
use Rattle.mi_model.specs.declared.OriginByte.{OriginByte}
use Rattle.mi_model.specs.Build.{BuildEnd}
use Rattle.mi_model.specs.Build.BuildEnd.{Done as BuildDone, Failed, Refused, EntryMissing, Spent as OutOfTurns}
use Rattle.mi_model.specs.Explained.{UnexplainedCell, first_unexplained, image_of}
use Rattle.mi_model.specs.Image.{ImageRecord}
use Rattle.mi_outside.specs.Causes.{Rose}
use Rattle.mi_outside.specs.Holding.{Holding, SameFiles}
use Rattle.mi_outside.specs.Telling.{IfStillTold}
use Rattle.mi_outside.specs.Written.{Emits, EmitsFront}
use Rattle.mi_outside.proofs.Writing.{front_none}
use Rattle.mi_commands.specs.declared.outcome.Outcome.{Outcome}
use Rattle.mi_commands.specs.declared.outcome.Outcome.TheVariants.{Built, Done, NoMemory, Usage, ReadFault, NoFile, WriteFault, TooManySources, SourceTooLong}
use Rattle.mi_commands.specs.declared.command_line.RunSettings.{RunSettings}
use Rattle.mi_commands.specs.Answered.{usage_meant, build_told, run_told, IsAnswered}
use Rattle.mi_commands.specs.Builds.{build_over_origins}
use Rattle.mi_commands.specs.Causes.{ComesOfSources, ComesOfRun}
use Rattle.mi_commands.specs.Claims.{ClaimsOfSources}
use Rattle.mi_commands.specs.Command.{build_of}
use Rattle.mi_commands.specs.Command.Command.{Build, Run}
use Rattle.mi_commands.specs.commands.Build.{contents_of, read_from, with_text, sources_read, outcome_of_cells, outcome_of_end, outcome_of_texts, outcome_of_read, outcome_of_sources, output_of_sources, image_of_cells, image_of_end, image_of_texts, image_of_read, image_of_sources, build_bytes, file_of, build_meant}
use Rattle.mi_commands.specs.commands.Run.{ending_of_file, run_bytes, run_meant, FailsToRead}
use Rattle.mi_commands.specs.Contract.{IsBuilt, KeepsFiles, built_of, BuildsOrKeeps}
use Rattle.mi_commands.specs.Limits.{source_limit, source_count}
use Rattle.mi_commands.specs.Meant.{Meant, StoredFile, bytes_of, Stores, DoesAll, HasFailed, Does}
use Rattle.mi_commands.specs.Outcomes.{status_of, IsFault}
use Rattle.mi_commands.specs.Output.{WritesFronts, AddsLines}
use Rattle.mi_commands.specs.Outside.{Outside, outside_of}
use Rattle.mi_commands.specs.Possible.{BuildMayEnd, RunMayEnd}
use Rattle.mi_commands.specs.Report.{report_of}
use Rattle.mi_commands.specs.Settings.{Settings}
use Rattle.mi_commands.specs.Writing.{part_of, LeavesNoPart}
use Rattle.mi_commands.proofs.OutputLemmas.{front_alone, fronts}
use Rattle.mi_commands.proofs.PartLemmas.{part_untouched}
use Rattle.mi_commands.proofs.PossibleLemmas.{texts_possible}
use Rattle.mi_commands.proofs.RunOutput.{reported, with_nothing}
use Rattle.mi_commands.proofs.ClaimLemmas.{refusal_claims}

same_files : (held : Option Holding) → IfStillTold held held SameFiles
same_files None = tt
same_files (Some x) = λ name. refl

-- words that are no command
usage_done : (held : Option Holding) (files : ℕ) (left : Option (List ℕ)) (input : ℕ) (a b : Option (List ℕ)) (before after : ℕ) → EmitsFront a b (report_of [] [] Usage) → ((Rose before after → ⊥) → Emits a b (report_of [] [] Usage))
    → Does usage_meant Usage (outside_of held files left input a before) (outside_of held files left input b after)
usage_done held files left input a b before after front whole =
    let bytes : bytes_of usage_meant ≡ report_of [] [] Usage = with_nothing (report_of [] [] Usage) in
    record {
      answered = inr refl;
      succeeded = λ zero. let no : ⊥ = cc in absurd no;
      unfailed = λ memory calm. record {
        answered = refl;
        written = subst (λ (xs : List ℕ). Emits a b xs) (sym bytes) (whole (λ rose. calm (inr (inl rose))));
        stored = same_files held;
      };
      front = front_alone a b (bytes_of usage_meant) (report_of [] [] Usage) (subst (λ (xs : List ℕ). EmitsFront a b xs) (sym bytes) front);
    }

pub usage_answered : (result : Outcome) (held : Option Holding) (files : ℕ) (left : Option (List ℕ)) (input : ℕ) (a b : Option (List ℕ)) (before after : ℕ) → result ≡ Usage → EmitsFront a b (report_of [] [] Usage) → ((Rose before after → ⊥) → Emits a b (report_of [] [] Usage))
    → IsAnswered None result (outside_of held files left input a before) (outside_of held files left input b after)
usage_answered result held files left input a b before after is front whole =
    subst (λ (o : Outcome). IsAnswered None o (outside_of held files left input a before) (outside_of held files left input b after)) (sym is) (record {
      does = usage_done held files left input a b before after front whole;
      possible = refl;
      files = same_files held;
      claims = tt;
      part = λ calm. tt;
      read_fault = λ e. let no : ⊥ = cc in absurd no;
      write_fault = λ e. let no : ⊥ = cc in absurd no;
      stops = tt;
      usage = front;
    })

-- faults
fault_fails : (outcome : Outcome) → IsFault outcome → status_of outcome ≡ 0 → ⊥
fault_fails outcome (inl e) zero = let one : status_of NoMemory ≡ 0 = subst (λ (o : Outcome). status_of o ≡ 0) e zero in let no : ⊥ = cc in no
fault_fails outcome (inr (inl e)) zero = let one : status_of ReadFault ≡ 0 = subst (λ (o : Outcome). status_of o ≡ 0) e zero in let no : ⊥ = cc in no
fault_fails outcome (inr (inr e)) zero = let one : status_of WriteFault ≡ 0 = subst (λ (o : Outcome). status_of o ≡ 0) e zero in let no : ⊥ = cc in no

succeeds : {A : Type 0} (outcome : Outcome) → IsFault outcome ⊎ A → status_of outcome ≡ 0 → A
succeeds outcome (inl fault) zero = absurd (fault_fails outcome fault zero)
succeeds outcome (inr h) zero = h

unfailed_is : {A : Type 0} (outcome : Outcome) → IsFault outcome ⊎ A → outcome ≢ NoMemory → outcome ≢ ReadFault → outcome ≢ WriteFault → A
unfailed_is outcome (inl (inl e)) memory reads writes = absurd (memory e)
unfailed_is outcome (inl (inr (inl e))) memory reads writes = absurd (reads e)
unfailed_is outcome (inl (inr (inr e))) memory reads writes = absurd (writes e)
unfailed_is outcome (inr h) memory reads writes = h

-- the outcome of a build is never that a run is done
with_text_ends : (text : List ℕ) (r : Result (List (List ℕ)) Outcome) → IfErr r (λ o. o ≢ Done) → IfErr (with_text text r) (λ o. o ≢ Done)
with_text_ends text (Ok texts) h = tt
with_text_ends text (Err o) h = h

read_or_long : (long : Bool) (file : ℕ) (text : List ℕ) (r : Result (List (List ℕ)) Outcome) → IfErr r (λ o. o ≢ Done) → IfErr (cond long (Err (SourceTooLong file)) (with_text text r)) (λ o. o ≢ Done)
read_or_long true file text r h = λ e. let no : ⊥ = cc in no
read_or_long false file text r h = with_text_ends text r h

from_ends : (file : ℕ) (contents : List (Option (List ℕ))) → IfErr (read_from file contents) (λ o. o ≢ Done)
from_ends file [] = tt
from_ends file (None ∷ contents) = λ e. let no : ⊥ = cc in no
from_ends file (Some text ∷ contents) = read_or_long (nat_lt source_limit (length text)) file text (read_from (file + 1) contents) (from_ends (file + 1) contents)

many_or_read : (many : Bool) (count : ℕ) (r : Result (List (List ℕ)) Outcome) → IfErr r (λ o. o ≢ Done) → IfErr (cond many (Err (TooManySources count)) r) (λ o. o ≢ Done)
many_or_read true count r h = λ e. let no : ⊥ = cc in no
many_or_read false count r h = h

read_ends : (contents : List (Option (List ℕ))) → IfErr (sources_read contents) (λ o. o ≢ Done)
read_ends contents = many_or_read (nat_lt source_count (length contents)) (length contents) (read_from 1 contents) (from_ends 1 contents)

texts_end : (settings : Settings) (texts : List (List ℕ)) → outcome_of_texts settings texts ≢ Done
texts_end settings texts e = subst (λ (o : Outcome). BuildMayEnd o 0) e (texts_possible settings texts 0 (omega arith))

sources_end : (settings : Settings) (r : Result (List (List ℕ)) Outcome) → IfErr r (λ o. o ≢ Done) → outcome_of_read settings r ≢ Done
sources_end settings (Ok texts) h = texts_end settings texts
sources_end settings (Err o) h = h

-- what it writes
same_bytes : (out : List ℕ) (sources : List (List ℕ)) (settings : Settings) (contents : List (Option (List ℕ))) → bytes_of (build_meant out sources settings contents) ≡ build_bytes out sources settings contents
same_bytes out sources settings contents =
    reported out sources (output_of_sources settings contents) (outcome_of_sources settings contents) (sources_end settings (sources_read contents) (read_ends contents))

-- no image is made where the outcome is another
no_cells : (c : Option UnexplainedCell) (image : ImageRecord) (used turns : ℕ) → built_of (outcome_of_cells c used turns) ≡ None → image_of_cells c image ≡ None
no_cells None image used turns h = let no : ⊥ = cc in absurd no
no_cells (Some c) image used turns h = refl

no_end : (size : ℕ) (end : BuildEnd Form OriginByte) → built_of (outcome_of_end size end) ≡ None → image_of_end size end ≡ None
no_end size (BuildDone m used turns) h = no_cells (first_unexplained size m.bytes used) (image_of size m.bytes used) used turns h
no_end size (Failed fault file line) h = refl
no_end size (Refused step) h = refl
no_end size EntryMissing h = refl
no_end size (OutOfTurns budget) h = refl

no_texts : (settings : Settings) (texts : List (List ℕ)) → built_of (outcome_of_texts settings texts) ≡ None → image_of_texts settings texts ≡ None
unfolding outcome_of_texts image_of_texts
no_texts settings texts h = no_end settings.size (build_over_origins settings texts).end h

no_image : (settings : Settings) (r : Result (List (List ℕ)) Outcome) → built_of (outcome_of_read settings r) ≡ None → image_of_read settings r ≡ None
no_image settings (Ok texts) h = no_texts settings texts h
no_image settings (Err o) h = refl

-- an image was built
stored_built : (out : List ℕ) (sources : List (List ℕ)) (settings : Settings) (b : ℕ × ℕ) (outcome : Outcome) (x : Holding) (after : Option Holding) (a c : Option (List ℕ)) → BuildsOrKeeps (Some b) outcome out sources settings (Some x) after a c
    → Stores (build_meant out sources settings (contents_of x sources)).stored (Some x) after
stored_built out sources settings b outcome x after a c h =
    let built : IsBuilt out sources h.0 settings h.1 b.0 b.1 (Some x) after a c = h.2 in
    subst (λ (f : Option StoredFile). Stores f (Some x) after) (sym (ap (λ (i : Option ImageRecord). option_map (file_of out) i) built.of_sources)) built.stored

stored_kept : (out : List ℕ) (sources : List (List ℕ)) (settings : Settings) (outcome : Outcome) (x : Holding) (after : Option Holding) → outcome ≡ outcome_of_sources settings (contents_of x sources) → built_of outcome ≡ None
    → IfStillTold (Some x) after SameFiles → Stores (build_meant out sources settings (contents_of x sources)).stored (Some x) after
stored_kept out sources settings outcome x after is unbuilt same =
    let none : image_of_sources settings (contents_of x sources) ≡ None = no_image settings (sources_read (contents_of x sources)) (ap built_of (sym is) ∙ unbuilt) in
    subst (λ (f : Option StoredFile). Stores f (Some x) after) (sym (ap (λ (i : Option ImageRecord). option_map (file_of out) i) none)) same

stored_either : (out : List ℕ) (sources : List (List ℕ)) (settings : Settings) (built : Option (ℕ × ℕ)) (outcome : Outcome) (x : Holding) (after : Option Holding) (a c : Option (List ℕ)) → built_of outcome ≡ built → outcome ≡ outcome_of_sources settings (contents_of x sources)
    → outcome ≢ NoMemory → outcome ≢ WriteFault → BuildsOrKeeps built outcome out sources settings (Some x) after a c → Stores (build_meant out sources settings (contents_of x sources)).stored (Some x) after
stored_either out sources settings (Some b) outcome x after a c of is memory writes h = stored_built out sources settings b outcome x after a c h
stored_either out sources settings None outcome x after a c of is memory writes h = stored_kept out sources settings outcome x after is of (h.part memory writes)

not_memory : (outcome : Outcome) → status_of outcome ≡ 0 → outcome ≢ NoMemory
not_memory outcome zero e = fault_fails outcome (inl e) zero

not_write : (outcome : Outcome) → status_of outcome ≡ 0 → outcome ≢ WriteFault
not_write outcome zero e = fault_fails outcome (inr (inr e)) zero

-- a build, where the files tell
build_does : (out : List ℕ) (sources : List (List ℕ)) (settings : Settings) (result : Outcome) (held after : Option Holding) (files files_now : ℕ) (left : Option (List ℕ)) (input : ℕ) (a c : Option (List ℕ)) (output output_now : ℕ)
    → ComesOfSources result settings sources held → BuildsOrKeeps (built_of result) result out sources settings held after a c
    → IfSome held (λ old. WritesFronts a c (build_bytes out sources settings (contents_of old sources)) (report_of out sources result))
    → (result ≢ NoMemory → (Rose files files_now → ⊥) → (Rose output output_now → ⊥) → IfSome held (λ old. Emits a c (build_bytes out sources settings (contents_of old sources))))
    → (status_of result ≡ 0 → IfSome held (λ old. Emits a c (build_bytes out sources settings (contents_of old sources))))
    → (result ≡ ReadFault → Rose files files_now) → (result ≡ WriteFault → Rose files files_now ⊎ Rose output output_now)
    → IfSome (build_told out sources settings held) (λ meant. Does meant result (outside_of held files left input a output) (outside_of after files_now left input c output_now))
build_does out sources settings result None after files files_now left input a c output output_now cause does writes all written reads fails = tt
build_does out sources settings result (Some x) after files files_now left input a c output output_now cause does writes all written reads fails =
    let contents = contents_of x sources in
    let meant = build_meant out sources settings contents in
    let bytes : bytes_of meant ≡ build_bytes out sources settings contents = same_bytes out sources settings contents in
    record {
      answered = cause;
      succeeded = λ zero. let is : result ≡ outcome_of_sources settings contents = succeeds result cause zero in record {
        answered = is;
        written = subst (λ (xs : List ℕ). Emits a c xs) (sym bytes) (written zero);
        stored = stored_either out sources settings (built_of result) result x after a c refl is (not_memory result zero) (not_write result zero) does;
      };
      unfailed = λ memory calm.
          let no_read : result ≢ ReadFault = λ e. calm (inl (reads e)) in
          let no_write : result ≢ WriteFault = λ e. elim (fails e) [
            | inl rose ↦ calm (inl rose)
            | inr rose ↦ calm (inr (inl rose))
          ] in
          let is : result ≡ outcome_of_sources settings contents = unfailed_is result cause memory no_read no_write in record {
            answered = is;
            written = subst (λ (xs : List ℕ). Emits a c xs) (sym bytes) (all memory (λ rose. calm (inl rose)) (λ rose. calm (inr (inl rose))));
            stored = stored_either out sources settings (built_of result) result x after a c refl is memory no_write does;
          };
      front = subst (λ (xs : List ℕ). WritesFronts a c xs (report_of out sources result)) (sym bytes) writes;
    }

pub build_answered : (out : List ℕ) (sources : List (List ℕ)) (settings : Settings) (result : Outcome) (held after : Option Holding) (files files_now : ℕ) (left : Option (List ℕ)) (input : ℕ) (a c : Option (List ℕ)) (output output_now : ℕ)
    → ComesOfSources result settings sources held → BuildMayEnd result (length sources) → BuildsOrKeeps (built_of result) result out sources settings held after a c
    → ((Rose files files_now → ⊥) → IfStillTold held after (LeavesNoPart (part_of out))) → ClaimsOfSources result settings sources held
    → IfSome held (λ old. WritesFronts a c (build_bytes out sources settings (contents_of old sources)) (report_of out sources result))
    → (result ≢ NoMemory → (Rose files files_now → ⊥) → (Rose output output_now → ⊥) → IfSome held (λ old. Emits a c (build_bytes out sources settings (contents_of old sources))))
    → (status_of result ≡ 0 → IfSome held (λ old. Emits a c (build_bytes out sources settings (contents_of old sources))))
    → (result ≡ ReadFault → Rose files files_now) → (result ≡ WriteFault → Rose files files_now ⊎ Rose output output_now)
    → IsAnswered (Some (Build out sources settings)) result (outside_of held files left input a output) (outside_of after files_now left input c output_now)
build_answered out sources settings result held after files files_now left input a c output output_now cause possible does part claims writes all written reads fails =
    record {
      does = build_does out sources settings result held after files files_now left input a c output output_now cause does writes all written reads fails;
      possible = possible;
      files = does;
      claims = claims;
      part = part;
      read_fault = reads;
      write_fault = fails;
      stops = tt;
      usage = tt;
    }

-- memory was refused before a file was read
kept : (out : List ℕ) (held : Option Holding) → KeepsFiles NoMemory out held held
kept out None = record { others = tt; part = λ m w. tt }
kept out (Some x) = record { others = λ name differs. refl; part = λ m w. absurd (m refl) }

no_memory_front : (out : List ℕ) (sources : List (List ℕ)) (settings : Settings) (held : Option Holding) (a b : Option (List ℕ)) → EmitsFront a b (report_of [] [] NoMemory)
    → IfSome held (λ old. WritesFronts a b (build_bytes out sources settings (contents_of old sources)) (report_of out sources NoMemory))
no_memory_front out sources settings None a b h = tt
no_memory_front out sources settings (Some x) a b h = fronts a a b _ _ (front_none a _) h

no_memory_answered : (out : List ℕ) (sources : List (List ℕ)) (settings : Settings) (held : Option Holding) (files : ℕ) (left : Option (List ℕ)) (input : ℕ) (a b : Option (List ℕ)) (output output_now : ℕ) → EmitsFront a b (report_of [] [] NoMemory)
    → IsAnswered (Some (Build out sources settings)) NoMemory (outside_of held files left input a output) (outside_of held files left input b output_now)
no_memory_answered out sources settings held files left input a b output output_now front =
    build_answered out sources settings NoMemory held held files files left input a b output output_now (inl (inl refl)) tt (kept out held)
    (λ calm. part_untouched (part_of out) held) (refusal_claims NoMemory settings sources held (inl (inl refl))) (no_memory_front out sources settings held a b front)
    (λ memory. absurd (memory refl)) (λ zero. let no : ⊥ = cc in absurd no) (λ e. let no : ⊥ = cc in absurd no) (λ e. let no : ⊥ = cc in absurd no)

memory_named : (words : List (List ℕ)) (settings : Settings) (held : Option Holding) (files : ℕ) (left : Option (List ℕ)) (input : ℕ) (a b : Option (List ℕ)) (output output_now : ℕ) → 2 ≤ length words → EmitsFront a b (report_of [] [] NoMemory)
    → IsAnswered (build_of words settings) NoMemory (outside_of held files left input a output) (outside_of held files left input b output_now)
memory_named [] settings held files left input a b output output_now enough front = absurd (omega (arith, enough))
memory_named (out ∷ []) settings held files left input a b output output_now enough front = absurd (omega (arith, enough))
memory_named (out ∷ (source ∷ sources)) settings held files left input a b output output_now enough front = no_memory_answered out (source ∷ sources) settings held files left input a b output output_now front

pub memory_refused : (words : List (List ℕ)) (settings : Settings) (result : Outcome) (held : Option Holding) (files : ℕ) (left : Option (List ℕ)) (input : ℕ) (a b : Option (List ℕ)) (output output_now : ℕ) → 2 ≤ length words → result ≡ NoMemory → EmitsFront a b (report_of [] [] NoMemory)
    → IsAnswered (build_of words settings) result (outside_of held files left input a output) (outside_of held files left input b output_now)
memory_refused words settings result held files left input a b output output_now enough is front =
    subst (λ (o : Outcome). IsAnswered (build_of words settings) o (outside_of held files left input a output) (outside_of held files left input b output_now)) (sym is)
    (memory_named words settings held files left input a b output output_now enough front)

-- a run, where files and input tell
run_does : (name : List ℕ) (settings : RunSettings) (result : Outcome) (held after : Option Holding) (files files_now : ℕ) (left left_now : Option (List ℕ)) (input input_now : ℕ) (a c : Option (List ℕ)) (output output_now : ℕ)
    → ComesOfRun result settings name held left → IfStillTold held after SameFiles
    → IfSome held (λ old. IfSome left (λ text. IfStillTold a c (AddsLines (run_bytes name (ending_of_file settings (old.file name) text)) (report_of [] (name ∷ []) result))))
    → (result ≢ NoMemory → (Rose files files_now → ⊥) → (Rose output output_now → ⊥) → (Rose input input_now → ⊥) → IfSome held (λ old. IfSome left (λ text. Emits a c (run_bytes name (ending_of_file settings (old.file name) text)))))
    → (status_of result ≡ 0 → IfSome held (λ old. IfSome left (λ text. Emits a c (run_bytes name (ending_of_file settings (old.file name) text)))))
    → (result ≡ ReadFault → Rose files files_now ⊎ Rose input input_now) → (result ≡ WriteFault → Rose output output_now)
    → IfSome (run_told name settings held left) (λ meant. Does meant result (outside_of held files left input a output) (outside_of after files_now left_now input_now c output_now))
run_does name settings result None after files files_now left left_now input input_now a c output output_now cause same writes all written reads fails = tt
run_does name settings result (Some x) after files files_now None left_now input input_now a c output output_now cause same writes all written reads fails = tt
run_does name settings result (Some x) after files files_now (Some text) left_now input input_now a c output output_now cause same writes all written reads fails =
    record {
      answered = cause;
      succeeded = λ zero. record { answered = succeeds result cause zero; written = written zero; stored = same };
      unfailed = λ memory calm.
          let no_read : result ≢ ReadFault = λ e. elim (reads e) [
            | inl rose ↦ calm (inl rose)
            | inr rose ↦ calm (inr (inr (refl, rose)))
          ] in
          let no_write : result ≢ WriteFault = λ e. calm (inr (inl (fails e))) in record {
            answered = unfailed_is result cause memory no_read no_write;
            written = all memory (λ rose. calm (inl rose)) (λ rose. calm (inr (inl rose))) (λ rose. calm (inr (inr (refl, rose))));
            stored = same;
          };
      front = writes;
    }

pub run_answered : (name : List ℕ) (settings : RunSettings) (result : Outcome) (held after : Option Holding) (files files_now : ℕ) (left left_now : Option (List ℕ)) (input input_now : ℕ) (a c : Option (List ℕ)) (output output_now : ℕ)
    → ComesOfRun result settings name held left → RunMayEnd result → IfStillTold held after SameFiles
    → IfSome held (λ old. IfSome left (λ text. IfStillTold a c (AddsLines (run_bytes name (ending_of_file settings (old.file name) text)) (report_of [] (name ∷ []) result))))
    → (result ≢ NoMemory → (Rose files files_now → ⊥) → (Rose output output_now → ⊥) → (Rose input input_now → ⊥) → IfSome held (λ old. IfSome left (λ text. Emits a c (run_bytes name (ending_of_file settings (old.file name) text)))))
    → (status_of result ≡ 0 → IfSome held (λ old. IfSome left (λ text. Emits a c (run_bytes name (ending_of_file settings (old.file name) text)))))
    → (result ≡ ReadFault → Rose files files_now ⊎ Rose input input_now) → (result ≡ WriteFault → Rose output output_now)
    → (result ≡ ReadFault → IfSome held (λ old. IfSome left (λ text. IsSomeAnd left_now (λ rest. FailsToRead settings (old.file name) text rest (report_of [] (name ∷ []) ReadFault) a c))))
    → IsAnswered (Some (Run name settings)) result (outside_of held files left input a output) (outside_of after files_now left_now input_now c output_now)
run_answered name settings result held after files files_now left left_now input input_now a c output output_now cause possible same writes all written reads fails stops =
    record {
      does = run_does name settings result held after files files_now left left_now input input_now a c output output_now cause same writes all written reads fails;
      possible = possible;
      files = same;
      claims = tt;
      part = λ calm. tt;
      read_fault = reads;
      write_fault = λ e. inr (fails e);
      stops = stops;
      usage = tt;
    }
