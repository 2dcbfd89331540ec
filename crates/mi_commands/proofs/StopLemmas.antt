-- A run that its input broke off.
use Rattle.std.proofs.Common.{◌≡◌, ◌≢◌, ℕ, List, [], ◌∷◌, ◌++◌, Option, None, Some, Ok, refl, sym, ap, ◌∙◌, subst, append-nil, inl, inr}
use Rattle.std.specs.Prelude.{◌⊎◌, IfSome, IsSomeAnd}
use Rattle.mi_model.specs.Image.{ImageRecord}
use Rattle.mi_model.specs.Run.{Run}
use Rattle.mi_outside.specs.Holding.{Holding}
use Rattle.mi_outside.specs.Telling.{WhileTold}
use Rattle.mi_outside.specs.Written.{Emits, EmitsFront}
use Rattle.mi_run.specs.Waits.{run_taken_of, StopsAtWait, StopsThere}
use Rattle.mi_commands.specs.declared.outcome.Outcome.{Outcome}
use Rattle.mi_commands.specs.declared.outcome.Outcome.TheVariants.{NoMemory, ReadFault}
use Rattle.mi_commands.specs.declared.command_line.RunSettings.{RunSettings}
use Rattle.mi_commands.specs.commands.Run.{pair_of_run, StopsInLines, BreaksOff, FailsToRead}
use Rattle.mi_commands.specs.Decoding.{ReadsImage}
use Rattle.mi_commands.specs.Output.{MayAddLine, EmitsAndLine}
use Rattle.mi_commands.specs.Report.{report_of}
use Rattle.mi_commands.proofs.LineLemmas.{none_emitted}
use Rattle.mi_commands.proofs.OutputLemmas.{emits_then}

-- at most one line feed
pub no_line : (a : Option (List ℕ)) → MayAddLine a a
no_line a = inl (none_emitted a [] refl)

pub one_line : (a b : Option (List ℕ)) → Emits a b (10 ∷ []) → MayAddLine a b
one_line a b h = inr h

with_line : (a b c : Option (List ℕ)) (bytes : List ℕ) → Emits a b bytes → MayAddLine b c → EmitsAndLine a c bytes
with_line a b c bytes h (inl none) = inl (subst (λ (xs : List ℕ). Emits a c xs) (append-nil bytes) (emits_then a b c bytes [] h none))
with_line a b c bytes h (inr one) = inr (emits_then a b c bytes (10 ∷ []) h one)

stops_here : (run : List ℕ → Run) (text rest : List ℕ) (a b c : Option (List ℕ)) → StopsAtWait run text rest a b → MayAddLine b c → StopsInLines run text rest a c
stops_here run text rest a b c h line =
    record { taken = h.taken; is = h.is; within = h.within; reached = h.reached; written = with_line a b c (run h.taken).output h.written line }

pub stops_in_lines : (run : List ℕ → Run) (left left_now a b c : Option (List ℕ)) → StopsThere run left left_now a b → MayAddLine b c → IfSome left (λ text. IsSomeAnd left_now (λ rest. StopsInLines run text rest a c))
stops_in_lines run None left_now a b c h line = tt
stops_in_lines run (Some text) None a b c h line = h
stops_in_lines run (Some text) (Some rest) a b c h line = stops_here run text rest a b c h line

-- the file wasn't read
pub unread_stops : (result : Outcome) (settings : RunSettings) (name : List ℕ) (held : Option Holding) (left a b : Option (List ℕ)) → EmitsFront a b (report_of [] (name ∷ []) result) → result ≡ ReadFault
    → IfSome held (λ old. IfSome left (λ text. IsSomeAnd left (λ rest. FailsToRead settings (old.file name) text rest (report_of [] (name ∷ []) ReadFault) a b)))
unread_stops result settings name None left a b h is = tt
unread_stops result settings name (Some old) None a b h is = tt
unread_stops result settings name (Some old) (Some text) a b h is = inl (refl, subst (λ (o : Outcome). EmitsFront a b (report_of [] (name ∷ []) o)) is h)

-- the image was run
memory_reads : NoMemory ≡ ReadFault → ⊥
memory_reads e = cc

was_read : (outcome result : Outcome) → (result ≡ outcome) ⊎ (result ≡ NoMemory) → result ≡ ReadFault → outcome ≡ ReadFault
was_read outcome result (inl same) is = sym same ∙ is
was_read outcome result (inr memory) is = absurd (memory_reads (sym memory ∙ is))

pub run_stops : (outcome result : Outcome) (image : ImageRecord) (settings : RunSettings) (name : List ℕ) (held held_now : Option Holding) (left left_now a b c : Option (List ℕ)) → (result ≡ outcome) ⊎ (result ≡ NoMemory) → WhileTold held held_now (ReadsImage (Ok image) name)
    → (outcome ≡ ReadFault → IfSome left (λ text. IsSomeAnd left_now (λ rest. StopsInLines (run_taken_of image (pair_of_run settings image) settings.turns) text rest a b)))
    → EmitsFront b c (report_of [] (name ∷ []) result) → result ≡ ReadFault
    → IfSome held (λ old. IfSome left (λ text. IsSomeAnd left_now (λ rest. FailsToRead settings (old.file name) text rest (report_of [] (name ∷ []) ReadFault) a c)))
run_stops outcome result image settings name None held_now left left_now a b c same read stops front is = tt
run_stops outcome result image settings name (Some x) None left left_now a b c same read stops front is = elim read [ ]
run_stops outcome result image settings name (Some x) (Some y) None left_now a b c same read stops front is = tt
run_stops outcome result image settings name (Some x) (Some y) (Some text) None a b c same read stops front is = stops (was_read outcome result same is)
run_stops outcome result image settings name (Some x) (Some y) (Some text) (Some rest) a b c same read stops front is =
    inr (image, read.answer, (b, stops (was_read outcome result same is), subst (λ (o : Outcome). EmitsFront b c (report_of [] (name ∷ []) o)) is front))
