-- What a run of the image of a file has written.
use Rattle.std.proofs.Common.{◌≡◌, ◌≢◌, ℕ, List, [], ◌∷◌, ◌++◌, Bool, true, false, Option, None, Some, Result, Ok, Err, refl, sym, ap, ◌∙◌, inl, inr, subst, append-nil, append_assoc}
use Rattle.std.specs.Prelude.{◌⊎◌, IfSome}
use Rattle.mi_model.specs.Image.{ImageRecord}
use Rattle.mi_outside.specs.Holding.{Holding, SameFiles}
use Rattle.mi_outside.specs.Telling.{WhileTold, IfStillTold}
use Rattle.mi_outside.specs.Gathered.{last_of}
use Rattle.mi_outside.specs.Written.{Emits, EmitsFront}
use Rattle.mi_outside.proofs.Writing.{front_none}
use Rattle.mi_commands.specs.declared.outcome.Outcome.{Outcome}
use Rattle.mi_commands.specs.declared.outcome.Outcome.TheVariants as outcomes
use Rattle.mi_commands.specs.declared.command_line.RunSettings.{RunSettings}
use Rattle.mi_commands.specs.Causes.{ComesOfRun}
use Rattle.mi_commands.specs.Outcomes.{IsFault}
use Rattle.mi_commands.specs.Decoding.{ReadsImage}
use Rattle.mi_commands.specs.Output.{is_in_lines, in_lines, with_report, AddsFrontAndLine, AddsLines}
use Rattle.std.specs.Prelude.{codes, decimal}
use Rattle.std.specs.Fmt.{signed_decimal}
use Rattle.mi_model.specs.declared.Found.TheVariants.{Form as AForm, Mixed}
use Rattle.mi_model.specs.Tags.{name_of}
use Rattle.mi_model.specs.Throws.{throw_text_of}
use Rattle.mi_commands.specs.Report.{line_of, report_of, file_name_of, hexadecimal, after_space, why_text_of}
use Rattle.mi_commands.specs.commands.Run.{Ending, pair_of_run, ending_at, ending_of_image, ending_of_file, run_bytes}
use Rattle.mi_commands.proofs.CutLemmas.{cut_front, cut_more, cut_reported, lines_more}
use Rattle.mi_commands.proofs.OutputLemmas.{emits_then}
use Rattle.mi_commands.proofs.LineLemmas.{none_emitted}

-- no fault
no_fault : (outcome : Outcome) → outcome ≢ outcomes.NoMemory → outcome ≢ outcomes.ReadFault → outcome ≢ outcomes.WriteFault → IsFault outcome → ⊥
no_fault outcome m r w (inl e) = m e
no_fault outcome m r w (inr (inl e)) = r e
no_fault outcome m r w (inr (inr e)) = w e

-- a report is no empty line
with_some : (emitted report : List ℕ) → report ≢ [] → with_report emitted report ≡ in_lines emitted ++ report
with_some emitted [] h = absurd (h refl)
with_some emitted (c ∷ cs) h = refl

some_then : (xs ys : List ℕ) → ys ≢ [] → xs ++ ys ≢ []
some_then [] ys h e = h e
some_then (x ∷ xs) ys h e = let no : ⊥ = cc in no

some_line : (pieces : List (List ℕ)) → line_of pieces ≢ []
some_line [] e = let no : ⊥ = cc in no
some_line (piece ∷ rest) e = some_then piece (line_of rest) (some_line rest) e

with_line : (emitted : List ℕ) (pieces : List (List ℕ)) → with_report emitted (line_of pieces) ≡ in_lines emitted ++ line_of pieces
with_line emitted pieces = with_some emitted (line_of pieces) (some_line pieces)

pub with_nothing : (report : List ℕ) → with_report [] report ≡ report
unfolding in_lines is_in_lines
with_nothing [] = refl
with_nothing (c ∷ cs) = refl

-- every outcome but one has a report
pub reported : (out : List ℕ) (sources : List (List ℕ)) (emitted : List ℕ) (outcome : Outcome) → outcome ≢ outcomes.Done → with_report emitted (report_of out sources outcome) ≡ in_lines emitted ++ report_of out sources outcome
reported out sources emitted (outcomes.Built used turns) h = with_line emitted (codes "image " ∷ out ∷ codes " used " ∷ decimal used ∷ codes " turns " ∷ decimal turns ∷ [])
reported out sources emitted outcomes.NoMemory h = with_line emitted (codes "no memory" ∷ [])
reported out sources emitted outcomes.Usage h = with_line emitted (codes "usage" ∷ [])
reported out sources emitted outcomes.ReadFault h = with_line emitted (codes "read fault" ∷ [])
reported out sources emitted (outcomes.NoFile file) h = with_line emitted (file_name_of sources file ∷ codes ": no such file" ∷ [])
reported out sources emitted outcomes.WriteFault h = with_line emitted (codes "write fault" ∷ [])
reported out sources emitted (outcomes.TooManySources count) h = with_line emitted (codes "too many sources" ∷ [])
reported out sources emitted (outcomes.SourceTooLong file) h = with_line emitted (file_name_of sources file ∷ codes ": longer than 4194304 bytes" ∷ [])
reported out sources emitted (outcomes.Thrown code file line) h = with_line emitted (file_name_of sources file ∷ codes ":" ∷ decimal line ∷ codes ": throw " ∷ signed_decimal code ∷ after_space (throw_text_of code) ∷ [])
reported out sources emitted (outcomes.Spent turns) h = with_line emitted (codes "spent " ∷ decimal turns ∷ [])
reported out sources emitted outcomes.NoEntry h = with_line emitted (codes "no such name" ∷ [])
reported out sources emitted (outcomes.Step number offset tag first second why file line) h = with_line emitted (file_name_of sources file ∷ codes ":" ∷ decimal line ∷ codes ": step " ∷ decimal number ∷ codes " at " ∷ decimal offset ∷ codes " " ∷ name_of tag ∷ codes ": " ∷ why_text_of why ∷ [])
reported out sources emitted (outcomes.Cell offset (AForm x)) h = with_line emitted (codes "cell " ∷ decimal offset ∷ codes ": a " ∷ decimal x.a ∷ codes " b " ∷ decimal x.b ∷ codes " c " ∷ decimal x.c ∷ [])
reported out sources emitted (outcomes.Cell offset Mixed) h = with_line emitted (codes "cell " ∷ decimal offset ∷ codes ": mixed bytes" ∷ [])
reported out sources emitted outcomes.Done h = absurd (h refl)
reported out sources emitted (outcomes.NotImage file place part) h = with_line emitted (file_name_of sources file ∷ codes ": no image at " ∷ decimal place ∷ [])
reported out sources emitted (outcomes.Truncated file place) h = with_line emitted (file_name_of sources file ∷ codes ": ends at " ∷ decimal place ∷ [])
reported out sources emitted (outcomes.TooLarge file part value) h = with_line emitted (file_name_of sources file ∷ codes ": too large " ∷ decimal value ∷ [])
reported out sources emitted (outcomes.MadeFor pair) h = with_line emitted (codes "made for " ∷ hexadecimal pair.d ∷ codes " " ∷ hexadecimal pair.k ∷ [])
reported out sources emitted (outcomes.PairNotAllowed pair) h = with_line emitted (codes "pair not allowed " ∷ hexadecimal pair.d ∷ codes " " ∷ hexadecimal pair.k ∷ [])
reported out sources emitted (outcomes.EntryThrown code) h = with_line emitted (codes "throw " ∷ signed_decimal code ∷ after_space (throw_text_of code) ∷ [])
reported out sources emitted outcomes.InputTooLong h = with_line emitted (codes "input too long" ∷ [])

is_done : (outcome : Outcome) → (outcome ≡ outcomes.Done) ⊎ (outcome ≢ outcomes.Done)
is_done (outcomes.Built used turns) = inr (λ e. let no : ⊥ = cc in no)
is_done outcomes.NoMemory = inr (λ e. let no : ⊥ = cc in no)
is_done outcomes.Usage = inr (λ e. let no : ⊥ = cc in no)
is_done outcomes.ReadFault = inr (λ e. let no : ⊥ = cc in no)
is_done (outcomes.NoFile file) = inr (λ e. let no : ⊥ = cc in no)
is_done outcomes.WriteFault = inr (λ e. let no : ⊥ = cc in no)
is_done (outcomes.TooManySources count) = inr (λ e. let no : ⊥ = cc in no)
is_done (outcomes.SourceTooLong file) = inr (λ e. let no : ⊥ = cc in no)
is_done (outcomes.Thrown code file line) = inr (λ e. let no : ⊥ = cc in no)
is_done (outcomes.Spent turns) = inr (λ e. let no : ⊥ = cc in no)
is_done outcomes.NoEntry = inr (λ e. let no : ⊥ = cc in no)
is_done (outcomes.Step number offset tag first second why file line) = inr (λ e. let no : ⊥ = cc in no)
is_done (outcomes.Cell offset found) = inr (λ e. let no : ⊥ = cc in no)
is_done outcomes.Done = inl refl
is_done (outcomes.NotImage file place part) = inr (λ e. let no : ⊥ = cc in no)
is_done (outcomes.Truncated file place) = inr (λ e. let no : ⊥ = cc in no)
is_done (outcomes.TooLarge file part value) = inr (λ e. let no : ⊥ = cc in no)
is_done (outcomes.MadeFor pair) = inr (λ e. let no : ⊥ = cc in no)
is_done (outcomes.PairNotAllowed pair) = inr (λ e. let no : ⊥ = cc in no)
is_done (outcomes.EntryThrown code) = inr (λ e. let no : ⊥ = cc in no)
is_done outcomes.InputTooLong = inr (λ e. let no : ⊥ = cc in no)

none_done : ◌≡◌ {A = Outcome} outcomes.NoMemory outcomes.Done → ⊥
none_done e = let no : ⊥ = cc in no

read_done : ◌≡◌ {A = Outcome} outcomes.ReadFault outcomes.Done → ⊥
read_done e = let no : ⊥ = cc in no

write_done : ◌≡◌ {A = Outcome} outcomes.WriteFault outcomes.Done → ⊥
write_done e = let no : ⊥ = cc in no

none_read : ◌≡◌ {A = Outcome} outcomes.NoMemory outcomes.ReadFault → ⊥
none_read e = let no : ⊥ = cc in no

write_read : ◌≡◌ {A = Outcome} outcomes.WriteFault outcomes.ReadFault → ⊥
write_read e = let no : ⊥ = cc in no

-- a run that is done has no report
pub done_front : (a : Option (List ℕ)) (image : List ℕ) → EmitsFront a a (report_of [] (image ∷ []) outcomes.Done)
done_front a image = front_none a []

pub done_whole : (a : Option (List ℕ)) (image : List ℕ) → Emits a a (report_of [] (image ∷ []) outcomes.Done)
done_whole a image = none_emitted a [] refl

-- what was run into memory and then written
pub same_cause : (result outcome : Outcome) (left : Option (List ℕ)) (expected : List ℕ → Outcome) → (result ≡ outcome) ⊎ (result ≡ outcomes.WriteFault) → IsFault outcome ⊎ IfSome left (λ text. outcome ≡ expected text)
    → IsFault result ⊎ IfSome left (λ text. result ≡ expected text)
same_cause result outcome left expected (inl same) h = subst (λ (o : Outcome). IsFault o ⊎ IfSome left (λ text. o ≡ expected text)) (sym same) h
same_cause result outcome left expected (inr fault) h = inl (inr (inr fault))

pub told_outcome : (result outcome : Outcome) → (result ≡ outcome) ⊎ (result ≡ outcomes.NoMemory) → result ≢ outcomes.NoMemory → result ≡ outcome
told_outcome result outcome (inl same) m = same
told_outcome result outcome (inr memory) m = absurd (m memory)

pub same_ending : (result outcome : Outcome) → (result ≡ outcome) ⊎ (result ≡ outcomes.WriteFault) → result ≢ outcomes.WriteFault → result ≡ outcome
same_ending result outcome (inl same) w = same
same_ending result outcome (inr fault) w = absurd (w fault)

-- done, or failed to read, is no other outcome
pub done_is_none : (outcome : Outcome) → outcome ≡ outcomes.Done → (outcome ≢ outcomes.NoMemory) × (outcome ≢ outcomes.ReadFault) × (outcome ≢ outcomes.WriteFault)
done_is_none outcome is = (λ e. none_done (sym e ∙ is), λ e. read_done (sym e ∙ is), λ e. write_done (sym e ∙ is))

pub read_is_none : (outcome : Outcome) → outcome ≡ outcomes.ReadFault → (outcome ≢ outcomes.NoMemory) × (outcome ≢ outcomes.WriteFault)
read_is_none outcome is = (λ e. none_read (sym e ∙ is), λ e. write_read (sym e ∙ is))

-- what is emitted is a front of what is to be written
report_more : (emitted report : List ℕ) → (more : List ℕ) × (emitted ++ more ≡ with_report emitted report)
report_more emitted [] = ([], append-nil emitted)
report_more emitted (c ∷ cs) =
    let line : (more : List ℕ) × (emitted ++ more ≡ in_lines emitted) = lines_more (is_in_lines emitted) emitted refl in
    (line.0 ++ c ∷ cs, sym (append_assoc emitted line.0 (c ∷ cs)) ∙ ap (λ (xs : List ℕ). xs ++ c ∷ cs) line.1)

-- what is emitted is written, and its last line ended
pub cut_none : (left a : Option (List ℕ)) (meant : List ℕ → List ℕ) → IfSome left (λ text. IfStillTold a a (AddsFrontAndLine (meant text)))
cut_none None a meant = tt
cut_none (Some text) a meant = cut_front a a (meant text) (front_none a (meant text))

pub lines_cut : (left a m b : Option (List ℕ)) (meant : List ℕ → List ℕ) → IfSome left (λ text. EmitsFront a m (meant text)) → ((bytes : List ℕ) → EmitsFront a m bytes → IfStillTold a b (AddsFrontAndLine bytes))
    → IfSome left (λ text. IfStillTold a b (AddsFrontAndLine (meant text)))
lines_cut None a m b meant h cut = tt
lines_cut (Some text) a m b meant h cut = cut (meant text) h

pub lines_done : (left a m b : Option (List ℕ)) (meant : List ℕ → List ℕ) → b ≡ m → IfSome left (λ text. Emits a m (meant text)) → IfSome left (λ text. Emits a b (meant text))
lines_done left a m b meant same h = subst (λ (x : Option (List ℕ)). IfSome left (λ text. Emits a x (meant text))) (sym same) h

pub lines_ended : (left a m b : Option (List ℕ)) (meant : List ℕ → List ℕ) (last : ℕ) → ((text : List ℕ) → last ≡ last_of 10 (meant text) → Emits a m (meant text) → Emits a b (in_lines (meant text)))
    → IfSome left (λ text. last ≡ last_of 10 (meant text)) → IfSome left (λ text. Emits a m (meant text)) → IfSome left (λ text. Emits a b (in_lines (meant text)))
lines_ended None a m b meant last step h k = tt
lines_ended (Some text) a m b meant last step h k = step text h k

-- no file changed
pub kept_files : (result : Result ImageRecord Outcome) (name : List ℕ) (a b : Option Holding) → WhileTold a b (ReadsImage result name) → IfStillTold a b SameFiles
kept_files result name a None r = tt
kept_files result name None (Some y) r = let no : ⊥ = cc in absurd no
kept_files result name (Some x) (Some y) r = r.files

-- the image was not read
unread_by : (result outcome : Outcome) (settings : RunSettings) (name : List ℕ) (a b : Option Holding) (left : Option (List ℕ)) → result ≡ outcome → WhileTold a b (ReadsImage (Err outcome) name) → ComesOfRun result settings name a left
unread_by result outcome settings name None b left is r = inr tt
unread_by result outcome settings name (Some x) None left is r = elim r [ ]
unread_by result outcome settings name (Some x) (Some y) None is r = inr tt
unread_by result outcome settings name (Some x) (Some y) (Some text) is r = elim r.answer [
  | inl fault ↦ inl (subst (λ (o : Outcome). IsFault o) (sym is) fault)
  | inr read ↦ inr (is ∙ sym (ap (λ (i : Result ImageRecord Outcome). (ending_of_image settings i text).outcome) read))
]

pub unread_comes : (result outcome : Outcome) (settings : RunSettings) (name : List ℕ) (a b : Option Holding) (left : Option (List ℕ)) → (result ≡ outcome) ⊎ (result ≡ outcomes.NoMemory) → WhileTold a b (ReadsImage (Err outcome) name) → ComesOfRun result settings name a left
unread_comes result outcome settings name a b left (inl same) r = unread_by result outcome settings name a b left same r
unread_comes result outcome settings name a b left (inr memory) r = inl (inl memory)

pub unread_writes : (held : Option Holding) (left a b : Option (List ℕ)) (meant : Holding → List ℕ → List ℕ) (report : List ℕ) → EmitsFront a b report → IfSome held (λ old. IfSome left (λ text. IfStillTold a b (AddsLines (meant old text) report)))
unread_writes None left a b meant report h = tt
unread_writes (Some old) None a b meant report h = tt
unread_writes (Some old) (Some text) a b meant report h = cut_reported a a b (meant old text) report (cut_front a a (meant old text) (front_none a (meant old text))) h

pub unread_writes_all : (result outcome : Outcome) (settings : RunSettings) (name : List ℕ) (a b : Option Holding) (left o n : Option (List ℕ)) → (result ≡ outcome) ⊎ (result ≡ outcomes.NoMemory) → result ≢ outcomes.NoMemory → outcome ≢ outcomes.ReadFault → outcome ≢ outcomes.WriteFault
    → WhileTold a b (ReadsImage (Err outcome) name) → Emits o n (report_of [] (name ∷ []) result) → IfSome a (λ old. IfSome left (λ text. Emits o n (run_bytes name (ending_of_file settings (old.file name) text))))
unread_writes_all result outcome settings name None b left o n same memory r w read h = tt
unread_writes_all result outcome settings name (Some x) None left o n same memory r w read h = elim read [ ]
unread_writes_all result outcome settings name (Some x) (Some y) None o n same memory r w read h = tt
unread_writes_all result outcome settings name (Some x) (Some y) (Some text) o n (inr m) memory r w read h = absurd (memory m)
unread_writes_all result outcome settings name (Some x) (Some y) (Some text) o n (inl same) memory r w read h = elim read.answer [
  | inl fault ↦ absurd (no_fault outcome (λ e. memory (same ∙ e)) r w fault)
  | inr is ↦ subst (λ (xs : List ℕ). Emits o n xs)
      (ap (λ (e : Outcome). report_of [] (name ∷ []) e) same ∙ (sym (with_nothing (report_of [] (name ∷ []) outcome)) ∙ sym (ap (λ (i : Result ImageRecord Outcome). run_bytes name (ending_of_image settings i text)) is))) h
]

-- the image was run
read_as : (image : ImageRecord) (settings : RunSettings) (name text : List ℕ) (x y : Holding) → ReadsImage (Ok image) name x y → ending_of_file settings (x.file name) text ≡ ending_at image (pair_of_run settings image) text settings.turns
read_as image settings name text x y r = ap (λ (i : Result ImageRecord Outcome). ending_of_image settings i text) r.answer

pub run_came : (result : Outcome) (image : ImageRecord) (settings : RunSettings) (name : List ℕ) (a b : Option Holding) (left : Option (List ℕ)) → WhileTold a b (ReadsImage (Ok image) name)
    → IsFault result ⊎ IfSome left (λ text. result ≡ (ending_at image (pair_of_run settings image) text settings.turns).outcome) → ComesOfRun result settings name a left
run_came result image settings name a b left r (inl fault) = inl fault
run_came result image settings name None b left r (inr came) = inr tt
run_came result image settings name (Some x) None left r (inr came) = elim r [ ]
run_came result image settings name (Some x) (Some y) None r (inr came) = inr tt
run_came result image settings name (Some x) (Some y) (Some text) r (inr came) = inr (came ∙ sym (ap (λ (e : Ending). e.outcome) (read_as image settings name text x y r)))

pub run_reported : (result outcome : Outcome) (image : ImageRecord) (settings : RunSettings) (name : List ℕ) (a b : Option Holding) (left : Option (List ℕ)) → (result ≡ outcome) ⊎ (result ≡ outcomes.NoMemory) → WhileTold a b (ReadsImage (Ok image) name)
    → IsFault outcome ⊎ IfSome left (λ text. outcome ≡ (ending_at image (pair_of_run settings image) text settings.turns).outcome) → ComesOfRun result settings name a left
run_reported result outcome image settings name a b left (inl same) r came =
    subst (λ (o : Outcome). ComesOfRun o settings name a left) (sym same) (run_came outcome image settings name a b left r came)
run_reported result outcome image settings name a b left (inr memory) r came = inl (inl memory)

run_front : (ending : Ending) (name report : List ℕ) (o m n : Option (List ℕ)) → IfStillTold o m (AddsFrontAndLine ending.emitted) → EmitsFront m n report → IfStillTold o n (AddsLines (run_bytes name ending) report)
run_front ending name report o m n h k =
    let rest : (more : List ℕ) × (ending.emitted ++ more ≡ run_bytes name ending) = report_more ending.emitted (report_of [] (name ∷ []) ending.outcome) in
    cut_reported o m n (run_bytes name ending) report (cut_more o m ending.emitted rest.0 (run_bytes name ending) rest.1 h) k

pub run_writes : (image : ImageRecord) (settings : RunSettings) (name report : List ℕ) (a b : Option Holding) (left o m n : Option (List ℕ)) → WhileTold a b (ReadsImage (Ok image) name)
    → IfSome left (λ text. IfStillTold o m (AddsFrontAndLine (ending_at image (pair_of_run settings image) text settings.turns).emitted)) → EmitsFront m n report
    → IfSome a (λ old. IfSome left (λ text. IfStillTold o n (AddsLines (run_bytes name (ending_of_file settings (old.file name) text)) report)))
run_writes image settings name report None b left o m n r h k = tt
run_writes image settings name report (Some x) None left o m n r h k = elim r [ ]
run_writes image settings name report (Some x) (Some y) None o m n r h k = tt
run_writes image settings name report (Some x) (Some y) (Some text) o m n r h k =
    run_front (ending_of_file settings (x.file name) text) name report o m n
    (subst (λ (e : Ending). IfStillTold o m (AddsFrontAndLine e.emitted)) (sym (read_as image settings name text x y r)) h) k

all_done : (ending : Ending) (name : List ℕ) (outcome : Outcome) (o m n : Option (List ℕ)) → outcome ≡ ending.outcome → outcome ≡ outcomes.Done → Emits o m ending.emitted → Emits m n (report_of [] (name ∷ []) outcome) → Emits o n (run_bytes name ending)
all_done ending name outcome o m n is done h k =
    subst (λ (xs : List ℕ). Emits o n xs)
    (append-nil ending.emitted ∙ ap (λ (e : Outcome). with_report ending.emitted (report_of [] (name ∷ []) e)) (sym done ∙ is))
    (emits_then o m n ending.emitted [] h (subst (λ (e : Outcome). Emits m n (report_of [] (name ∷ []) e)) done k))

all_lines : (ending : Ending) (name : List ℕ) (outcome : Outcome) (o m n : Option (List ℕ)) → outcome ≡ ending.outcome → outcome ≢ outcomes.Done → Emits o m (in_lines ending.emitted) → Emits m n (report_of [] (name ∷ []) outcome) → Emits o n (run_bytes name ending)
all_lines ending name outcome o m n is more h k =
    subst (λ (xs : List ℕ). Emits o n xs)
    (sym (reported [] (name ∷ []) ending.emitted outcome more) ∙ ap (λ (e : Outcome). with_report ending.emitted (report_of [] (name ∷ []) e)) is)
    (emits_then o m n (in_lines ending.emitted) (report_of [] (name ∷ []) outcome) h k)

-- all that was emitted was written, and the report
run_all : (image : ImageRecord) (settings : RunSettings) (name text : List ℕ) (outcome : Outcome) (x y : Holding) (o m n : Option (List ℕ)) → ReadsImage (Ok image) name x y
    → outcome ≢ outcomes.NoMemory → outcome ≢ outcomes.ReadFault → outcome ≢ outcomes.WriteFault
    → IsFault outcome ⊎ (outcome ≡ (ending_at image (pair_of_run settings image) text settings.turns).outcome)
    → (outcome ≡ outcomes.Done → Emits o m (ending_at image (pair_of_run settings image) text settings.turns).emitted)
    → (outcome ≢ outcomes.Done → Emits o m (in_lines (ending_at image (pair_of_run settings image) text settings.turns).emitted))
    → Emits m n (report_of [] (name ∷ []) outcome) → Emits o n (run_bytes name (ending_of_file settings (x.file name) text))
run_all image settings name text outcome x y o m n r nm nr nw (inl fault) done lines k = absurd (no_fault outcome nm nr nw fault)
run_all image settings name text outcome x y o m n r nm nr nw (inr came) done lines k =
    subst (λ (e : Ending). Emits o n (run_bytes name e)) (sym (read_as image settings name text x y r)) (elim (is_done outcome) [
      | inl is ↦ all_done (ending_at image (pair_of_run settings image) text settings.turns) name outcome o m n came is (done is) k
      | inr other ↦ all_lines (ending_at image (pair_of_run settings image) text settings.turns) name outcome o m n came other (lines other) k
    ])

told_cause : (outcome : Outcome) (text : List ℕ) (expected : List ℕ → Outcome) → IsFault outcome ⊎ IfSome (Some text) (λ t. outcome ≡ expected t) → IsFault outcome ⊎ (outcome ≡ expected text)
told_cause outcome text expected (inl fault) = inl fault
told_cause outcome text expected (inr came) = inr came

pub run_writes_all : (result outcome : Outcome) (image : ImageRecord) (settings : RunSettings) (name : List ℕ) (a b : Option Holding) (left o m n : Option (List ℕ)) → (result ≡ outcome) ⊎ (result ≡ outcomes.NoMemory) → WhileTold a b (ReadsImage (Ok image) name)
    → result ≢ outcomes.NoMemory → outcome ≢ outcomes.ReadFault → outcome ≢ outcomes.WriteFault
    → IsFault outcome ⊎ IfSome left (λ text. outcome ≡ (ending_at image (pair_of_run settings image) text settings.turns).outcome)
    → (outcome ≡ outcomes.Done → IfSome left (λ text. Emits o m (ending_at image (pair_of_run settings image) text settings.turns).emitted))
    → (outcome ≢ outcomes.Done → outcome ≢ outcomes.NoMemory → outcome ≢ outcomes.ReadFault → outcome ≢ outcomes.WriteFault → IfSome left (λ text. Emits o m (in_lines (ending_at image (pair_of_run settings image) text settings.turns).emitted)))
    → Emits m n (report_of [] (name ∷ []) result) → IfSome a (λ old. IfSome left (λ text. Emits o n (run_bytes name (ending_of_file settings (old.file name) text))))
run_writes_all result outcome image settings name None b left o m n same r nm nr nw came done lines k = tt
run_writes_all result outcome image settings name (Some x) None left o m n same r nm nr nw came done lines k = elim r [ ]
run_writes_all result outcome image settings name (Some x) (Some y) None o m n same r nm nr nw came done lines k = tt
run_writes_all result outcome image settings name (Some x) (Some y) (Some text) o m n (inr memory) r nm nr nw came done lines k = absurd (nm memory)
run_writes_all result outcome image settings name (Some x) (Some y) (Some text) o m n (inl same) r nm nr nw came done lines k =
    let memory : outcome ≢ outcomes.NoMemory = λ e. nm (same ∙ e) in
    run_all image settings name text outcome x y o m n r memory nr nw
    (told_cause outcome text (λ t. (ending_at image (pair_of_run settings image) t settings.turns).outcome) came)
    done (λ other. lines other memory nr nw) (subst (λ (e : Outcome). Emits m n (report_of [] (name ∷ []) e)) same k)

-- a run that is done has written all that it emits, and nothing else
pub run_written : (result outcome : Outcome) (image : ImageRecord) (settings : RunSettings) (name : List ℕ) (a b : Option Holding) (left o m n : Option (List ℕ)) → (result ≡ outcome) ⊎ (result ≡ outcomes.NoMemory) → WhileTold a b (ReadsImage (Ok image) name)
    → result ≡ outcomes.Done → IsFault outcome ⊎ IfSome left (λ text. outcome ≡ (ending_at image (pair_of_run settings image) text settings.turns).outcome)
    → (outcome ≡ outcomes.Done → IfSome left (λ text. Emits o m (ending_at image (pair_of_run settings image) text settings.turns).emitted)) → Emits m n []
    → IfSome a (λ old. IfSome left (λ text. Emits o n (run_bytes name (ending_of_file settings (old.file name) text))))
run_written result outcome image settings name None b left o m n same r is came done k = tt
run_written result outcome image settings name (Some x) None left o m n same r is came done k = elim r [ ]
run_written result outcome image settings name (Some x) (Some y) None o m n same r is came done k = tt
run_written result outcome image settings name (Some x) (Some y) (Some text) o m n (inr memory) r is came done k = absurd (none_done (sym memory ∙ is))
run_written result outcome image settings name (Some x) (Some y) (Some text) o m n (inl same) r is came done k =
    let ended : outcome ≡ outcomes.Done = sym same ∙ is in
    let other = done_is_none outcome ended in
    run_all image settings name text outcome x y o m n r other.0 other.1 other.2
    (told_cause outcome text (λ t. (ending_at image (pair_of_run settings image) t settings.turns).outcome) came)
    done (λ more. absurd (more ended)) (subst (λ (e : Outcome). Emits m n (report_of [] (name ∷ []) e)) (sym ended) k)
