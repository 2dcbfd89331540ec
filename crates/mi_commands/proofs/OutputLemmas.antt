-- What was written, from call to call.
use Rattle.std.proofs.Common.{◌≡◌, ◌≢◌, ℕ, List, [], ◌++◌, Option, None, Some, Ok, Err, refl, ap, sym, ◌∙◌, subst, append_assoc, append-nil, inl, inr}
use Rattle.std.specs.Prelude.{IfSome, Result}
use Rattle.mi_outside.specs.Holding.{Holding}
use Rattle.mi_reloc.specs.declared.building.Made.{Made}
use Rattle.mi_reloc.specs.declared.building.Settings.{Settings as BuildSettings}
use Rattle.mi_reloc.specs.declared.building.BuildFault.{BuildFault}
use Rattle.mi_reloc.specs.declared.building.BuildFault.TheVariants.{Thrown as FaultThrown, Spent as FaultSpent, Step as FaultStep, NoEntry as FaultNoEntry, Cell as FaultCell, WriteFault as FaultWrite, NoMemory as FaultNoMemory}
use Rattle.mi_outside.specs.Gathered.{last_of}
use Rattle.mi_outside.specs.Telling.{IfStillTold}
use Rattle.mi_outside.specs.Written.{Emits, EmitsFront}
use Rattle.mi_build.specs.Builds.{origin_build}
use Rattle.mi_build.specs.Puts.{KeepsLast}
use Rattle.mi_build.specs.Written.{EmitsAll}
use Rattle.mi_outside.proofs.Writing.{front_whole, front_more, front_last, emits_front}
use Rattle.mi_commands.specs.declared.outcome.Outcome.{Outcome}
use Rattle.mi_commands.specs.declared.outcome.Outcome.TheVariants.{NoMemory, ReadFault, WriteFault}
use Rattle.mi_commands.specs.Settings.{Settings, settings_in_bytes}
use Rattle.mi_commands.specs.Builds.{build_over_origins}
use Rattle.mi_commands.specs.Report.{report_of}
use Rattle.mi_commands.specs.Contract.{Gains}
use Rattle.mi_commands.specs.Causes.{AreRead, ComesOfSources}
use Rattle.mi_commands.specs.commands.Build.{contents_of, outcome_of_texts, outcome_of_read, outcome_of_sources, output_of_read, output_of_sources, build_bytes}
use Rattle.mi_commands.specs.Output.{is_in_lines, in_lines, AddsFrontAndLine, WritesFronts}
use Rattle.mi_commands.proofs.CutLemmas.{cut_more, cut_reported, lines_more}

-- what a build that has made no image has written
front_of_fault : (fault : BuildFault) (old new : Option (List ℕ)) (bytes : List ℕ) → EmitsAll {X = Made} (Err fault) old new bytes → EmitsFront old new bytes
front_of_fault (FaultThrown code file line) old new bytes h = front_whole old new bytes h
front_of_fault (FaultSpent turns) old new bytes h = front_whole old new bytes h
front_of_fault (FaultStep number offset tag first second why file line) old new bytes h = front_whole old new bytes h
front_of_fault FaultNoEntry old new bytes h = front_whole old new bytes h
front_of_fault (FaultCell offset found) old new bytes h = front_whole old new bytes h
front_of_fault FaultWrite old new bytes h = h
front_of_fault FaultNoMemory old new bytes h = h

whole_of_fault : (fault : BuildFault) (old new : Option (List ℕ)) (bytes : List ℕ) → EmitsAll {X = Made} (Err fault) old new bytes → fault ≢ FaultNoMemory → fault ≢ FaultWrite → Emits old new bytes
whole_of_fault (FaultThrown code file line) old new bytes h m w = h
whole_of_fault (FaultSpent turns) old new bytes h m w = h
whole_of_fault (FaultStep number offset tag first second why file line) old new bytes h m w = h
whole_of_fault FaultNoEntry old new bytes h m w = h
whole_of_fault (FaultCell offset found) old new bytes h m w = h
whole_of_fault FaultWrite old new bytes h m w = absurd (w refl)
whole_of_fault FaultNoMemory old new bytes h m w = absurd (m refl)

pub fault_front : (fault : BuildFault) (settings : BuildSettings) (texts : List (List ℕ)) (old new : Option (List ℕ)) → EmitsAll {X = Made} (Err fault) old new (origin_build settings texts).output → EmitsFront old new (build_over_origins (settings_in_bytes settings) texts).output
unfolding build_over_origins
fault_front fault settings texts old new h = front_of_fault fault old new (origin_build settings texts).output h

pub fault_whole : (fault : BuildFault) (settings : BuildSettings) (texts : List (List ℕ)) (old new : Option (List ℕ)) → EmitsAll {X = Made} (Err fault) old new (origin_build settings texts).output
    → fault ≢ FaultNoMemory → fault ≢ FaultWrite → Emits old new (build_over_origins (settings_in_bytes settings) texts).output
unfolding build_over_origins
fault_whole fault settings texts old new h m w = whole_of_fault fault old new (origin_build settings texts).output h m w

-- what a build that has made an image has written
pub made_gains : (settings : BuildSettings) (texts : List (List ℕ)) (old new : Option (List ℕ)) → Emits old new (origin_build settings texts).output → Gains old new (build_over_origins (settings_in_bytes settings) texts).output
unfolding build_over_origins
made_gains settings texts old new h = h

-- the last byte of it
pub made_last : (made : Made) (settings : BuildSettings) (texts : List (List ℕ)) (before now : ℕ) → KeepsLast {X = Made} (Ok made) before now (origin_build settings texts).output → now ≡ last_of before (build_over_origins (settings_in_bytes settings) texts).output
unfolding build_over_origins
made_last made settings texts before now h = h

last_of_fault : (fault : BuildFault) (before now : ℕ) (bytes : List ℕ) → KeepsLast {X = Made} (Err fault) before now bytes → fault ≢ FaultNoMemory → fault ≢ FaultWrite → now ≡ last_of before bytes
last_of_fault (FaultThrown code file line) before now bytes h m w = h
last_of_fault (FaultSpent turns) before now bytes h m w = h
last_of_fault (FaultStep number offset tag first second why file line) before now bytes h m w = h
last_of_fault FaultNoEntry before now bytes h m w = h
last_of_fault (FaultCell offset found) before now bytes h m w = h
last_of_fault FaultWrite before now bytes h m w = absurd (w refl)
last_of_fault FaultNoMemory before now bytes h m w = absurd (m refl)

pub fault_last : (fault : BuildFault) (settings : BuildSettings) (texts : List (List ℕ)) (before now : ℕ) → KeepsLast {X = Made} (Err fault) before now (origin_build settings texts).output
    → fault ≢ FaultNoMemory → fault ≢ FaultWrite → now ≡ last_of before (build_over_origins (settings_in_bytes settings) texts).output
unfolding build_over_origins
fault_last fault settings texts before now h m w = last_of_fault fault before now (origin_build settings texts).output h m w

-- one piece after another
pub emits_then : (a b c : Option (List ℕ)) (xs ys : List ℕ) → Emits a b xs → Emits b c ys → Emits a c (xs ++ ys)
emits_then a b None xs ys h k = tt
emits_then a None (Some z) xs ys h k = elim k [ ]
emits_then None (Some y) (Some z) xs ys h k = elim h [ ]
emits_then (Some x) (Some y) (Some z) xs ys h k = k ∙ ap (λ (s : List ℕ). s ++ ys) h ∙ append_assoc x xs ys

pub fronts : (a b c : Option (List ℕ)) (meant report : List ℕ) → EmitsFront a b meant → EmitsFront b c report → WritesFronts a c meant report
fronts a b None meant report h k = tt
fronts a None (Some z) meant report h k = elim k [ ]
fronts None (Some y) (Some z) meant report h k = elim h [ ]
fronts (Some x) (Some y) (Some z) meant report h k =
    record { between = y; untold = k.0; first = record { between = y; left = h.0; front = h.1; line = inl refl }; second = k.1 }

pub front_alone : (a c : Option (List ℕ)) (meant report : List ℕ) → EmitsFront a c meant → WritesFronts a c meant report
front_alone a None meant report h = tt
front_alone None (Some z) meant report h = elim h [ ]
front_alone (Some x) (Some z) meant report h =
    record { between = z; untold = report; first = record { between = z; left = h.0; front = h.1; line = inl refl }; second = record { written = []; added = sym (append-nil z); whole = refl } }

-- no image was made, and that was reported
pub unmade_writes : (held : Option Holding) (out : List ℕ) (sources : List (List ℕ)) (settings : Settings) (result : Outcome) (a b c : Option (List ℕ)) → IfSome held (λ old. IfStillTold a b (AddsFrontAndLine (output_of_sources settings (contents_of old sources)))) → EmitsFront b c (report_of out sources result)
    → IfSome held (λ old. WritesFronts a c (build_bytes out sources settings (contents_of old sources)) (report_of out sources result))
unmade_writes None out sources settings result a b c h k = tt
unmade_writes (Some old) out sources settings result a b c h k =
    let emitted : List ℕ = output_of_sources settings (contents_of old sources) in
    let report : List ℕ = report_of out sources (outcome_of_sources settings (contents_of old sources)) in
    let line : (more : List ℕ) × (emitted ++ more ≡ in_lines emitted) = lines_more (is_in_lines emitted) emitted refl in
    let whole : emitted ++ (line.0 ++ report) ≡ in_lines emitted ++ report = sym (append_assoc emitted line.0 report) ∙ ap (λ (xs : List ℕ). xs ++ report) line.1 in
    cut_reported a b c (in_lines emitted ++ report) (report_of out sources result) (cut_more a b emitted (line.0 ++ report) (in_lines emitted ++ report) whole h) k

pub unmade_writes_all : (held : Option Holding) (out : List ℕ) (sources : List (List ℕ)) (settings : Settings) (outcome result : Outcome) (a b c : Option (List ℕ)) → result ≡ outcome → ComesOfSources outcome settings sources held → outcome ≢ NoMemory → outcome ≢ ReadFault → outcome ≢ WriteFault
    → IfSome held (λ old. Emits a b (in_lines (output_of_sources settings (contents_of old sources)))) → Emits b c (report_of out sources result) → IfSome held (λ old. Emits a c (build_bytes out sources settings (contents_of old sources)))
unmade_writes_all None out sources settings outcome result a b c is cause m r w h k = tt
unmade_writes_all (Some old) out sources settings outcome result a b c is (inl (inl e)) m r w h k = absurd (m e)
unmade_writes_all (Some old) out sources settings outcome result a b c is (inl (inr (inl e))) m r w h k = absurd (r e)
unmade_writes_all (Some old) out sources settings outcome result a b c is (inl (inr (inr e))) m r w h k = absurd (w e)
unmade_writes_all (Some old) out sources settings outcome result a b c is (inr comes) m r w h k =
    subst (λ (o : Outcome). Emits a c (in_lines (output_of_sources settings (contents_of old sources)) ++ report_of out sources o)) (is ∙ comes) (emits_then a b c _ _ h k)

-- an image was made, but not stored, and that was reported
pub unstored_writes : (held : Option Holding) (out : List ℕ) (sources texts : List (List ℕ)) (settings : Settings) (built result : Outcome) (a b c d : Option (List ℕ)) → AreRead sources texts held → outcome_of_texts settings texts ≡ built
    → Emits a b (in_lines (build_over_origins settings texts).output) → EmitsFront b c (report_of out sources built) → EmitsFront c d (report_of out sources result) → IfSome held (λ old. WritesFronts a d (build_bytes out sources settings (contents_of old sources)) (report_of out sources result))
unstored_writes None out sources texts settings built result a b c d t o h k l = tt
unstored_writes (Some old) out sources texts settings built result a b c d t o h k l =
    let front : EmitsFront a c (in_lines (build_over_origins settings texts).output ++ report_of out sources built) = front_last a b c (in_lines (build_over_origins settings texts).output ++ report_of out sources built) (report_of out sources built) (emits_front a b (in_lines (build_over_origins settings texts).output) (report_of out sources built) h) k in
    let whole : in_lines (build_over_origins settings texts).output ++ report_of out sources built ≡ build_bytes out sources settings (contents_of old sources) =
    sym (ap (λ (r : Result (List (List ℕ)) Outcome). in_lines (output_of_read settings r) ++ report_of out sources (outcome_of_read settings r)) t ∙ ap (λ (x : Outcome). in_lines (build_over_origins settings texts).output ++ report_of out sources x) o) in
    fronts a c d _ _ (subst (λ (xs : List ℕ). EmitsFront a c xs) whole front) l

-- an image was stored and reported
pub stored_writes_all : (held : Option Holding) (out : List ℕ) (sources texts : List (List ℕ)) (settings : Settings) (built : Outcome) (a c : Option (List ℕ)) → AreRead sources texts held → outcome_of_texts settings texts ≡ built
    → Emits a c (in_lines (build_over_origins settings texts).output ++ report_of out sources built) → IfSome held (λ old. Emits a c (build_bytes out sources settings (contents_of old sources)))
stored_writes_all None out sources texts settings built a c t o h = tt
stored_writes_all (Some old) out sources texts settings built a c t o h =
    let whole : in_lines (build_over_origins settings texts).output ++ report_of out sources built ≡ build_bytes out sources settings (contents_of old sources) =
    sym (ap (λ (r : Result (List (List ℕ)) Outcome). in_lines (output_of_read settings r) ++ report_of out sources (outcome_of_read settings r)) t ∙ ap (λ (x : Outcome). in_lines (build_over_origins settings texts).output ++ report_of out sources x) o) in
    subst (λ (xs : List ℕ). Emits a c xs) whole h

pub stored_writes : (held : Option Holding) (out : List ℕ) (sources : List (List ℕ)) (settings : Settings) (result : Outcome) (a c : Option (List ℕ)) → IfSome held (λ old. Emits a c (build_bytes out sources settings (contents_of old sources))) → IfSome held (λ old. WritesFronts a c (build_bytes out sources settings (contents_of old sources)) (report_of out sources result))
stored_writes None out sources settings result a c h = tt
stored_writes (Some old) out sources settings result a c h = front_alone a c _ _ (front_whole a c _ h)
