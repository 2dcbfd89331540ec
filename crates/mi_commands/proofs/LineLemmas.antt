-- Bytes that are written in whole lines.
use Rattle.std.proofs.Common.{◌≡◌, ℕ, Bool, true, false, arith, List, [], ◌∷◌, ◌++◌, length, Option, None, Some, Result, Err, ◌≢◌, refl, sym, ap, subst, inl, inr, append-nil}
use Rattle.std.specs.Prelude.{IfSome, ◌⊎◌}
use Rattle.mi_outside.specs.Holding.{Holding}
use Rattle.mi_outside.specs.Telling.{IfStillTold}
use Rattle.mi_outside.specs.Written.{Emits, EmitsFront}
use Rattle.mi_outside.proofs.Writing.{front_none, front_more, front_last, emits_front}
use Rattle.mi_commands.specs.declared.outcome.Outcome.{Outcome}
use Rattle.mi_commands.specs.declared.outcome.Outcome.TheVariants.{NoMemory, ReadFault, WriteFault}
use Rattle.mi_commands.specs.Settings.{Settings}
use Rattle.mi_commands.specs.Builds.{build_over_origins}
use Rattle.mi_commands.specs.Causes.{AreRead}
use Rattle.mi_commands.specs.Outcomes.{IsFault}
use Rattle.mi_commands.specs.commands.Build.{contents_of, sources_read, output_of_read, output_of_sources}
use Rattle.mi_commands.specs.Output.{is_in_lines, in_lines, AddsFrontAndLine}
use Rattle.mi_commands.proofs.CutLemmas.{cut_nothing}
use Rattle.mi_commands.proofs.OutputLemmas.{emits_then}

-- no bytes were written
pub none_emitted : (a : Option (List ℕ)) (bytes : List ℕ) → length bytes ≡ 0 → Emits a a bytes
none_emitted None bytes h = tt
none_emitted (Some x) [] h = sym (append-nil x)
none_emitted (Some x) (b ∷ bytes) h = absurd (omega arith)

-- the bytes are whole lines
pub lines_whole : (bytes : List ℕ) (a b : Option (List ℕ)) → is_in_lines bytes ≡ true → Emits a b bytes → Emits a b (in_lines bytes)
unfolding in_lines
lines_whole bytes a b h e = rw h e

-- the last line was ended
pub line_ended : (bytes : List ℕ) (a b c : Option (List ℕ)) → is_in_lines bytes ≡ false → Emits a b bytes → Emits b c (10 ∷ []) → Emits a c (in_lines bytes)
unfolding in_lines
line_ended bytes a b c h e f = rw h (emits_then a b c bytes (10 ∷ []) e f)

-- a front of the line feed was written
pub line_ended_front : (bytes : List ℕ) (a b c : Option (List ℕ)) → is_in_lines bytes ≡ false → Emits a b bytes → EmitsFront b c (10 ∷ []) → EmitsFront a c (in_lines bytes)
unfolding in_lines
line_ended_front bytes a b c h e f = rw h (front_last a b c (bytes ++ 10 ∷ []) (10 ∷ []) (emits_front a b bytes (10 ∷ []) e) f)

ended_front : (ended : Bool) (bytes : List ℕ) (a b : Option (List ℕ)) → is_in_lines bytes ≡ ended → EmitsFront a b bytes → EmitsFront a b (in_lines bytes)
unfolding in_lines
ended_front true bytes a b h e = rw h e
ended_front false bytes a b h e = rw h (front_more a b bytes (10 ∷ []) e)

-- a front of the bytes was written
pub lines_front : (bytes : List ℕ) (a b : Option (List ℕ)) → EmitsFront a b bytes → EmitsFront a b (in_lines bytes)
lines_front bytes a b e = ended_front (is_in_lines bytes) bytes a b refl e

-- nothing was emitted, and nothing written
no_lines : (a : Option (List ℕ)) (bytes : List ℕ) → bytes ≡ [] → Emits a a (in_lines bytes)
unfolding in_lines is_in_lines
no_lines None bytes h = tt
no_lines (Some x) bytes h = rw h (sym (append-nil x))

-- the sources were refused before anything was written
pub refused_cut : (held : Option Holding) (settings : Settings) (sources : List (List ℕ)) (a : Option (List ℕ)) → IfSome held (λ old. IfStillTold a a (AddsFrontAndLine (output_of_sources settings (contents_of old sources))))
refused_cut None settings sources a = tt
refused_cut (Some old) settings sources a = cut_nothing a (output_of_sources settings (contents_of old sources))

-- the sources were refused, and emit nothing
pub refused_emits : (outcome : Outcome) (held : Option Holding) (settings : Settings) (sources : List (List ℕ)) (a : Option (List ℕ)) → IsFault outcome ⊎ IfSome held (λ old. sources_read (contents_of old sources) ≡ Err outcome)
    → outcome ≢ NoMemory → outcome ≢ ReadFault → outcome ≢ WriteFault → IfSome held (λ old. Emits a a (in_lines (output_of_sources settings (contents_of old sources))))
refused_emits outcome None settings sources a cause m r w = tt
refused_emits outcome (Some old) settings sources a (inl (inl e)) m r w = absurd (m e)
refused_emits outcome (Some old) settings sources a (inl (inr (inl e))) m r w = absurd (r e)
refused_emits outcome (Some old) settings sources a (inl (inr (inr e))) m r w = absurd (w e)
refused_emits outcome (Some old) settings sources a (inr told) m r w = no_lines a (output_of_sources settings (contents_of old sources)) (ap (λ (r : Result (List (List ℕ)) Outcome). output_of_read settings r) told)

-- what the texts emit is what the sources emit
pub read_cut : (held : Option Holding) (settings : Settings) (sources texts : List (List ℕ)) (a b : Option (List ℕ)) → AreRead sources texts held → IfStillTold a b (AddsFrontAndLine (build_over_origins settings texts).output)
    → IfSome held (λ old. IfStillTold a b (AddsFrontAndLine (output_of_sources settings (contents_of old sources))))
read_cut None settings sources texts a b read h = tt
read_cut (Some old) settings sources texts a b read h =
    subst (λ (r : Result (List (List ℕ)) Outcome). IfStillTold a b (AddsFrontAndLine (output_of_read settings r))) (sym read) h

pub read_whole : (held : Option Holding) (settings : Settings) (sources texts : List (List ℕ)) (a b : Option (List ℕ)) → AreRead sources texts held → Emits a b (in_lines (build_over_origins settings texts).output)
    → IfSome held (λ old. Emits a b (in_lines (output_of_sources settings (contents_of old sources))))
read_whole None settings sources texts a b read h = tt
read_whole (Some old) settings sources texts a b read h =
    subst (λ (r : Result (List (List ℕ)) Outcome). Emits a b (in_lines (output_of_read settings r))) (sym read) h
