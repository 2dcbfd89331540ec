-- Which outcomes may come, from call to call.
use Rattle.std.proofs.Common.{◌≡◌, ◌≤◌, ◌<◌, ℕ, List, [], ◌∷◌, Option, None, Some, arith, length, refl, sym, ◌∙◌, subst, inl, inr}
use Rattle.std.specs.Prelude.{◌⊎◌}
use Rattle.std.specs.Borrow.{Bor}
use Rattle.mi_model.specs.declared.Form.{Form}
use Rattle.mi_model.specs.declared.OriginByte.{OriginByte}
use Rattle.mi_model.specs.declared.Pair.{Pair}
use Rattle.mi_model.specs.Build.{BuildEnd}
use Rattle.mi_model.specs.Build.BuildEnd.{Done as BuildDone, Failed, Refused, EntryMissing, Spent as OutOfTurns}
use Rattle.mi_model.specs.Explained.{UnexplainedCell, first_unexplained}
use Rattle.mi_reloc.specs.declared.building.BuildFault.{BuildFault}
use Rattle.mi_reloc.specs.declared.building.BuildFault.TheVariants.{Thrown as FaultThrown, Spent as FaultSpent, Step as FaultStep, NoEntry as FaultNoEntry, Cell as FaultCell, WriteFault as FaultWrite, NoMemory as FaultNoMemory}
use Rattle.mi_reloc.specs.declared.ending.RunEnd.{RunEnd}
use Rattle.mi_reloc.specs.declared.ending.RunEnd.TheVariants.{Bye, Thrown, Spent, ReadFault, WriteFault as RunWriteFault, InputTooLong, PairNotAllowed, MadeFor, NoMemory as RunNoMemory}
use Rattle.mi_build.specs.Faults.{fault_of_end}
use Rattle.mi_commands.specs.declared.outcome.Outcome.{Outcome}
use Rattle.mi_commands.specs.declared.outcome.Outcome.TheVariants.{NoMemory, WriteFault, TooManySources}
use Rattle.mi_commands.specs.declared.outcome.Outcome.TheVariants as outcomes
use Rattle.mi_commands.specs.Settings.{Settings}
use Rattle.mi_commands.specs.Builds.{build_over_origins}
use Rattle.mi_commands.specs.Causes.{ComesOfTexts, outcome_of_answer}
use Rattle.mi_commands.specs.Outcomes.{IsFault, status_of}
use Rattle.mi_commands.specs.Contract.{built_of}
use Rattle.mi_commands.specs.Limits.{source_count}
use Rattle.mi_commands.specs.commands.Build.{outcome_of_fault, outcome_undone, outcome_of_cells, outcome_of_end, outcome_of_texts}
use Rattle.mi_commands.specs.Options.{words_of}
use Rattle.mi_commands.specs.Possible.{BuildMayEnd, ImageMayEnd, RunMayEnd}
use Rattle.mi_commands.proofs.SourceLemmas.{words_length}

-- of words behind references there are as many
pub words_possible : (names : List (Bor (List ℕ))) (outcome : Outcome) → BuildMayEnd outcome (length names) → BuildMayEnd outcome (length (words_of names))
words_possible names outcome h = subst (λ (n : ℕ). BuildMayEnd outcome n) (sym (words_length names)) h

pub many_possible : (names : List (Bor (List ℕ))) → source_count < length names → BuildMayEnd (TooManySources (length names)) (length (words_of names))
many_possible names h = (omega (arith, words_length names, h), sym (words_length names))

pub few_words : (names : List (Bor (List ℕ))) → length names ≤ source_count → length (words_of names) ≤ source_count
few_words names h = omega (arith, words_length names, h)

-- what the texts come to
fault_possible : (fault : BuildFault) (count : ℕ) → count ≤ source_count → BuildMayEnd (outcome_of_fault fault) count
fault_possible (FaultThrown code file line) count h = h
fault_possible (FaultSpent turns) count h = h
fault_possible (FaultStep number offset tag first second why file line) count h = h
fault_possible FaultNoEntry count h = h
fault_possible (FaultCell offset found) count h = h
fault_possible FaultWrite count h = h
fault_possible FaultNoMemory count h = tt

undone_possible : (fault : Option BuildFault) (count : ℕ) → count ≤ source_count → BuildMayEnd (outcome_undone fault) count
undone_possible None count h = tt
undone_possible (Some fault) count h = fault_possible fault count h

cells_possible : (cell : Option UnexplainedCell) (used turns count : ℕ) → count ≤ source_count → BuildMayEnd (outcome_of_cells cell used turns) count
cells_possible None used turns count h = h
cells_possible (Some cell) used turns count h = h

end_possible : (size : ℕ) (end : BuildEnd Form OriginByte) (count : ℕ) → count ≤ source_count → BuildMayEnd (outcome_of_end size end) count
end_possible size (BuildDone m used turns) count h = cells_possible (first_unexplained size m.bytes used) used turns count h
end_possible size (Failed fault file line) count h = undone_possible (fault_of_end {C = Form} {B = OriginByte} (Failed fault file line)) count h
end_possible size (Refused step) count h = undone_possible (fault_of_end {C = Form} {B = OriginByte} (Refused step)) count h
end_possible size EntryMissing count h = undone_possible (fault_of_end {C = Form} {B = OriginByte} EntryMissing) count h
end_possible size (OutOfTurns budget) count h = undone_possible (fault_of_end {C = Form} {B = OriginByte} (OutOfTurns budget)) count h

pub texts_possible : (settings : Settings) (texts : List (List ℕ)) (count : ℕ) → count ≤ source_count → BuildMayEnd (outcome_of_texts settings texts) count
unfolding outcome_of_texts
texts_possible settings texts count h = end_possible settings.size (build_over_origins settings texts).end count h

build_fault_possible : (outcome : Outcome) (count : ℕ) → count ≤ source_count → IsFault outcome → BuildMayEnd outcome count
build_fault_possible outcome count h (inl e) = subst (λ (o : Outcome). BuildMayEnd o count) (sym e) tt
build_fault_possible outcome count h (inr (inl e)) = subst (λ (o : Outcome). BuildMayEnd o count) (sym e) h
build_fault_possible outcome count h (inr (inr e)) = subst (λ (o : Outcome). BuildMayEnd o count) (sym e) h

pub texts_may_end : (outcome : Outcome) (settings : Settings) (texts : List (List ℕ)) (count : ℕ) → count ≤ source_count → ComesOfTexts outcome settings texts → BuildMayEnd outcome count
texts_may_end outcome settings texts count h (inl fault) = build_fault_possible outcome count h fault
texts_may_end outcome settings texts count h (inr e) = subst (λ (o : Outcome). BuildMayEnd o count) (sym e) (texts_possible settings texts count h)

-- an outcome of a build was reported
pub reported_may_end : (outcome result : Outcome) (count : ℕ) → (result ≡ outcome) ⊎ (result ≡ NoMemory) → BuildMayEnd outcome count → BuildMayEnd result count
reported_may_end outcome result count (inl e) h = subst (λ (o : Outcome). BuildMayEnd o count) (sym e) h
reported_may_end outcome result count (inr e) h = subst (λ (o : Outcome). BuildMayEnd o count) (sym e) tt

pub unstored_may_end : (outcome result : Outcome) (count : ℕ) → count ≤ source_count → (result ≡ outcome) ⊎ (result ≡ NoMemory) → (outcome ≡ NoMemory) ⊎ (outcome ≡ WriteFault) → BuildMayEnd result count
unstored_may_end outcome result count h (inl e) (inl f) = build_fault_possible result count h (inl (e ∙ f))
unstored_may_end outcome result count h (inl e) (inr f) = build_fault_possible result count h (inr (inr (e ∙ f)))
unstored_may_end outcome result count h (inr e) f = build_fault_possible result count h (inl e)

-- an answer of a run, and the refusal of its image
answer_possible : (end : RunEnd) (pair : Pair) → RunMayEnd (outcome_of_answer end pair)
answer_possible Bye pair = tt
answer_possible (Thrown code) pair = tt
answer_possible (Spent turns) pair = tt
answer_possible ReadFault pair = tt
answer_possible RunWriteFault pair = tt
answer_possible InputTooLong pair = tt
answer_possible PairNotAllowed pair = tt
answer_possible (MadeFor other) pair = tt
answer_possible RunNoMemory pair = tt

image_possible : (outcome : Outcome) → ImageMayEnd outcome → RunMayEnd outcome
image_possible outcomes.NoMemory h = h
image_possible outcomes.ReadFault h = h
image_possible (outcomes.NoFile file) h = h
image_possible (outcomes.NotImage file place part) h = h
image_possible (outcomes.Truncated file place) h = h
image_possible (outcomes.TooLarge file part value) h = h
image_possible _ h = absurd h

-- an outcome of a run was written and reported
pub run_may_end : (outcome result : Outcome) → (result ≡ outcome) ⊎ (result ≡ NoMemory) → RunMayEnd outcome → RunMayEnd result
run_may_end outcome result (inl e) h = subst (λ (o : Outcome). RunMayEnd o) (sym e) h
run_may_end outcome result (inr e) h = subst (λ (o : Outcome). RunMayEnd o) (sym e) tt

pub ended_may_end : (outcome result : Outcome) → (result ≡ outcome) ⊎ (result ≡ WriteFault) → RunMayEnd outcome → RunMayEnd result
ended_may_end outcome result (inl e) h = subst (λ (o : Outcome). RunMayEnd o) (sym e) h
ended_may_end outcome result (inr e) h = subst (λ (o : Outcome). RunMayEnd o) (sym e) tt

-- the answer of a run
pub answer_may_end : (end : RunEnd) (pair : Pair) (result : Outcome) → result ≡ outcome_of_answer end pair → RunMayEnd result
answer_may_end end pair result e = subst (λ (o : Outcome). RunMayEnd o) (sym e) (answer_possible end pair)

-- the refusal of its image
pub image_may_end : (outcome result : Outcome) → (result ≡ outcome) ⊎ (result ≡ NoMemory) → ImageMayEnd outcome → RunMayEnd result
image_may_end outcome result same h = run_may_end outcome result same (image_possible outcome h)

-- successes
built_or_done : (outcome : Outcome) (count : ℕ) → built_of outcome ≡ None → BuildMayEnd outcome count → status_of outcome ≡ 0 → ⊥
built_or_done (outcomes.Built used turns) count unbuilt h zero = let no : ⊥ = cc in no
built_or_done outcomes.Done count unbuilt h zero = h
built_or_done other count unbuilt h zero = let no : ⊥ = cc in no

pub unbuilt_fails : (outcome result : Outcome) (count : ℕ) → (result ≡ outcome) ⊎ (result ≡ NoMemory) → built_of outcome ≡ None → BuildMayEnd outcome count → status_of result ≡ 0 → ⊥
unbuilt_fails outcome result count (inl e) unbuilt h zero = built_or_done outcome count unbuilt h (subst (λ (o : Outcome). status_of o ≡ 0) e zero)
unbuilt_fails outcome result count (inr e) unbuilt h zero = let one : status_of NoMemory ≡ 0 = subst (λ (o : Outcome). status_of o ≡ 0) e zero in let no : ⊥ = cc in no

pub unstored_fails : (outcome result : Outcome) → (result ≡ outcome) ⊎ (result ≡ NoMemory) → (outcome ≡ NoMemory) ⊎ (outcome ≡ WriteFault) → status_of result ≡ 0 → ⊥
unstored_fails outcome result (inl e) (inl f) zero = let one : status_of NoMemory ≡ 0 = subst (λ (o : Outcome). status_of o ≡ 0) (e ∙ f) zero in let no : ⊥ = cc in no
unstored_fails outcome result (inl e) (inr f) zero = let four : status_of WriteFault ≡ 0 = subst (λ (o : Outcome). status_of o ≡ 0) (e ∙ f) zero in let no : ⊥ = cc in no
unstored_fails outcome result (inr e) f zero = let one : status_of NoMemory ≡ 0 = subst (λ (o : Outcome). status_of o ≡ 0) e zero in let no : ⊥ = cc in no

pub run_succeeds : (outcome : Outcome) → RunMayEnd outcome → status_of outcome ≡ 0 → outcome ≡ outcomes.Done
run_succeeds outcomes.Done h zero = refl
run_succeeds (outcomes.Built used turns) h zero = absurd h
run_succeeds other h zero = let no : ⊥ = cc in absurd no

image_fails : (outcome : Outcome) → ImageMayEnd outcome → status_of outcome ≡ 0 → ⊥
image_fails outcomes.Done h zero = h
image_fails (outcomes.Built used turns) h zero = h
image_fails other h zero = let no : ⊥ = cc in no

pub unread_fails : (outcome result : Outcome) → (result ≡ outcome) ⊎ (result ≡ NoMemory) → ImageMayEnd outcome → status_of result ≡ 0 → ⊥
unread_fails outcome result (inl e) h zero = image_fails outcome h (subst (λ (o : Outcome). status_of o ≡ 0) e zero)
unread_fails outcome result (inr e) h zero = let one : status_of NoMemory ≡ 0 = subst (λ (o : Outcome). status_of o ≡ 0) e zero in let no : ⊥ = cc in no
