-- What the answers claim, from call to call.
use Rattle.std.proofs.Common.{◌≡◌, ℕ, List, Option, None, Some, Ok, Err, sym, ◌∙◌, subst, inl, inr}
use Rattle.std.specs.Prelude.{◌⊎◌, IfSome, Result}
use Rattle.mi_model.specs.declared.Pair.{Pair}
use Rattle.mi_model.specs.Build.{BuildEnd}
use Rattle.mi_model.specs.Build.BuildEnd.{Done, Failed, Refused, EntryMissing, Spent}
use Rattle.mi_model.specs.Image.{ImageRecord, loaded}
use Rattle.mi_outside.specs.Holding.{Holding}
use Rattle.mi_build.specs.Made.{IsDone}
use Rattle.mi_commands.specs.declared.outcome.Outcome.{Outcome}
use Rattle.mi_commands.specs.declared.outcome.Outcome.TheVariants.{Built, NoMemory, ReadFault, WriteFault}
use Rattle.mi_commands.specs.Settings.{Settings}
use Rattle.mi_commands.specs.Builds.{build_at}
use Rattle.mi_commands.specs.Contract.{ServesAt, ServesEveryPair}
use Rattle.mi_commands.specs.Causes.{AreRead}
use Rattle.mi_commands.specs.Outcomes.{IsFault}
use Rattle.mi_commands.specs.Claims.{Claims, ClaimsOfSources}
use Rattle.mi_commands.specs.commands.Build.{contents_of, sources_read}

-- a fault claims nothing
pub no_memory_claims : (settings : Settings) (texts : List (List ℕ)) → Claims NoMemory settings texts
no_memory_claims settings texts = record { every_pair = λ pair allowed. tt; no_image = λ offset x e. let no : ⊥ = cc in absurd no; reached = λ s pair allowed e ends. let no : ⊥ = cc in absurd no }

pub write_fault_claims : (settings : Settings) (texts : List (List ℕ)) → Claims WriteFault settings texts
write_fault_claims settings texts = record { every_pair = λ pair allowed. tt; no_image = λ offset x e. let no : ⊥ = cc in absurd no; reached = λ s pair allowed e ends. let no : ⊥ = cc in absurd no }

read_fault_claims : (settings : Settings) (texts : List (List ℕ)) → Claims ReadFault settings texts
read_fault_claims settings texts = record { every_pair = λ pair allowed. tt; no_image = λ offset x e. let no : ⊥ = cc in absurd no; reached = λ s pair allowed e ends. let no : ⊥ = cc in absurd no }

fault_claims : (outcome : Outcome) (settings : Settings) (texts : List (List ℕ)) → IsFault outcome → Claims outcome settings texts
fault_claims outcome settings texts (inl e) = subst (λ (o : Outcome). Claims o settings texts) (sym e) (no_memory_claims settings texts)
fault_claims outcome settings texts (inr (inl e)) = subst (λ (o : Outcome). Claims o settings texts) (sym e) (read_fault_claims settings texts)
fault_claims outcome settings texts (inr (inr e)) = subst (λ (o : Outcome). Claims o settings texts) (sym e) (write_fault_claims settings texts)

fault_of_sources : (outcome : Outcome) (settings : Settings) (sources : List (List ℕ)) (held : Option Holding) → IsFault outcome → ClaimsOfSources outcome settings sources held
fault_of_sources outcome settings sources None fault = tt
fault_of_sources outcome settings sources (Some old) fault = λ texts read. fault_claims outcome settings texts fault

-- the sources were refused
pub refusal_claims : (outcome : Outcome) (settings : Settings) (sources : List (List ℕ)) (held : Option Holding) → IsFault outcome ⊎ IfSome held (λ old. sources_read (contents_of old sources) ≡ Err outcome) → ClaimsOfSources outcome settings sources held
refusal_claims outcome settings sources None cause = tt
refusal_claims outcome settings sources (Some old) (inl fault) = λ texts read. fault_claims outcome settings texts fault
refusal_claims outcome settings sources (Some old) (inr told) = λ texts read. let no : ⊥ = cc in absurd no

-- the texts are those that were read
same_texts : (xs ys : List (List ℕ)) (r : Result (List (List ℕ)) Outcome) → r ≡ Ok xs → r ≡ Ok ys → xs ≡ ys
same_texts xs ys r e f = cc

-- the claims are of the texts that were read
pub texts_claim : (outcome : Outcome) (settings : Settings) (sources texts : List (List ℕ)) (held : Option Holding) → AreRead sources texts held → Claims outcome settings texts → ClaimsOfSources outcome settings sources held
texts_claim outcome settings sources texts None read h = tt
texts_claim outcome settings sources texts (Some old) read h =
    λ others again. subst (λ (ts : List (List ℕ)). Claims outcome settings ts) (same_texts texts others (sources_read (contents_of old sources)) read again) h

-- what is claimed by an outcome, or by the want of memory for its report
pub reported_claims : (outcome result : Outcome) (settings : Settings) (sources : List (List ℕ)) (held : Option Holding) → (result ≡ outcome) ⊎ (result ≡ NoMemory) → ClaimsOfSources outcome settings sources held → ClaimsOfSources result settings sources held
reported_claims outcome result settings sources held (inl e) h = subst (λ (o : Outcome). ClaimsOfSources o settings sources held) (sym e) h
reported_claims outcome result settings sources held (inr e) h = fault_of_sources result settings sources held (inl e)

-- the image wasn't stored
pub unstored_claims : (outcome result : Outcome) (settings : Settings) (sources : List (List ℕ)) (held : Option Holding) → (result ≡ outcome) ⊎ (result ≡ NoMemory) → (outcome ≡ NoMemory) ⊎ (outcome ≡ WriteFault) → ClaimsOfSources result settings sources held
unstored_claims outcome result settings sources held (inl e) (inl f) = fault_of_sources result settings sources held (inl (e ∙ f))
unstored_claims outcome result settings sources held (inl e) (inr f) = fault_of_sources result settings sources held (inr (inr (e ∙ f)))
unstored_claims outcome result settings sources held (inr e) f = fault_of_sources result settings sources held (inl e)

-- what is in use, and the turns
counts : (end : BuildEnd ℕ ℕ) (image : ImageRecord) (pair : Pair) (used turns : ℕ) → IsDone end (λ m u t. (loaded image pair ≡ m.bytes) × (u ≡ used) × (t ≡ turns)) → IsDone end (λ m u t. (u ≡ used) × (t ≡ turns))
counts (Done m u t) image pair used turns h = (h.1, h.2)
counts (Failed f file line) image pair used turns h = h
counts (Refused step) image pair used turns h = h
counts EntryMissing image pair used turns h = h
counts (Spent budget) image pair used turns h = h

-- an image that serves the texts
served_claims : (image : ImageRecord) (used turns : ℕ) (settings : Settings) (texts : List (List ℕ)) → ServesEveryPair image used turns settings texts → Claims (Built used turns) settings texts
served_claims image used turns settings texts h =
    record {
      every_pair = λ pair allowed. let at : ServesAt image used turns settings texts pair = h.every_pair pair allowed in (counts (build_at pair settings texts).end image pair used turns at.region, at.emits);
      no_image = λ offset x e. let no : ⊥ = cc in absurd no;
      reached = λ s pair allowed e ends. let no : ⊥ = cc in absurd no;
    }

pub made_claims : (image : ImageRecord) (used turns : ℕ) (settings : Settings) (sources texts : List (List ℕ)) (held : Option Holding) → AreRead sources texts held → ServesEveryPair image used turns settings texts → ClaimsOfSources (Built used turns) settings sources held
made_claims image used turns settings sources texts held read h = texts_claim (Built used turns) settings sources texts held read (served_claims image used turns settings texts h)
