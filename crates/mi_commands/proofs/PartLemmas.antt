-- No part of a file is left behind.
use Rattle.std.proofs.Common.{◌≡◌, ◌≤◌, ℕ, List, [], ◌∷◌, Option, None, Some, arith, length, refl, sym, ◌∙◌, subst, inl, inr}
use Rattle.std.specs.Prelude.{◌⊎◌}
use Rattle.mi_outside.specs.Causes.{Rose}
use Rattle.mi_outside.specs.Holding.{Holding, SameFiles, SameFilesBut}
use Rattle.mi_outside.specs.Telling.{IfStillTold}
use Rattle.mi_commands.specs.declared.outcome.Outcome.{Outcome}
use Rattle.mi_commands.specs.declared.outcome.Outcome.TheVariants.{NoMemory, WriteFault}
use Rattle.mi_commands.specs.Contract.{built_of, BuildsOrKeeps}
use Rattle.mi_commands.specs.Settings.{Settings}
use Rattle.mi_commands.specs.Writing.{part_of, LeavesNoPart, Discards, IsInPlace}
use Rattle.mi_commands.proofs.Told.{still_then}

-- no file changed
pub part_untouched : (part : List ℕ) (a : Option Holding) → IfStillTold a a (LeavesNoPart part)
part_untouched part None = tt
part_untouched part (Some x) = inr refl

pub part_kept : (part : List ℕ) (a b : Option Holding) → IfStillTold a b SameFiles → IfStillTold a b (LeavesNoPart part)
part_kept part a None same = tt
part_kept part None (Some y) same = elim same [ ]
part_kept part (Some x) (Some y) same = inr (same part)

-- it was discarded
removed : (part : List ℕ) (before mid now : ℕ) (x z : Holding) → before ≤ mid → (Rose before now → ⊥) → (z.file part ≡ None) ⊎ Rose mid now → LeavesNoPart part x z
removed part before mid now x z later calm (inl gone) = inl gone
removed part before mid now x z later calm (inr rose) = absurd (calm (omega (arith, later, rose)))

pub part_removed : (part name : List ℕ) (before mid now : ℕ) (a b c : Option Holding) → name ≡ part → before ≤ mid → IfStillTold a b (SameFilesBut name) → IfStillTold b c (Discards name mid now) → (Rose before now → ⊥) → IfStillTold a c (LeavesNoPart part)
part_removed part name before mid now a b None is later others gone calm = tt
part_removed part name before mid now a None (Some z) is later others gone calm = elim gone [ ]
part_removed part name before mid now None (Some y) (Some z) is later others gone calm = elim others [ ]
part_removed part name before mid now (Some x) (Some y) (Some z) is later others gone calm =
    subst (λ (p : List ℕ). LeavesNoPart p x z) is (removed name before mid now x z later calm gone.gone)

-- the sources were read before
after_same : (part : List ℕ) (x y z : Holding) → SameFiles x y → LeavesNoPart part y z → LeavesNoPart part x z
after_same part x y z same (inl gone) = inl gone
after_same part x y z same (inr kept) = inr (kept ∙ same part)

pub part_then : (part : List ℕ) (a b c : Option Holding) → IfStillTold a b SameFiles → IfStillTold b c (LeavesNoPart part) → IfStillTold a c (LeavesNoPart part)
part_then part a b None same h = tt
part_then part a None (Some z) same h = elim h [ ]
part_then part None (Some y) (Some z) same h = elim same [ ]
part_then part (Some x) (Some y) (Some z) same h = after_same part x y z same h

-- the image was stored
pub part_placed : (part out bytes : List ℕ) (b c : Option Holding) → IfStillTold b c (IsInPlace part out bytes) → IfStillTold b c (LeavesNoPart part)
part_placed part out bytes b None h = tt
part_placed part out bytes None (Some z) h = elim h [ ]
part_placed part out bytes (Some y) (Some z) h = inl h.gone

-- the image wasn't stored, and no file but the part changed
fault_keeps : (result : Outcome) (out : List ℕ) (sources : List (List ℕ)) (settings : Settings) (ho hn : Option Holding) (wo wn : Option (List ℕ)) → (result ≡ NoMemory) ⊎ (result ≡ WriteFault) → IfStillTold ho hn (SameFilesBut (part_of out)) → BuildsOrKeeps (built_of result) result out sources settings ho hn wo wn
fault_keeps result out sources settings ho hn wo wn (inl e) others =
    subst (λ (o : Outcome). BuildsOrKeeps (built_of o) o out sources settings ho hn wo wn) (sym e) (record { others = others; part = λ m w. absurd (m refl) })
fault_keeps result out sources settings ho hn wo wn (inr e) others =
    subst (λ (o : Outcome). BuildsOrKeeps (built_of o) o out sources settings ho hn wo wn) (sym e) (record { others = others; part = λ m w. absurd (w refl) })

is_fault : (outcome result : Outcome) → (result ≡ outcome) ⊎ (result ≡ NoMemory) → (outcome ≡ NoMemory) ⊎ (outcome ≡ WriteFault) → (result ≡ NoMemory) ⊎ (result ≡ WriteFault)
is_fault outcome result (inl e) (inl f) = inl (e ∙ f)
is_fault outcome result (inl e) (inr f) = inr (e ∙ f)
is_fault outcome result (inr e) f = inl e

pub unstored_keeps : (outcome result : Outcome) (out : List ℕ) (sources : List (List ℕ)) (settings : Settings) (a b c : Option Holding) (wo wn : Option (List ℕ)) → (result ≡ outcome) ⊎ (result ≡ NoMemory) → (outcome ≡ NoMemory) ⊎ (outcome ≡ WriteFault)
    → IfStillTold a b SameFiles → IfStillTold b c (SameFilesBut (part_of out)) → BuildsOrKeeps (built_of result) result out sources settings a c wo wn
unstored_keeps outcome result out sources settings a b c wo wn same refusal kept others =
    fault_keeps result out sources settings a c wo wn (is_fault outcome result same refusal)
    (still_then SameFiles (SameFilesBut (part_of out)) (SameFilesBut (part_of out)) (λ x y z k l name differs. l name differs ∙ k name) a b c kept others)
