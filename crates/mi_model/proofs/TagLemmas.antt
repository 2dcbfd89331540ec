-- Tokens that stand for no word of the kernel.
use Rattle.std.proofs.Common.{ℕ, ◌≡◌, false, [], ◌∷◌, None, Some, Ok, Err, refl}
use Rattle.mi_model.specs.declared.Fault.TheVariants.{Throw}
use Rattle.mi_model.specs.Ops.{Ops}
use Rattle.mi_model.specs.Machine.{Machine, asked, invalid_address, undefined_word}
use Rattle.mi_model.specs.Region.{fetch}
use Rattle.mi_model.specs.Outcome.{outcome_of}
use Rattle.mi_model.specs.Kernel.{Kernel}
use Rattle.mi_model.specs.Table.{act, action_of}

pub no_code : {C B : Type 0} (ops : Ops C B) (kernel : Kernel) (m : Machine C B) (x code : C) → fetch ops m.bytes x ≡ Ok code → asked (ops.tag code) ≡ Ok None
    → outcome_of ops (act kernel) m (x ∷ []) ≡ Err (Throw invalid_address)
unfolding act
no_code ops kernel m x code fetched none = rw fetched (rw none refl)

pub no_word : {C B : Type 0} (ops : Ops C B) (kernel : Kernel) (m : Machine C B) (x code : C) (t : ℕ) → fetch ops m.bytes x ≡ Ok code → asked (ops.tag code) ≡ Ok (Some t) → kernel.has t ≡ false
    → outcome_of ops (act kernel) m (x ∷ []) ≡ Err (Throw undefined_word)
unfolding act action_of
no_word ops kernel m x code t fetched found absent = rw fetched (rw found (rw absent refl))
