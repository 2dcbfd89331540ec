-- What a token stands for is the action of its tag.
use Rattle.std.proofs.Common.{◌≡◌, ℕ, [], ◌∷◌, refl, Result, Ok, Err, Option, None, Some}
use Rattle.mi_model.specs.declared.Fault.{Fault}
use Rattle.mi_model.specs.declared.Effect.{Effect}
use Rattle.mi_model.specs.declared.Token.{Token}
use Rattle.mi_model.specs.Ops.{Ops}
use Rattle.mi_model.specs.Machine.{Machine, after, asked, or_throw, invalid_address}
use Rattle.mi_model.specs.Region.{cell_at, fetch_at, fetch}
use Rattle.mi_model.specs.Action.Operand.{Named}
use Rattle.mi_model.specs.Action.Action.{Again}
use Rattle.mi_model.specs.Action.AnswerKind.{Effects}
use Rattle.mi_model.specs.Outcome.{outcome_of}
use Rattle.mi_model.specs.Kernel.{Kernel}
use Rattle.mi_model.specs.Table.{act, action_of, tagged}
use Rattle.mi_model.specs.Tokens.{token_at}

-- the action of a token with its tag
abbrev done : {C B : Type 0} → Ops C B → Kernel → Machine C B → C → Token → Result (Effect × Machine C B) Fault
done ops kernel m x t = outcome_of ops (action_of kernel t.tag) m (x ∷ [])

-- a token with the tag that was found, if there is one
abbrev with_tag : ℕ → Option ℕ → Result Token Fault
with_tag o found = after (or_throw found invalid_address) (λ (t : ℕ). Ok (record { offset = o; tag = t }))

abbrev acted_by : {C B : Type 0} → Ops C B → Kernel → Machine C B → (x code : C) → Option ℕ → Result (Effect × Machine C B) Fault
acted_by ops kernel m x code found = outcome_of ops (tagged {i = Effects} found (λ t. Again (Named 0 ∷ []) (action_of kernel t))) m (x ∷ (code ∷ []))

by_tag : {C B : Type 0} (ops : Ops C B) (kernel : Kernel) (m : Machine C B) (x code : C) (o : ℕ) (found : Result (Option ℕ) Fault)
    → after found (acted_by ops kernel m x code) ≡ after (after found (with_tag o)) (done ops kernel m x)
by_tag ops kernel m x code o (Ok (Some t)) = refl
by_tag ops kernel m x code o (Ok None) = refl
by_tag ops kernel m x code o (Err f) = refl

by_code : {C B : Type 0} (ops : Ops C B) (kernel : Kernel) (m : Machine C B) (x : C) (o : ℕ) (code : Result C Fault)
    → after code (λ (c : C). after (asked (ops.tag c)) (acted_by ops kernel m x c)) ≡ after (after code (λ (c : C). after (asked (ops.tag c)) (with_tag o))) (done ops kernel m x)
by_code ops kernel m x o (Ok c) = by_tag ops kernel m x c o (asked (ops.tag c))
by_code ops kernel m x o (Err f) = refl

by_place : {C B : Type 0} (ops : Ops C B) (kernel : Kernel) (m : Machine C B) (x : C) (place : Result ℕ Fault)
    → after (after place (λ (o : ℕ). fetch_at ops m.bytes o)) (λ (c : C). after (asked (ops.tag c)) (acted_by ops kernel m x c))
    ≡ after (after place (λ (o : ℕ). after (fetch_at ops m.bytes o) (λ (c : C). after (asked (ops.tag c)) (with_tag o)))) (done ops kernel m x)
by_place ops kernel m x (Ok o) = by_code ops kernel m x o (fetch_at ops m.bytes o)
by_place ops kernel m x (Err f) = refl

pub acted : {C B : Type 0} (ops : Ops C B) (kernel : Kernel) (m : Machine C B) (x : C)
    → outcome_of ops (act kernel) m (x ∷ []) ≡ after (token_at ops m.bytes x) (λ (t : Token). outcome_of ops (action_of kernel t.tag) m (x ∷ []))
unfolding act token_at fetch
acted ops kernel m x = by_place ops kernel m x (cell_at ops m.bytes x)
