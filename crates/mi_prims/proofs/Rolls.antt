-- What the steps of a roll come to.
use Rattle.std.proofs.Common.{◌≡◌, ℕ, zero, suc, ◌+◌, ◌<◌, List, [], ◌∷◌, ◌++◌, Result, Ok, length, get_or, take, drop, refl, ap, sym, ◌∙◌, arith, length-append}
use Rattle.std.proofs.lemmas.List.{get_or_append_left, get_or_at}
use Rattle.mi_model.specs.declared.Fault.{Fault}
use Rattle.mi_model.specs.Machine.{Machine, after}
use Rattle.mi_model.specs.Ops.{Ops}
use Rattle.mi_model.specs.Action.{Action}
use Rattle.mi_model.specs.Action.AnswerKind.{Nothing}
use Rattle.mi_model.specs.Action.Action.{Give, Drop, Push, Item}
use Rattle.mi_model.specs.Action.Operand.{Named}
use Rattle.mi_model.specs.Outcome.{outcome_of}
use Rattle.mi_model.specs.Stacks.{roll}

-- puts the item of a name under the top item
abbrev put_under : (i : ℕ) → Action Nothing
put_under i = Item 0 (λ y. Drop 1 0 (Push (Named i) (Push y (Give tt))))

-- the same as `rolls` below, of a stack by cases: with more items above it than none, the item comes to the top of those
-- under the first, which then goes under it
rolls_of : {C B : Type 0} (ops : Ops C B) (n : ℕ) (m : Machine C B) (xs : List C) (names : List C) → n < length xs
    → outcome_of ops (roll n) (record m { stack = xs }) names ≡ Ok (tt, record m { stack = get_or xs n (ops.plain 0) ∷ (take n xs ++ drop (n + 1) xs) })
rolls_of ops n m [] names h = absurd (omega arith)
rolls_of ops zero m (x ∷ xs) names h = refl
rolls_of {C} {B} ops (suc n) m (x ∷ xs) names h =
    let d = ops.plain 0 in
    let y = get_or xs n d in
    let under = take n xs ++ drop (n + 1) xs in
    let with_x = names ++ x ∷ [] in
    let with_y = with_x ++ y ∷ [] in
    let place : suc n + 1 ≡ suc (n + 1) = omega arith in
    let first : get_or with_y (length names) d ≡ x =
    get_or_append_left with_x (y ∷ []) d (length names) (omega (arith, length-append names (x ∷ []))) ∙ get_or_at names x [] d (length names) refl in
    ap (λ (r : Result (Unit {0} × Machine C B) Fault). after r (λ (s : Unit {0} × Machine C B). outcome_of ops (put_under (length names)) s.1 with_x)) (rolls_of ops n m xs [] (omega arith))
    ∙ ap (λ (z : C). Ok (tt, record m { stack = z ∷ (get_or with_y (length names) d ∷ under) })) (get_or_at with_x y [] d (length with_x) refl)
    ∙ ap (λ (z : C). Ok (tt, record m { stack = y ∷ (z ∷ under) })) first
    ∙ ap (λ (k : ℕ). Ok (tt, record m { stack = y ∷ ((x ∷ take n xs) ++ drop k (x ∷ xs)) })) (sym place)

-- the item with n above it comes to the top, and nothing else changes
pub rolls : {C B : Type 0} (ops : Ops C B) (n : ℕ) (m : Machine C B) (names : List C) → n < length m.stack
    → outcome_of ops (roll n) m names ≡ Ok (tt, record m { stack = get_or m.stack n (ops.plain 0) ∷ (take n m.stack ++ drop (n + 1) m.stack) })
rolls ops n m names h = rolls_of ops n m m.stack names h
