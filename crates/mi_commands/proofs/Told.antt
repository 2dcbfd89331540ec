-- One call after another, on an object that may tell or not.
use Rattle.std.proofs.Common.{◌≡◌, Some, None, refl}
use Rattle.std.specs.Prelude.{Option}
use Rattle.mi_outside.specs.Telling.{WhileTold, IfStillTold}

none_some : {A : Type 0} {P : Type 0} (x : A) → Some x ≡ None → P
none_some x e = let no : ⊥ = cc in absurd no

-- two calls that tell on tell on together
pub while_then : {A : Type 0} (R S T : A → A → Type 0) → ((x y z : A) → R x y → S y z → T x z) → (a b c : Option A) → WhileTold a b R → WhileTold b c S → WhileTold a c T
while_then R S T step None None None r s = refl
while_then R S T step (Some x) (Some y) (Some z) r s = step x y z r s
while_then R S T step None (Some y) c r s = none_some y r
while_then R S T step None None (Some z) r s = none_some z s
while_then R S T step (Some x) None c r s = elim r [ ]
while_then R S T step (Some x) (Some y) None r s = elim s [ ]

-- what follows from what a call did
pub while_so : {A : Type 0} (R T : A → A → Type 0) → ((x y : A) → R x y → T x y) → (a b : Option A) → WhileTold a b R → WhileTold a b T
while_so R T step None b r = r
while_so R T step (Some x) None r = r
while_so R T step (Some x) (Some y) r = step x y r

-- two calls that may stop telling
pub still_then : {A : Type 0} (R S T : A → A → Type 0) → ((x y z : A) → R x y → S y z → T x z) → (a b c : Option A) → IfStillTold a b R → IfStillTold b c S → IfStillTold a c T
still_then R S T step a b None r s = s
still_then R S T step a None (Some z) r s = elim s [ ]
still_then R S T step None (Some y) (Some z) r s = elim r [ ]
still_then R S T step (Some x) (Some y) (Some z) r s = step x y z r s

-- what follows from what such a call did
pub still_so : {A : Type 0} (R T : A → A → Type 0) → ((x y : A) → R x y → T x y) → (a b : Option A) → IfStillTold a b R → IfStillTold a b T
still_so R T step a None r = r
still_so R T step None (Some y) r = r
still_so R T step (Some x) (Some y) r = step x y r
