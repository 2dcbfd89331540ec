-- Lists of which each member stands for one.
use Rattle.std.proofs.Common.{◌≡◌, ℕ, zero, suc, List, ◌++◌, length, get_or, take, drop, set, replicate, refl, ap}
use Rattle.mi_model.specs.Outcome.{top}
use Rattle.mi_model.specs.Stands.{Each}
use Rattle.mi_model.specs.Stands.Each.{none, more}

pub each_length : {X Y : Type 0} {R : X → Y → Type 0} {xs : List X} {ys : List Y} → Each R xs ys → length xs ≡ length ys
each_length none = refl
each_length (more r e) = ap suc (each_length e)

pub each_append : {X Y : Type 0} {R : X → Y → Type 0} {xs cs : List X} {ys ds : List Y} → Each R xs ys → Each R cs ds → Each R (xs ++ cs) (ys ++ ds)
each_append none f = f
each_append (more r e) f = more r (each_append e f)

pub each_take : {X Y : Type 0} {R : X → Y → Type 0} {xs : List X} {ys : List Y} (n : ℕ) → Each R xs ys → Each R (take n xs) (take n ys)
each_take zero e = none
each_take (suc n) none = none
each_take (suc n) (more r e) = more r (each_take n e)

pub each_drop : {X Y : Type 0} {R : X → Y → Type 0} {xs : List X} {ys : List Y} (n : ℕ) → Each R xs ys → Each R (drop n xs) (drop n ys)
each_drop zero e = e
each_drop (suc n) none = none
each_drop (suc n) (more r e) = each_drop n e

pub each_get : {X Y : Type 0} {R : X → Y → Type 0} {xs : List X} {ys : List Y} {a : X} {b : Y} (n : ℕ) → Each R xs ys → R a b → R (get_or xs n a) (get_or ys n b)
each_get n none d = d
each_get zero (more r e) d = r
each_get (suc n) (more r e) d = each_get n e d

pub each_set : {X Y : Type 0} {R : X → Y → Type 0} {xs : List X} {ys : List Y} {a : X} {b : Y} (n : ℕ) → Each R xs ys → R a b → Each R (set xs n a) (set ys n b)
each_set n none d = none
each_set zero (more r e) d = more d e
each_set (suc n) (more r e) d = more r (each_set n e d)

pub each_top : {X Y : Type 0} {R : X → Y → Type 0} {xs : List X} {ys : List Y} (a : X) (b : Y) (n : ℕ) → R a b → Each R xs ys → Each R (top a n xs) (top b n ys)
each_top a b zero d e = none
each_top a b (suc n) d e = more (each_get n e d) (each_top a b n d e)

pub each_replicate : {X Y : Type 0} {R : X → Y → Type 0} (a : X) (b : Y) (n : ℕ) → R a b → Each R (replicate n a) (replicate n b)
each_replicate a b zero h = none
each_replicate a b (suc n) h = more h (each_replicate a b n h)
