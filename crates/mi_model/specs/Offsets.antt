-- What an arithmetic says of addresses in the region, told by their offsets.
use Rattle.std.specs.Prelude.{ℕ, ◌≡◌, ◌+◌, ◌<◌, ◌^◌, Bool, nat_lt, Some, Ok}
use Rattle.mi_model.specs.Ops.{Ops}
use Rattle.mi_model.specs.Ops.Two.{Add}
use Rattle.mi_model.specs.Ops.Test.{Below}

-- addresses that have places are in the order of their offsets, and what is added to one is added to its offset
pub record KeepsOffsets {C B : Type 0} (ops : Ops C B) : Type 0 where
  pub ordered : (x y : C) (o p : ℕ) (below : Bool) → ops.place x ≡ Ok (Some o) → ops.place y ≡ Ok (Some p) → ops.test Below x y ≡ Ok below → below ≡ nat_lt o p
  pub added : (x y : C) (o p n : ℕ) → n < 2 ^ 32 → ops.place x ≡ Ok (Some o) → ops.two Add x (ops.plain n) ≡ Ok y → ops.place y ≡ Ok (Some p) → p ≡ o + n
