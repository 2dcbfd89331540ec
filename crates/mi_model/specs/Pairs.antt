-- Base pairs.
use Rattle.std.specs.Prelude.{◌≡◌, ◌≤◌, ◌-◌, ◌%◌, ◌^◌}
use Rattle.mi_model.specs.declared.Pair.{Pair}
use Rattle.mi_model.specs.declared.TheConstants.{GRID}

-- the pairs at which an image may stand
pub record IsAllowedPair (pair : Pair) : Type 0 where
  pub d_aligned : pair.d % GRID ≡ 0
  pub k_aligned : pair.k % GRID ≡ 0
  pub d_least : 2 ^ 32 ≤ pair.d
  pub d_most : pair.d ≤ 2 ^ 46 - 2 ^ 32
  pub k_least : 2 ^ 46 ≤ pair.k
  pub k_most : pair.k ≤ 2 ^ 47 - 2 ^ 32

-- where a run stands that is told no pair
abbrev pub first_pair : Pair
first_pair = record { d = 0x2_0000_0000; k = 0x5000_0000_0000 }

-- another pair, which differs from it in every part
abbrev pub second_pair : Pair
second_pair = record { d = 0x1234_5678_8000; k = 0x6789_abcd_e000 }
