-- The parts of an image's file, one after the other.
use Rattle.std.proofs.Common.{◌≡◌, ℕ, ◌+◌, ◌-◌, ◌<◌, suc, Bool, List, [], ◌∷◌, ◌++◌, arith, append_assoc}
use Rattle.mi_model.specs.Image.{bitmap_byte, bitmap_from}

-- the bytes of the bitmap from one on begin with that one
pub next_byte : (bytes : List ℕ) (marks : List Bool) (n j : ℕ) → j < n
    → (bytes ++ bitmap_byte marks j ∷ []) ++ bitmap_from marks (n - (j + 1)) (j + 1) ≡ bytes ++ bitmap_from marks (n - j) j
next_byte bytes marks n j h = let e : n - j ≡ suc (n - (j + 1)) = omega arith in rw e (append_assoc bytes _ _)
