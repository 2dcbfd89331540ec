-- Eight neighbouring bytes.
use Rattle.std.proofs.Common.{◌≡◌, ℕ, zero, suc, ◌+◌, ◌-◌, ◌<◌, ◌≤◌, List, get_or, arith}

small_at : (bytes : List ℕ) (o : ℕ) → get_or bytes o 0 < 256 → get_or bytes (o + 1) 0 < 256 → get_or bytes (o + 2) 0 < 256 → get_or bytes (o + 3) 0 < 256
    → get_or bytes (o + 4) 0 < 256 → get_or bytes (o + 5) 0 < 256 → get_or bytes (o + 6) 0 < 256 → get_or bytes (o + 7) 0 < 256
    → (j k : ℕ) → k ≡ o + j → j < 8 → get_or bytes k 0 < 256
small_at bytes o h0 h1 h2 h3 h4 h5 h6 h7 zero k e below = let f : k ≡ o = omega arith in rw f h0
small_at bytes o h0 h1 h2 h3 h4 h5 h6 h7 (suc zero) k e below = let f : k ≡ o + 1 = omega arith in rw f h1
small_at bytes o h0 h1 h2 h3 h4 h5 h6 h7 (suc (suc zero)) k e below = let f : k ≡ o + 2 = omega arith in rw f h2
small_at bytes o h0 h1 h2 h3 h4 h5 h6 h7 (suc (suc (suc zero))) k e below = let f : k ≡ o + 3 = omega arith in rw f h3
small_at bytes o h0 h1 h2 h3 h4 h5 h6 h7 (suc (suc (suc (suc zero)))) k e below = let f : k ≡ o + 4 = omega arith in rw f h4
small_at bytes o h0 h1 h2 h3 h4 h5 h6 h7 (suc (suc (suc (suc (suc zero))))) k e below = let f : k ≡ o + 5 = omega arith in rw f h5
small_at bytes o h0 h1 h2 h3 h4 h5 h6 h7 (suc (suc (suc (suc (suc (suc zero)))))) k e below = let f : k ≡ o + 6 = omega arith in rw f h6
small_at bytes o h0 h1 h2 h3 h4 h5 h6 h7 (suc (suc (suc (suc (suc (suc (suc zero))))))) k e below = let f : k ≡ o + 7 = omega arith in rw f h7
small_at bytes o h0 h1 h2 h3 h4 h5 h6 h7 (suc (suc (suc (suc (suc (suc (suc (suc j)))))))) k e below = absurd (omega arith)

-- bytes that are small one by one are small at each place among them
pub eight_small : (bytes : List ℕ) (o : ℕ) → get_or bytes o 0 < 256 → get_or bytes (o + 1) 0 < 256 → get_or bytes (o + 2) 0 < 256 → get_or bytes (o + 3) 0 < 256
    → get_or bytes (o + 4) 0 < 256 → get_or bytes (o + 5) 0 < 256 → get_or bytes (o + 6) 0 < 256 → get_or bytes (o + 7) 0 < 256
    → (k : ℕ) → o ≤ k → k < o + 8 → get_or bytes k 0 < 256
eight_small bytes o h0 h1 h2 h3 h4 h5 h6 h7 k from to = small_at bytes o h0 h1 h2 h3 h4 h5 h6 h7 (k - o) k (omega arith) (omega arith)
