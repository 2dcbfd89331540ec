-- A write leaves every byte outside of it as it was, and the length of the region too.
use Rattle.std.proofs.Common.{ℕ, suc, ◌≡◌, ◌≢◌, ◌+◌, ◌-◌, ◌<◌, ◌≤◌, ◌⊎◌, inl, inr, List, [], ◌∷◌, ◌++◌, length, get_or, take, drop, replicate, slice_set, refl, ap, ◌∙◌, arith, length-append}
use Rattle.std.proofs.lemmas.List.{get_or-set_other, get_or-take, get_or-drop, get_or_append_left, get_or-append_right, length-take-le, length-drop, length-replicate}
use Rattle.std.proofs.Math.ListN.{length-set}
use Rattle.mi_model.specs.Ops.{Ops}
use Rattle.mi_model.specs.Region.{get, with_moved, with_filled, with_text}

-- n bytes in place of the n bytes at an offset
put_in_leaves : {B : Type 0} (bytes others : List B) (o n i : ℕ) (d : B) → length others ≡ n → o + n ≤ length bytes → (i < o) ⊎ (o + n ≤ i)
    → get_or (take o bytes ++ (others ++ drop (o + n) bytes)) i d ≡ get_or bytes i d
put_in_leaves bytes others o n i d many fits (inl before_them) =
    let front : length (take o bytes) ≡ o = length-take-le o bytes (omega arith) in
    get_or_append_left (take o bytes) (others ++ drop (o + n) bytes) d i (omega (arith, front)) ∙ get_or-take o bytes i d before_them
put_in_leaves bytes others o n i d many fits (inr after_them) =
    let front : length (take o bytes) ≡ o = length-take-le o bytes (omega arith) in
    let place : o + n + (i - o - n) ≡ i = omega arith in
    get_or-append_right (take o bytes) (others ++ drop (o + n) bytes) o i d front (omega arith)
    ∙ get_or-append_right others (drop (o + n) bytes) n (i - o) d many (omega arith)
    ∙ get_or-drop (o + n) bytes (i - o - n) d ∙ ap (λ (k : ℕ). get_or bytes k d) place

put_in_keeps_length : {B : Type 0} (bytes others : List B) (o n : ℕ) → length others ≡ n → o + n ≤ length bytes
    → length (take o bytes ++ (others ++ drop (o + n) bytes)) ≡ length bytes
put_in_keeps_length bytes others o n many fits =
    omega (arith, many, length-append (take o bytes) (others ++ drop (o + n) bytes), length-append others (drop (o + n) bytes), length-take-le o bytes (omega arith), length-drop (o + n) bytes)

-- n bytes that lie in the region
read_many : {B : Type 0} (bytes : List B) (from n : ℕ) → from + n ≤ length bytes → length (take n (drop from bytes)) ≡ n
read_many bytes from n fits = length-take-le n (drop from bytes) (omega (arith, length-drop from bytes))

pub moved_keeps_length : {B : Type 0} (bytes : List B) (from to n : ℕ) → from + n ≤ length bytes → to + n ≤ length bytes → length (with_moved bytes from to n) ≡ length bytes
moved_keeps_length bytes from to n reads fits = put_in_keeps_length bytes (take n (drop from bytes)) to n (read_many bytes from n reads) fits

pub filled_keeps_length : {B : Type 0} (bytes : List B) (o n : ℕ) (b : B) → o + n ≤ length bytes → length (with_filled bytes o n b) ≡ length bytes
filled_keeps_length bytes o n b fits = put_in_keeps_length bytes (replicate n b) o n (length-replicate n b) fits

-- a byte behind the first one of a text, or in front of it, is outside of the rest
outside_rest : (o n i : ℕ) → (i < o) ⊎ (o + suc n ≤ i) → (i < o + 1) ⊎ (o + 1 + n ≤ i)
outside_rest o n i (inl before_it) = inl (omega arith)
outside_rest o n i (inr after_it) = inr (omega arith)

outside_first : (o n i : ℕ) → (i < o) ⊎ (o + suc n ≤ i) → i ≢ o
outside_first o n i outside = grind (arith)

module _ {C B : Type 0} (ops : Ops C B) where
  pub byte_leaves : (bytes : List B) (o i : ℕ) (b : B) → i ≢ o → get ops (slice_set bytes o b) i ≡ get ops bytes i
  byte_leaves bytes o i b other = get_or-set_other bytes o i b (ops.byte 0) other

  pub moved_leaves : (bytes : List B) (from to n i : ℕ) → from + n ≤ length bytes → to + n ≤ length bytes → (i < to) ⊎ (to + n ≤ i) → get ops (with_moved bytes from to n) i ≡ get ops bytes i
  moved_leaves bytes from to n i reads fits outside = put_in_leaves bytes (take n (drop from bytes)) to n i (ops.byte 0) (read_many bytes from n reads) fits outside

  pub filled_leaves : (bytes : List B) (o n i : ℕ) (b : B) → o + n ≤ length bytes → (i < o) ⊎ (o + n ≤ i) → get ops (with_filled bytes o n b) i ≡ get ops bytes i
  filled_leaves bytes o n i b fits outside = put_in_leaves bytes (replicate n b) o n i (ops.byte 0) (length-replicate n b) fits outside

  pub text_leaves : (bytes : List B) (o i : ℕ) (text : List ℕ) → (i < o) ⊎ (o + length text ≤ i) → get ops (with_text ops bytes o text) i ≡ get ops bytes i
  text_leaves bytes o i [] outside = refl
  text_leaves bytes o i (c ∷ cs) outside =
      text_leaves (slice_set bytes o (ops.byte c)) (o + 1) i cs (outside_rest o (length cs) i outside)
      ∙ byte_leaves bytes o i (ops.byte c) (outside_first o (length cs) i outside)

  pub text_keeps_length : (bytes : List B) (o : ℕ) (text : List ℕ) → length (with_text ops bytes o text) ≡ length bytes
  text_keeps_length bytes o [] = refl
  text_keeps_length bytes o (c ∷ cs) = text_keeps_length (slice_set bytes o (ops.byte c)) (o + 1) cs ∙ length-set bytes o (ops.byte c)
