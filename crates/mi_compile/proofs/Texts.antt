-- Texts that are put into a list of bytes, also into a place where bytes were copied to.
use Rattle.std.proofs.Common.{◌≡◌, ℕ, ◌+◌, ◌-◌, ◌<◌, ◌≤◌, List, [], ◌∷◌, ◌++◌, length, get_or, take, drop, refl, ap, sym, ◌∙◌, arith, length-append, length-drop}
use Rattle.std.proofs.Math.ListN.{set, length-set}
use Rattle.std.proofs.lemmas.List.{take_at, drop_at, drop-drop, drop-set-lt, get_or-set_other, get_or-append_right, get_or_append_left, get_or-take, get_or-drop, length-take-le, take_more_set}
use Rattle.mi_model.specs.Ops.{Ops}
use Rattle.mi_model.specs.Region.{with_text, with_moved, with_filled}

module _ {C B : Type 0} (ops : Ops C B) where
  pub text_length : (bytes : List B) (o : ℕ) (text : List ℕ) → length (with_text ops bytes o text) ≡ length bytes
  text_length bytes o [] = refl
  text_length bytes o (c ∷ cs) = text_length (set bytes o (ops.byte c)) (o + 1) cs ∙ length-set bytes o (ops.byte c)

  pub text_more : (bytes : List B) (o n : ℕ) (text more : List ℕ) → length text ≡ n → with_text ops (with_text ops bytes o text) (o + n) more ≡ with_text ops bytes o (text ++ more)
  text_more bytes o n [] more is = let e : o + n ≡ o = omega arith in ap (λ (k : ℕ). with_text ops bytes k more) e
  text_more bytes o n (c ∷ cs) more is =
      let left : length cs ≡ n - 1 = omega arith in
      let place : o + n ≡ o + 1 + (n - 1) = omega arith in
      ap (λ (k : ℕ). with_text ops (with_text ops (set bytes o (ops.byte c)) (o + 1) cs) k more) place
      ∙ text_more (set bytes o (ops.byte c)) (o + 1) (n - 1) cs more left

  -- the bytes behind a text stay
  pub behind_text : (bytes : List B) (o : ℕ) (text : List ℕ) (j : ℕ) (d : B) → o + length text ≤ j → get_or (with_text ops bytes o text) j d ≡ get_or bytes j d
  behind_text bytes o [] j d h = refl
  behind_text bytes o (c ∷ cs) j d h =
      behind_text (set bytes o (ops.byte c)) (o + 1) cs j d (omega arith) ∙ get_or-set_other bytes o j (ops.byte c) d (omega arith)

  text_drop : (bytes : List B) (o : ℕ) (text : List ℕ) (k : ℕ) → o + length text ≤ k → drop k (with_text ops bytes o text) ≡ drop k bytes
  text_drop bytes o [] k h = refl
  text_drop bytes o (c ∷ cs) k h = text_drop (set bytes o (ops.byte c)) (o + 1) cs k (omega arith) ∙ drop-set-lt k bytes o (ops.byte c) (omega arith)

  text_take : (bytes others : List B) (o : ℕ) (text : List ℕ) (k : ℕ) → o + length text ≡ k → k ≤ length bytes → k ≤ length others → take o bytes ≡ take o others
      → take k (with_text ops bytes o text) ≡ take k (with_text ops others o text)
  text_take bytes others o [] k end h g same = let e : k ≡ o = omega arith in rw e same
  text_take bytes others o (c ∷ cs) k end h g same =
      let b = ops.byte c in
      let one : take (o + 1) (set bytes o b) ≡ take (o + 1) (set others o b) =
      take_more_set bytes o b (omega arith) ∙ (ap (λ (xs : List B). xs ++ b ∷ []) same ∙ sym (take_more_set others o b (omega arith))) in
      text_take (set bytes o b) (set others o b) (o + 1) cs k (omega arith) (omega (arith, length-set bytes o b)) (omega (arith, length-set others o b)) one

  -- what was copied to the place of a text and the zeros behind it doesn't matter
  pub text_over : (bytes others : List B) (o n : ℕ) (text : List ℕ) (z : B) → length text ≤ n → o + n ≤ length bytes → length others ≡ length bytes
      → take o others ≡ take o bytes → drop (o + n) others ≡ drop (o + n) bytes
      → with_filled (with_text ops others o text) (o + length text) (n - length text) z ≡ with_filled (with_text ops bytes o text) (o + length text) (n - length text) z
  text_over bytes others o n text z few within size front back =
      let end : o + length text + (n - length text) ≡ o + n = omega arith in
      let first = text_take others bytes o text (o + length text) refl (omega arith) (omega arith) front in
      let last : drop (o + n) (with_text ops others o text) ≡ drop (o + n) (with_text ops bytes o text) =
      text_drop others o text (o + n) (omega arith) ∙ (back ∙ sym (text_drop bytes o text (o + n) (omega arith))) in
      rw end (rw first (rw last refl))

module _ {B : Type 0} (bytes : List B) (from to n : ℕ) (source : from + n ≤ length bytes) (target : to + n ≤ length bytes) where
  part_length : length (take n (drop from bytes)) ≡ n
  part_length = length-take-le n (drop from bytes) (omega (arith, length-drop from bytes))

  front_length : length (take to bytes) ≡ to
  front_length = length-take-le to bytes (omega arith)

  pub moved_take : take to (with_moved bytes from to n) ≡ take to bytes
  moved_take = take_at (take to bytes) (take n (drop from bytes) ++ drop (to + n) bytes) to front_length

  pub moved_drop : drop (to + n) (with_moved bytes from to n) ≡ drop (to + n) bytes
  moved_drop =
      let front = drop_at (take to bytes) (take n (drop from bytes) ++ drop (to + n) bytes) to front_length in
      let part = drop_at (take n (drop from bytes)) (drop (to + n) bytes) n part_length in
      sym (drop-drop n to (with_moved bytes from to n)) ∙ (ap (drop n) front ∙ part)

  pub moved_length : length (with_moved bytes from to n) ≡ length bytes
  moved_length =
      omega (
        arith,
        front_length,
        part_length,
        length-append (take to bytes) (take n (drop from bytes) ++ drop (to + n) bytes),
        length-append (take n (drop from bytes)) (drop (to + n) bytes),
        length-drop (to + n) bytes,
      )

  pub moved_get : (i : ℕ) (d : B) → i < n → get_or (with_moved bytes from to n) (to + i) d ≡ get_or bytes (from + i) d
  moved_get i d h =
      let place : to + i - to ≡ i = omega arith in
      let below : i < length (take n (drop from bytes)) = omega (arith, part_length) in
      get_or-append_right (take to bytes) (take n (drop from bytes) ++ drop (to + n) bytes) to (to + i) d front_length (omega arith)
      ∙ (ap (λ (k : ℕ). get_or (take n (drop from bytes) ++ drop (to + n) bytes) k d) place
      ∙ (get_or_append_left (take n (drop from bytes)) (drop (to + n) bytes) d i below
      ∙ (get_or-take n (drop from bytes) i d h ∙ get_or-drop from bytes i d)))
