-- Bits of bytes, and the bytes of lists of truth values.
use Rattle.std.proofs.Common.{◌≡◌, ◌≢◌, ◌⊎◌, ◌≤◌, ◌<◌, ◌+◌, ◌-◌, ◌*◌, ◌/◌, ◌%◌, ◌^◌, ℕ, zero, suc, Bool, true, false, cond, nat_eq, List, [], ◌∷◌, length, get_or, replicate, refl, sym, ap, subst, ◌∙◌, inl, inr, arith}
use Rattle.std.specs.Prelude.{slice_set}
use Rattle.std.specs.Int.{bit_at}
use Rattle.std.proofs.lemmas.Bool.{agree_below_at, eqb-true, cases_eq, cases_lt}
use Rattle.std.proofs.lemmas.List.{get_or_past, ext_get_or, length-set, length-replicate, get_or-replicate, get_or-set_same, get_or-set_other}
use Rattle.std.proofs.lemmas.Nat.Bits.{bit_at-lt, bit_at-zero, bit_at_above, same_from_bits}
use Rattle.std.proofs.lemmas.Nat.{shr-shr, pow_pos, div-add-mod', mod_below}
use Rattle.mi_model.specs.Image.{bit_of, bitmap_byte, bitmap_from, bitmap_bytes}
use Rattle.mi_bitmap.specs.Bits.{bit, bits_from, bits, SpareAreClear, IsPacked}

pub length-bits_from : (bytes : List ℕ) (n i : ℕ) → length (bits_from bytes n i) ≡ n
length-bits_from bytes zero i = refl
length-bits_from bytes (suc n) i = ap suc (length-bits_from bytes n (i + 1))

get_or-bits_from : (bytes : List ℕ) (n i k : ℕ) → k < n → get_or (bits_from bytes n i) k false ≡ bit bytes (i + k)
get_or-bits_from bytes zero i k h = absurd (omega arith)
get_or-bits_from bytes (suc n) i zero h = let e : i ≡ i + 0 = omega arith in ap (bit bytes) e
get_or-bits_from bytes (suc n) i (suc k) h =
    let e : i + 1 + k ≡ i + suc k = omega arith in
    get_or-bits_from bytes n (i + 1) k (omega arith) ∙ ap (bit bytes) e

-- the list of the bits, by index
pub get_or-bits : (bytes : List ℕ) (n k : ℕ) → k < n → get_or (bits bytes n) k false ≡ bit bytes k
get_or-bits bytes n k h = let e : 0 + k ≡ k = omega arith in get_or-bits_from bytes n 0 k h ∙ ap (bit bytes) e

get_or-bits_past : (bytes : List ℕ) (n k : ℕ) → n ≤ k → get_or (bits bytes n) k false ≡ false
get_or-bits_past bytes n k h = let e = length-bits_from bytes n 0 in get_or_past (bits bytes n) k false (omega arith)

-- two lists of bytes whose first bits are the same
same_bits : (marks : List Bool) (bytes : List ℕ) (n : ℕ) → length marks ≡ n → ((i : ℕ) → i < n → bit bytes i ≡ get_or marks i false) → bits bytes n ≡ marks
same_bits marks bytes n count h =
    let e = length-bits_from bytes n 0 in
    ext_get_or false (bits bytes n) marks (e ∙ sym count) (λ i below. let b : i < n = omega arith in get_or-bits bytes n i b ∙ h i b)

-- a byte is changed in one bit
pub bit_changed : (bytes : List ℕ) (cell byte : ℕ) → cell / 8 < length bytes → bit (slice_set bytes (cell / 8) byte) cell ≡ nat_eq (bit_at byte (cell % 8)) 1
bit_changed bytes cell byte h = ap (λ (b : ℕ). nat_eq (bit_at b (cell % 8)) 1) (get_or-set_same bytes (cell / 8) byte 0 h)

pub bit_kept : (bytes : List ℕ) (cell byte : ℕ) → cell / 8 < length bytes
    → ((k : ℕ) → k < 8 → k ≢ cell % 8 → bit_at byte k ≡ bit_at (get_or bytes (cell / 8) 0) k)
    → (i : ℕ) → i ≢ cell → bit (slice_set bytes (cell / 8) byte) i ≡ bit bytes i
bit_kept bytes cell byte h kept i other =
    elim (cases_eq (i / 8) (cell / 8)) [
      | inl same ↦
          let apart : i % 8 ≢ cell % 8 = λ (e : i % 8 ≡ cell % 8). other (omega arith) in
          ap (λ (j : ℕ). nat_eq (bit_at (get_or (slice_set bytes (cell / 8) byte) j 0) (i % 8)) 1) same
          ∙ ap (λ (b : ℕ). nat_eq (bit_at b (i % 8)) 1) (get_or-set_same bytes (cell / 8) byte 0 h)
          ∙ ap (λ (b : ℕ). nat_eq b 1) (kept (i % 8) (omega arith) apart)
          ∙ ap (λ (j : ℕ). nat_eq (bit_at (get_or bytes j 0) (i % 8)) 1) (sym same)
      | inr apart ↦ ap (λ (b : ℕ). nat_eq (bit_at b (i % 8)) 1) (get_or-set_other bytes (cell / 8) (i / 8) byte 0 apart)
    ]

-- a change of one bit is a change of one truth value
pub bits_changed : (bytes : List ℕ) (n cell byte : ℕ) (value : Bool) → cell < n → cell / 8 < length bytes
    → nat_eq (bit_at byte (cell % 8)) 1 ≡ value
    → ((k : ℕ) → k < 8 → k ≢ cell % 8 → bit_at byte k ≡ bit_at (get_or bytes (cell / 8) 0) k)
    → bits (slice_set bytes (cell / 8) byte) n ≡ slice_set (bits bytes n) cell value
bits_changed bytes n cell byte value below within here kept =
    same_bits (slice_set (bits bytes n) cell value) (slice_set bytes (cell / 8) byte) n
    (length-set (bits bytes n) cell value ∙ length-bits_from bytes n 0) each
  where
    each : (i : ℕ) → i < n → bit (slice_set bytes (cell / 8) byte) i ≡ get_or (slice_set (bits bytes n) cell value) i false
    each i h = elim (cases_eq i cell) [
      | inl same ↦
          let long : cell < length (bits bytes n) = let e = length-bits_from bytes n 0 in omega arith in
          ap (bit (slice_set bytes (cell / 8) byte)) same
          ∙ bit_changed bytes cell byte within ∙ here
          ∙ sym (get_or-set_same (bits bytes n) cell value false long)
          ∙ ap (λ (j : ℕ). get_or (slice_set (bits bytes n) cell value) j false) (sym same)
      | inr other ↦
          bit_kept bytes cell byte within kept i other
          ∙ sym (get_or-bits bytes n i h)
          ∙ sym (get_or-set_other (bits bytes n) cell i value false other)
    ]

pub packed_changed : (bytes : List ℕ) (n cell byte : ℕ) → IsPacked bytes n → cell < n → cell / 8 < length bytes → byte < 256
    → ((k : ℕ) → k < 8 → k ≢ cell % 8 → bit_at byte k ≡ bit_at (get_or bytes (cell / 8) 0) k)
    → IsPacked (slice_set bytes (cell / 8) byte) n
packed_changed bytes n cell byte packed below within small kept = record {
  size = length-set bytes (cell / 8) byte ∙ packed.size;
  fits = λ i. elim (cases_eq i (cell / 8)) [
    | inl same ↦ let e : get_or (slice_set bytes (cell / 8) byte) i 0 ≡ byte = ap (λ (j : ℕ). get_or (slice_set bytes (cell / 8) byte) j 0) same ∙ get_or-set_same bytes (cell / 8) byte 0 within in omega arith
    | inr apart ↦ let e = get_or-set_other bytes (cell / 8) i byte 0 apart in let f = packed.fits i in omega arith
  ];
  spare = λ i h. let other : i ≢ cell = λ (e : i ≡ cell). omega arith in bit_kept bytes cell byte within kept i other ∙ packed.spare i h;
}

-- bytes that are 0
pub bit-zeros : (count i : ℕ) → bit (replicate count 0) i ≡ false
bit-zeros count i = zero_at (cases_lt (i / 8) count)
  where
    byte : get_or {A = ℕ} (replicate count 0) (i / 8) 0 ≡ 0 → bit (replicate count 0) i ≡ false
    byte e = ap (λ (b : ℕ). nat_eq (bit_at b (i % 8)) 1) e ∙ ap (λ (b : ℕ). nat_eq b 1) (bit_at-zero (i % 8))

    zero_at : (i / 8 < count) ⊎ (count ≤ i / 8) → bit (replicate count 0) i ≡ false
    zero_at (inl h) = byte (get_or-replicate count (i / 8) 0 0 h)
    zero_at (inr h) = let zeros : List ℕ = replicate count 0 in let e : length zeros ≡ count = length-replicate count 0 in byte (get_or_past (replicate count 0) (i / 8) 0 (omega arith))

pub bits-zeros : (count n : ℕ) → bits (replicate count 0) n ≡ replicate n false
bits-zeros count n = same_bits (replicate n false) (replicate count 0) n (length-replicate n false)
    (λ i h. bit-zeros count i ∙ sym (get_or-replicate n i false false h))

-- the value of eight bits
abbrev joined : ℕ → ℕ
joined b =
    cond (nat_eq (bit_at b 0) 1) 1 0 + cond (nat_eq (bit_at b 1) 1) 2 0 + cond (nat_eq (bit_at b 2) 1) 4 0 + cond (nat_eq (bit_at b 3) 1) 8 0
    + cond (nat_eq (bit_at b 4) 1) 16 0 + cond (nat_eq (bit_at b 5) 1) 32 0 + cond (nat_eq (bit_at b 6) 1) 64 0 + cond (nat_eq (bit_at b 7) 1) 128 0

joined_is : (b : ℕ) → b < 256 → joined b ≡ b
joined_is b h = eqb-true (joined b) b (agree_below_at (λ b. nat_eq (joined b) b) (λ _. true) 256 b refl h)

eight : (b0 b1 b2 b3 b4 b5 b6 b7 : Bool) (b : ℕ) → b0 ≡ nat_eq (bit_at b 0) 1 → b1 ≡ nat_eq (bit_at b 1) 1 → b2 ≡ nat_eq (bit_at b 2) 1 → b3 ≡ nat_eq (bit_at b 3) 1
    → b4 ≡ nat_eq (bit_at b 4) 1 → b5 ≡ nat_eq (bit_at b 5) 1 → b6 ≡ nat_eq (bit_at b 6) 1 → b7 ≡ nat_eq (bit_at b 7) 1
    → cond b0 1 0 + cond b1 2 0 + cond b2 4 0 + cond b3 8 0 + cond b4 16 0 + cond b5 32 0 + cond b6 64 0 + cond b7 128 0 ≡ joined b
eight b0 b1 b2 b3 b4 b5 b6 b7 b h0 h1 h2 h3 h4 h5 h6 h7 = rw (h0, h1, h2, h3, h4, h5, h6, h7) refl

length-bitmap_from : (marks : List Bool) (n j : ℕ) → length (bitmap_from marks n j) ≡ n
length-bitmap_from marks zero j = refl
length-bitmap_from marks (suc n) j = ap suc (length-bitmap_from marks n (j + 1))

get_or-bitmap_from : (marks : List Bool) (n j k : ℕ) → k < n → get_or (bitmap_from marks n j) k 0 ≡ bitmap_byte marks (j + k)
get_or-bitmap_from marks zero j k h = absurd (omega arith)
get_or-bitmap_from marks (suc n) j zero h = let e : j ≡ j + 0 = omega arith in ap (bitmap_byte marks) e
get_or-bitmap_from marks (suc n) j (suc k) h =
    let e : j + 1 + k ≡ j + suc k = omega arith in
    get_or-bitmap_from marks n (j + 1) k (omega arith) ∙ ap (bitmap_byte marks) e

-- the list has each bit of packed bytes, also behind its end
get_or-packed : (bytes : List ℕ) (n : ℕ) → IsPacked bytes n → (k : ℕ) → get_or (bits bytes n) k false ≡ bit bytes k
get_or-packed bytes n packed k = at (cases_lt k n)
  where
    at : (k < n) ⊎ (n ≤ k) → get_or (bits bytes n) k false ≡ bit bytes k
    at (inl h) = get_or-bits bytes n k h
    at (inr h) = get_or-bits_past bytes n k h ∙ sym (packed.spare k h)

-- the byte of a list of bits, by the byte that has them
byte_is : (bytes : List ℕ) (n : ℕ) → IsPacked bytes n → (j : ℕ) → bitmap_byte (bits bytes n) j ≡ joined (get_or bytes j 0)
byte_is bytes n packed j =
    let h0 : get_or (bits bytes n) (8 * j) false ≡ nat_eq (bit_at (get_or bytes j 0) 0) 1 = let e : 8 * j ≡ 8 * j + 0 = omega arith in ap (λ (i : ℕ). get_or (bits bytes n) i false) e ∙ one 0 (omega arith) in
    let h1 = one 1 (omega arith) in let h2 = one 2 (omega arith) in let h3 = one 3 (omega arith) in
    let h4 = one 4 (omega arith) in let h5 = one 5 (omega arith) in let h6 = one 6 (omega arith) in let h7 = one 7 (omega arith) in
    eight (get_or (bits bytes n) (8 * j) false) (get_or (bits bytes n) (8 * j + 1) false) (get_or (bits bytes n) (8 * j + 2) false) (get_or (bits bytes n) (8 * j + 3) false)
    (get_or (bits bytes n) (8 * j + 4) false) (get_or (bits bytes n) (8 * j + 5) false) (get_or (bits bytes n) (8 * j + 6) false) (get_or (bits bytes n) (8 * j + 7) false)
    (get_or bytes j 0) h0 h1 h2 h3 h4 h5 h6 h7
  where
    one : (k : ℕ) → k < 8 → get_or (bits bytes n) (8 * j + k) false ≡ nat_eq (bit_at (get_or bytes j 0) k) 1
    one k h =
        let row : (8 * j + k) / 8 ≡ j = omega arith in
        let place : (8 * j + k) % 8 ≡ k = omega arith in
        get_or-packed bytes n packed (8 * j + k)
        ∙ ap (λ (i : ℕ). nat_eq (bit_at (get_or bytes i 0) ((8 * j + k) % 8)) 1) row
        ∙ ap (λ (i : ℕ). nat_eq (bit_at (get_or bytes j 0) i) 1) place

-- packed bytes are the bytes of their list
pub packed_bytes : (bytes : List ℕ) (n : ℕ) → IsPacked bytes n → bitmap_bytes (bits bytes n) ≡ bytes
packed_bytes bytes n packed =
    let count : length (bits bytes n) ≡ n = length-bits_from bytes n 0 in
    let size : (length (bits bytes n) + 7) / 8 ≡ length bytes = ap (λ (k : ℕ). (k + 7) / 8) count ∙ sym packed.size in
    ap (λ (k : ℕ). bitmap_from (bits bytes n) k 0) size
    ∙ ext_get_or 0 (bitmap_from (bits bytes n) (length bytes) 0) bytes (length-bitmap_from (bits bytes n) (length bytes) 0)
    (λ i below. let h : i < length bytes = let e = length-bitmap_from (bits bytes n) (length bytes) 0 in omega arith in
    let e : 0 + i ≡ i = omega arith in
    get_or-bitmap_from (bits bytes n) (length bytes) 0 i h ∙ ap (bitmap_byte (bits bytes n)) e ∙ byte_is bytes n packed i ∙ joined_is (get_or bytes i 0) (packed.fits i))

-- the value of a truth value at a place
cond_times : (b : Bool) (v : ℕ) → cond b v 0 ≡ cond b 1 0 * v
cond_times true v = omega arith
cond_times false v = omega arith

cond_small : (b : Bool) → cond b 1 0 ≤ 1
cond_small true = omega arith
cond_small false = omega arith

cond_back : (b : Bool) → nat_eq (cond b 1 0) 1 ≡ b
cond_back true = refl
cond_back false = refl

by_digits : (b0 b1 b2 b3 b4 b5 b6 b7 : Bool)
    → cond b0 1 0 + cond b1 2 0 + cond b2 4 0 + cond b3 8 0 + cond b4 16 0 + cond b5 32 0 + cond b6 64 0 + cond b7 128 0
    ≡ cond b0 1 0 * 1 + cond b1 1 0 * 2 + cond b2 1 0 * 4 + cond b3 1 0 * 8 + cond b4 1 0 * 16 + cond b5 1 0 * 32 + cond b6 1 0 * 64 + cond b7 1 0 * 128
by_digits b0 b1 b2 b3 b4 b5 b6 b7 =
    let h1 = cond_times b1 2 in let h2 = cond_times b2 4 in let h3 = cond_times b3 8 in let h4 = cond_times b4 16 in
    let h5 = cond_times b5 32 in let h6 = cond_times b6 64 in let h7 = cond_times b7 128 in omega arith

-- bit k of a number that eight bits make
digit_is : (y0 y1 y2 y3 y4 y5 y6 y7 : ℕ) → y0 ≤ 1 → y1 ≤ 1 → y2 ≤ 1 → y3 ≤ 1 → y4 ≤ 1 → y5 ≤ 1 → y6 ≤ 1 → y7 ≤ 1
    → (k : ℕ) → k < 8 → bit_at (y0 * 1 + y1 * 2 + y2 * 4 + y3 * 8 + y4 * 16 + y5 * 32 + y6 * 64 + y7 * 128) k ≡ get_or (y0 ∷ y1 ∷ y2 ∷ y3 ∷ y4 ∷ y5 ∷ y6 ∷ y7 ∷ []) k 0
digit_is y0 y1 y2 y3 y4 y5 y6 y7 l0 l1 l2 l3 l4 l5 l6 l7 zero h = omega arith
digit_is y0 y1 y2 y3 y4 y5 y6 y7 l0 l1 l2 l3 l4 l5 l6 l7 (suc zero) h = omega arith
digit_is y0 y1 y2 y3 y4 y5 y6 y7 l0 l1 l2 l3 l4 l5 l6 l7 (suc (suc zero)) h = omega arith
digit_is y0 y1 y2 y3 y4 y5 y6 y7 l0 l1 l2 l3 l4 l5 l6 l7 (suc (suc (suc zero))) h = omega arith
digit_is y0 y1 y2 y3 y4 y5 y6 y7 l0 l1 l2 l3 l4 l5 l6 l7 (suc (suc (suc (suc zero)))) h = omega arith
digit_is y0 y1 y2 y3 y4 y5 y6 y7 l0 l1 l2 l3 l4 l5 l6 l7 (suc (suc (suc (suc (suc zero))))) h = omega arith
digit_is y0 y1 y2 y3 y4 y5 y6 y7 l0 l1 l2 l3 l4 l5 l6 l7 (suc (suc (suc (suc (suc (suc zero)))))) h = omega arith
digit_is y0 y1 y2 y3 y4 y5 y6 y7 l0 l1 l2 l3 l4 l5 l6 l7 (suc (suc (suc (suc (suc (suc (suc zero))))))) h = omega arith
digit_is y0 y1 y2 y3 y4 y5 y6 y7 l0 l1 l2 l3 l4 l5 l6 l7 (suc (suc (suc (suc (suc (suc (suc (suc k)))))))) h = absurd (omega arith)

-- the truth value at a place of a byte
mark_at : (marks : List Bool) (j k : ℕ) → k < 8 → nat_eq (bit_at (bitmap_byte marks j) k) 1 ≡ get_or marks (8 * j + k) false
mark_at marks j k h =
    let m : ℕ → Bool = λ i. get_or marks i false in
    ap (λ (b : ℕ). nat_eq (bit_at b k) 1) (by_digits (m (8 * j)) (m (8 * j + 1)) (m (8 * j + 2)) (m (8 * j + 3)) (m (8 * j + 4)) (m (8 * j + 5)) (m (8 * j + 6)) (m (8 * j + 7)))
    ∙ ap (λ (b : ℕ). nat_eq b 1) (digit_is _ _ _ _ _ _ _ _ (cond_small (m (8 * j))) (cond_small (m (8 * j + 1))) (cond_small (m (8 * j + 2))) (cond_small (m (8 * j + 3)))
    (cond_small (m (8 * j + 4))) (cond_small (m (8 * j + 5))) (cond_small (m (8 * j + 6))) (cond_small (m (8 * j + 7))) k h)
    ∙ which k h
  where
    which : (k : ℕ) → k < 8 → nat_eq (get_or (bit_of marks (8 * j) 1 ∷ bit_of marks (8 * j + 1) 1 ∷ bit_of marks (8 * j + 2) 1 ∷ bit_of marks (8 * j + 3) 1 ∷ bit_of marks (8 * j + 4) 1
        ∷ bit_of marks (8 * j + 5) 1 ∷ bit_of marks (8 * j + 6) 1 ∷ bit_of marks (8 * j + 7) 1 ∷ []) k 0) 1 ≡ get_or marks (8 * j + k) false
    which zero h = let e : 8 * j ≡ 8 * j + 0 = omega arith in cond_back _ ∙ ap (λ (i : ℕ). get_or marks i false) e
    which (suc zero) h = cond_back _
    which (suc (suc zero)) h = cond_back _
    which (suc (suc (suc zero))) h = cond_back _
    which (suc (suc (suc (suc zero)))) h = cond_back _
    which (suc (suc (suc (suc (suc zero))))) h = cond_back _
    which (suc (suc (suc (suc (suc (suc zero)))))) h = cond_back _
    which (suc (suc (suc (suc (suc (suc (suc zero))))))) h = cond_back _
    which (suc (suc (suc (suc (suc (suc (suc (suc k)))))))) h = absurd (omega arith)

-- the bits of the bytes of a list are the list
pub bit-bitmap_bytes : (marks : List Bool) (i : ℕ) → bit (bitmap_bytes marks) i ≡ get_or marks i false
bit-bitmap_bytes marks i = at (cases_lt (i / 8) ((length marks + 7) / 8))
  where
    at : (i / 8 < (length marks + 7) / 8) ⊎ ((length marks + 7) / 8 ≤ i / 8) → bit (bitmap_bytes marks) i ≡ get_or marks i false
    at (inl h) =
        let e : 0 + i / 8 ≡ i / 8 = omega arith in
        let whole : 8 * (i / 8) + i % 8 ≡ i = omega arith in
        ap (λ (b : ℕ). nat_eq (bit_at b (i % 8)) 1) (get_or-bitmap_from marks ((length marks + 7) / 8) 0 (i / 8) h ∙ ap (bitmap_byte marks) e)
        ∙ mark_at marks (i / 8) (i % 8) (omega arith)
        ∙ ap (λ (k : ℕ). get_or marks k false) whole
    at (inr h) =
        let e = length-bitmap_from marks ((length marks + 7) / 8) 0 in
        ap (λ (b : ℕ). nat_eq (bit_at b (i % 8)) 1) (get_or_past (bitmap_bytes marks) (i / 8) 0 (omega arith))
        ∙ ap (λ (b : ℕ). nat_eq b 1) (bit_at-zero (i % 8))
        ∙ sym (get_or_past marks i false (omega arith))

pub packed-bitmap_bytes : (marks : List Bool) (n : ℕ) → length marks ≡ n → IsPacked (bitmap_bytes marks) n
packed-bitmap_bytes marks n count = record {
  fits = λ i. small i (cases_lt i ((length marks + 7) / 8));
  size = length-bitmap_from marks ((length marks + 7) / 8) 0 ∙ ap (λ (k : ℕ). (k + 7) / 8) count;
  spare = λ i h. bit-bitmap_bytes marks i ∙ get_or_past marks i false (omega arith);
}
  where
    byte_small : (b0 b1 b2 b3 b4 b5 b6 b7 : Bool) → cond b0 1 0 + cond b1 2 0 + cond b2 4 0 + cond b3 8 0 + cond b4 16 0 + cond b5 32 0 + cond b6 64 0 + cond b7 128 0 < 256
    byte_small b0 b1 b2 b3 b4 b5 b6 b7 =
        let e = by_digits b0 b1 b2 b3 b4 b5 b6 b7 in
        let h0 = cond_small b0 in let h1 = cond_small b1 in let h2 = cond_small b2 in let h3 = cond_small b3 in
        let h4 = cond_small b4 in let h5 = cond_small b5 in let h6 = cond_small b6 in let h7 = cond_small b7 in omega arith

    small : (i : ℕ) → (i < (length marks + 7) / 8) ⊎ ((length marks + 7) / 8 ≤ i) → get_or (bitmap_bytes marks) i 0 < 256
    small i (inl h) =
        let e = get_or-bitmap_from marks ((length marks + 7) / 8) 0 i h in
        let b = byte_small (get_or marks (8 * (0 + i)) false) (get_or marks (8 * (0 + i) + 1) false) (get_or marks (8 * (0 + i) + 2) false) (get_or marks (8 * (0 + i) + 3) false)
        (get_or marks (8 * (0 + i) + 4) false) (get_or marks (8 * (0 + i) + 5) false) (get_or marks (8 * (0 + i) + 6) false) (get_or marks (8 * (0 + i) + 7) false) in
        rw e b
    small i (inr h) =
        let l = length-bitmap_from marks ((length marks + 7) / 8) 0 in
        let e : get_or (bitmap_bytes marks) i 0 ≡ 0 = get_or_past (bitmap_bytes marks) i 0 (omega arith) in omega arith

pub bits-bitmap_bytes : (marks : List Bool) (n : ℕ) → length marks ≡ n → bits (bitmap_bytes marks) n ≡ marks
bits-bitmap_bytes marks n count = same_bits marks (bitmap_bytes marks) n count (λ i h. bit-bitmap_bytes marks i)

not_one : (n : ℕ) → n < 2 → nat_eq n 1 ≡ false → n ≡ 0
not_one zero h e = refl
not_one (suc zero) h e = cc
not_one (suc (suc n)) h e = absurd (omega arith)

pub past_end : (bytes : List ℕ) (i : ℕ) → length bytes ≤ i / 8 → bit bytes i ≡ false
past_end bytes i past = ap (λ (b : ℕ). nat_eq (bit_at b (i % 8)) 1) (get_or_past bytes (i / 8) 0 past) ∙ ap (λ (b : ℕ). nat_eq b 1) (bit_at-zero (i % 8))

-- spare bits are those of the last byte from the number of the cells on
pub spare_low : (bytes : List ℕ) (n last : ℕ) → length bytes ≡ (n + 7) / 8 → get_or bytes (length bytes - 1) 0 ≡ last → last / 2 ^ (n % 8) ≡ 0 → n % 8 ≢ 0 → SpareAreClear bytes n
spare_low bytes n last size is low some i h = at (cases_lt (i / 8) (length bytes))
  where
    small : last < 2 ^ (n % 8)
    small = let p = pow_pos (n % 8) in let e = div-add-mod' last (2 ^ (n % 8)) in let m = mod_below last (2 ^ (n % 8)) p in let f : 0 * 2 ^ (n % 8) + last % 2 ^ (n % 8) ≡ last = rw low at e in omega arith

    at : (i / 8 < length bytes) ⊎ (length bytes ≤ i / 8) → bit bytes i ≡ false
    at (inl within) =
        let row : i / 8 ≡ length bytes - 1 = omega arith in
        ap (λ (j : ℕ). nat_eq (bit_at (get_or bytes j 0) (i % 8)) 1) row
        ∙ ap (λ (b : ℕ). nat_eq (bit_at b (i % 8)) 1) is
        ∙ ap (λ (b : ℕ). nat_eq b 1) (bit_at_above last (n % 8) (i % 8) small (omega arith))
    at (inr past) = past_end bytes i past

pub low_spare : (bytes : List ℕ) (n last : ℕ) → length bytes ≡ (n + 7) / 8 → get_or bytes (length bytes - 1) 0 ≡ last → last < 256 → n % 8 ≢ 0 → SpareAreClear bytes n → last / 2 ^ (n % 8) ≡ 0
low_spare bytes n last size is byte some clear =
    same_from_bits (last / 2 ^ (n % 8)) 0 (λ i. ap (λ (b : ℕ). b % 2) (shr-shr last (n % 8) i) ∙ at i (cases_lt (n % 8 + i) 8) ∙ sym (bit_at-zero i))
  where
    at : (i : ℕ) → (n % 8 + i < 8) ⊎ (8 ≤ n % 8 + i) → bit_at last (n % 8 + i) ≡ 0
    at i (inl h) =
        let place : ℕ = 8 * (length bytes - 1) + (n % 8 + i) in
        let row : place / 8 ≡ length bytes - 1 = omega arith in
        let column : place % 8 ≡ n % 8 + i = omega arith in
        let here : nat_eq (bit_at last (n % 8 + i)) 1 ≡ false =
        ap (λ (b : ℕ). nat_eq (bit_at b (n % 8 + i)) 1) (sym is)
        ∙ ap (λ (j : ℕ). nat_eq (bit_at (get_or bytes j 0) (n % 8 + i)) 1) (sym row)
        ∙ ap (λ (j : ℕ). nat_eq (bit_at (get_or bytes (place / 8) 0) j) 1) (sym column)
        ∙ clear place (omega arith)
        in not_one (bit_at last (n % 8 + i)) (bit_at-lt last (n % 8 + i)) here
    at i (inr h) = bit_at_above last 8 (n % 8 + i) byte h

-- a cell of the list is one of the bytes'
pub cell_within : (bytes : List ℕ) (marks : List Bool) (count cell : ℕ) → IsPacked bytes count → bits bytes count ≡ marks → cell < length marks → (cell < count) × (cell / 8 < length bytes)
cell_within bytes marks count cell packed view below =
    let e : length marks ≡ count = sym (ap length view) ∙ length-bits_from bytes count 0 in
    let size = packed.size in
    (omega arith, omega arith)

-- bytes of a list are packed, and their bits are the list
pub from_list : (bytes : List ℕ) (marks : List Bool) (n : ℕ) → length marks ≡ n → bytes ≡ bitmap_bytes marks → IsPacked bytes n × (bits bytes n ≡ marks)
from_list bytes marks n count is = subst (λ (xs : List ℕ). IsPacked xs n × (bits xs n ≡ marks)) (sym is) (packed-bitmap_bytes marks n count, bits-bitmap_bytes marks n count)
