-- A broken part stays the first one, whatever comes behind it.
use Rattle.std.proofs.Common.{◌≡◌, ◌⊎◌, inl, inr, ℕ, zero, suc, ◌+◌, ◌-◌, ◌*◌, ◌/◌, ◌%◌, ◌<◌, ◌≤◌, Bool, cond, ◌==◌, ◌||◌, nat_eq, nat_lt, Option, None, Some, List, [], ◌∷◌, ◌++◌, length, get_or, drop, refl, ap, ◌∙◌, arith}
use Rattle.std.specs.Prelude.{codes}
use Rattle.std.specs.Int.{bit_at, w64, from_le_bytes}
use Rattle.std.specs.Cmp.Lexicographic.{pointwise}
use Rattle.std.proofs.lemmas.Bool.{cases_lt, lt-ltb, le-ltb}
use Rattle.std.proofs.lemmas.List.{take-append-le, drop-append-le, get_or_append_left, length-append, length-drop}
use Rattle.mi_model.specs.declared.Kind.{Kind}
use Rattle.mi_model.specs.declared.Kind.TheVariants.{Relocatable, Fixed}
use Rattle.mi_model.specs.Image.{ImageRecord, region_cells}
use Rattle.mi_bitmap.specs.Bits.{bit, bits_from}
use Rattle.mi_image.specs.declared.fault.ImageFault.{ImageFault}
use Rattle.mi_image.specs.declared.fault.ImageFault.TheVariants.{NotImage}
use Rattle.mi_image.specs.declared.fault.Part.TheVariants as parts
use Rattle.mi_image.specs.Grammar.{number_at, kind_of, bitmap_length, file_length, marks_in, spelled, is_data_base, is_code_base, unless, or_else, size_fault, used_fault, bitmap_fault, cells_fault, first_broken}
use Rattle.mi_image.proofs.Numbers.{number_at-more}
use Rattle.mi_image.proofs.Whole.{same_record}

region_cells-more : (n : ℕ) (bytes more : List ℕ) → 8 * n ≤ length bytes → region_cells n (bytes ++ more) ≡ region_cells n bytes
region_cells-more zero bytes more enough = refl
region_cells-more (suc n) (b0 ∷ b1 ∷ b2 ∷ b3 ∷ b4 ∷ b5 ∷ b6 ∷ b7 ∷ rest) more enough = ap (λ (cells : List ℕ). from_le_bytes w64 (b0 ∷ b1 ∷ b2 ∷ b3 ∷ b4 ∷ b5 ∷ b6 ∷ b7 ∷ []) ∷ cells) (region_cells-more n rest more (omega arith))
region_cells-more (suc n) short more enough = absurd (omega arith)

bits_from-more : (n i : ℕ) (bytes more : List ℕ) → i + n ≤ 8 * length bytes → bits_from (bytes ++ more) n i ≡ bits_from bytes n i
bits_from-more zero i bytes more enough = refl
bits_from-more (suc n) i bytes more enough =
    let here : bit (bytes ++ more) i ≡ bit bytes i = ap (λ (b : ℕ). nat_eq (bit_at b (i % 8)) 1) (get_or_append_left bytes more 0 (i / 8) (omega arith)) in
    ap (λ (b : Bool). b ∷ bits_from (bytes ++ more) n (i + 1)) here
    ∙ ap (λ (bs : List Bool). bit bytes i ∷ bs) (bits_from-more n (i + 1) bytes more (omega arith))

marks_in-more : (kind : Kind) (used : ℕ) (bitmap more : List ℕ) → bitmap_length kind used ≤ length bitmap → marks_in kind (used / 8) (bitmap ++ more) ≡ marks_in kind (used / 8) bitmap
marks_in-more Relocatable used bitmap more enough = bits_from-more (used / 8) 0 bitmap more (omega arith)
marks_in-more Fixed used bitmap more enough = refl

pub file_length-more : (bytes more : List ℕ) → 40 ≤ length bytes → file_length (bytes ++ more) ≡ file_length bytes
unfolding file_length
file_length-more bytes more enough =
    ap (λ (n : ℕ). 56 + number_at (bytes ++ more) 32 + bitmap_length (kind_of n) (number_at (bytes ++ more) 32)) (number_at-more bytes more 16 (omega arith))
    ∙ ap (λ (n : ℕ). 56 + n + bitmap_length (kind_of (number_at bytes 16)) n) (number_at-more bytes more 32 (omega arith))

-- the bytes of a whole file go on
spelled-more : (bytes more : List ℕ) → 56 ≤ length bytes → file_length bytes ≤ length bytes → spelled (bytes ++ more) ≡ spelled bytes
unfolding spelled file_length
spelled-more bytes more header whole =
    let kind = ap kind_of (number_at-more bytes more 16 (omega arith)) in
    let used = number_at-more bytes more 32 (omega arith) in
    let body : drop 56 (bytes ++ more) ≡ drop 56 bytes ++ more = drop-append-le 56 bytes more header in
    let long : number_at bytes 32 + bitmap_length (kind_of (number_at bytes 16)) (number_at bytes 32) ≤ length (drop 56 bytes) = omega (arith, length-drop 56 bytes) in
    same_record (spelled bytes) (kind_of (number_at (bytes ++ more) 16)) (number_at (bytes ++ more) 24) (number_at (bytes ++ more) 32) (number_at (bytes ++ more) 40) (number_at (bytes ++ more) 48)
    (region_cells (number_at (bytes ++ more) 32 / 8) (drop 56 (bytes ++ more)))
    (marks_in (kind_of (number_at (bytes ++ more) 16)) (number_at (bytes ++ more) 32 / 8) (drop (number_at (bytes ++ more) 32) (drop 56 (bytes ++ more))))
    kind (number_at-more bytes more 24 (omega arith)) used (number_at-more bytes more 40 (omega arith)) (number_at-more bytes more 48 (omega arith))
    (ap (λ (n : ℕ). region_cells (n / 8) (drop 56 (bytes ++ more))) used
    ∙ ap (region_cells (number_at bytes 32 / 8)) body
    ∙ region_cells-more (number_at bytes 32 / 8) (drop 56 bytes) more (omega arith))
    (ap (λ (k : Kind). marks_in k (number_at (bytes ++ more) 32 / 8) (drop (number_at (bytes ++ more) 32) (drop 56 (bytes ++ more)))) kind
    ∙ ap (λ (n : ℕ). marks_in (kind_of (number_at bytes 16)) (n / 8) (drop n (drop 56 (bytes ++ more)))) used
    ∙ ap (λ (xs : List ℕ). marks_in (kind_of (number_at bytes 16)) (number_at bytes 32 / 8) (drop (number_at bytes 32) xs)) body
    ∙ ap (marks_in (kind_of (number_at bytes 16)) (number_at bytes 32 / 8)) (drop-append-le (number_at bytes 32) (drop 56 bytes) more (omega arith))
    ∙ marks_in-more (kind_of (number_at bytes 16)) (number_at bytes 32) (drop (number_at bytes 32) (drop 56 bytes)) more (omega (arith, length-drop (number_at bytes 32) (drop 56 bytes))))

-- ---- one part after the other

next_stays : (part next next2 : Option ImageFault) (fault : ImageFault) → (next ≡ Some fault → next2 ≡ Some fault) → or_else part next ≡ Some fault → or_else part next2 ≡ Some fault
next_stays (Some f) next next2 fault later h = h
next_stays None next next2 fault later h = later h

-- a fault of a part that is there, or of one behind it
stays : (n m there there2 : ℕ) (part part2 next next2 : Option ImageFault) (fault : ImageFault) → n ≤ m
    → (there ≤ n → there2 ≡ there) → (there ≤ n → part2 ≡ part) → (there ≤ n → next ≡ Some fault → next2 ≡ Some fault)
    → cond (nat_lt n there) None (or_else part next) ≡ Some fault → cond (nat_lt m there2) None (or_else part2 next2) ≡ Some fault
stays n m there there2 part part2 next next2 fault more same_place same_part later h = at (cases_lt n there)
  where
    at : (n < there) ⊎ (there ≤ n) → cond (nat_lt m there2) None (or_else part2 next2) ≡ Some fault
    at (inl early) = let none = rw (lt-ltb n there early) at h in absurd cc
    at (inr le) =
        let e = same_place le in
        let here : or_else part next ≡ Some fault = rw (le-ltb n there le) at h in
        rw (le-ltb m there2 (omega arith), same_part le) (next_stays part next next2 fault (later le) here)

-- behind the last part there is no fault
nothing_left : (fault : ImageFault) (next : Option ImageFault) → ◌≡◌ {A = Option ImageFault} None (Some fault) → next ≡ Some fault
nothing_left fault next h = absurd cc

-- the first broken part of bytes is that of whatever they go on to
pub broken_stays : (bytes more : List ℕ) (fault : ImageFault) → first_broken bytes ≡ Some fault → first_broken (bytes ++ more) ≡ Some fault
unfolding first_broken
broken_stays bytes more fault h =
    let n : ℕ = length bytes in
    let m : ℕ = length (bytes ++ more) in
    let le : n ≤ m = omega (arith, length-append bytes more) in
    stays n m 16 16 _ _ _ _ fault le (λ _. refl)
    (λ there. ap (λ (xs : List ℕ). unless (pointwise ◌==◌ (codes "gforthmi image 1") xs) (NotImage 0 parts.Magic)) (take-append-le 16 bytes more there))
    (λ magic. stays n m 24 24 _ _ _ _ fault le (λ _. refl)
    (λ there. ap (λ (k : ℕ). unless (k == 1 || k == 2) (NotImage 16 parts.Kind)) (number_at-more bytes more 16 there))
    (λ kind. stays n m 32 32 _ _ _ _ fault le (λ _. refl)
    (λ there. ap size_fault (number_at-more bytes more 24 there))
    (λ size. stays n m 40 40 _ _ _ _ fault le (λ _. refl)
    (λ there. ap (λ (k : ℕ). used_fault k (number_at (bytes ++ more) 32)) (number_at-more bytes more 24 size) ∙ ap (used_fault (number_at bytes 24)) (number_at-more bytes more 32 there))
    (λ used. stays n m 48 48 _ _ _ _ fault le (λ _. refl)
    (λ there. ap (λ (k : ℕ). unless (is_data_base (kind_of k) (number_at (bytes ++ more) 40)) (NotImage 40 parts.BaseD)) (number_at-more bytes more 16 kind)
    ∙ ap (λ (k : ℕ). unless (is_data_base (kind_of (number_at bytes 16)) k) (NotImage 40 parts.BaseD)) (number_at-more bytes more 40 there))
    (λ data_base. stays n m 56 56 _ _ _ _ fault le (λ _. refl)
    (λ there. ap (λ (k : ℕ). unless (is_code_base (kind_of k) (number_at (bytes ++ more) 48)) (NotImage 48 parts.BaseK)) (number_at-more bytes more 16 kind)
    ∙ ap (λ (k : ℕ). unless (is_code_base (kind_of (number_at bytes 16)) k) (NotImage 48 parts.BaseK)) (number_at-more bytes more 48 there))
    (λ header. stays n m (file_length bytes) (file_length (bytes ++ more)) _ _ _ _ fault le (λ _. file_length-more bytes more used)
    (λ there. bitmap_stays there header)
    (λ bitmap. stays n m (file_length bytes) (file_length (bytes ++ more)) _ _ _ _ fault le (λ _. file_length-more bytes more used)
    (λ there. ap (λ (r : ImageRecord). cells_fault r.size r.cells r.marks 56) (spelled-more bytes more header there))
    (λ cells. stays n m (file_length bytes + 1) (file_length (bytes ++ more) + 1) _ _ _ _ fault le (λ _. ap (λ (k : ℕ). k + 1) (file_length-more bytes more used))
    (λ there. ap (λ (k : ℕ). Some (NotImage k parts.End)) (file_length-more bytes more used))
    (λ _. nothing_left fault None)))))))))
    h
  where
    bitmap_stays : file_length bytes ≤ length bytes → 56 ≤ length bytes
        → bitmap_fault (kind_of (number_at (bytes ++ more) 16)) (number_at (bytes ++ more) 32 / 8) (get_or (bytes ++ more) (file_length (bytes ++ more) - 1) 0) (file_length (bytes ++ more) - 1)
        ≡ bitmap_fault (kind_of (number_at bytes 16)) (number_at bytes 32 / 8) (get_or bytes (file_length bytes - 1) 0) (file_length bytes - 1)
    bitmap_stays there header =
        let same = file_length-more bytes more (omega arith) in
        ap (λ (k : ℕ). bitmap_fault (kind_of k) (number_at (bytes ++ more) 32 / 8) (get_or (bytes ++ more) (file_length (bytes ++ more) - 1) 0) (file_length (bytes ++ more) - 1)) (number_at-more bytes more 16 (omega arith))
        ∙ ap (λ (k : ℕ). bitmap_fault (kind_of (number_at bytes 16)) (k / 8) (get_or (bytes ++ more) (file_length (bytes ++ more) - 1) 0) (file_length (bytes ++ more) - 1)) (number_at-more bytes more 32 (omega arith))
        ∙ ap (λ (k : ℕ). bitmap_fault (kind_of (number_at bytes 16)) (number_at bytes 32 / 8) (get_or (bytes ++ more) (k - 1) 0) (k - 1)) same
        ∙ ap (λ (last : ℕ). bitmap_fault (kind_of (number_at bytes 16)) (number_at bytes 32 / 8) last (file_length bytes - 1)) (get_or_append_left bytes more 0 (file_length bytes - 1) (omega arith))
