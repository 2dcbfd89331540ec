-- Bytes that are fed in pieces.
use Rattle.std.proofs.Common.{◌≡◌, ◌⊎◌, inl, inr, ℕ, ◌+◌, ◌-◌, ◌/◌, ◌<◌, ◌≤◌, ◌^◌, min, Option, None, Some, Result, Ok, Err, List, ◌++◌, length, take, drop, sym, ap, ◌∙◌, arith, append_assoc}
use Rattle.std.proofs.lemmas.List.{take-append-drop, take_all, length-append, length-take}
use Rattle.mi_image.specs.declared.fault.ImageFault.{ImageFault}
use Rattle.std.specs.Prelude.{IfOk, IfErr}
use Rattle.std.proofs.Math.Seq.{take-append-add}
use Rattle.std.proofs.lemmas.Bool.{cases_lt, both_ways}
use Rattle.mi_model.specs.declared.Kind.{Kind}
use Rattle.mi_model.specs.declared.Kind.TheVariants.{Relocatable, Fixed}
use Rattle.mi_model.specs.Image.{ImageRecord, IsImage, image_bytes}
use Rattle.mi_image.specs.declared.fault.ImageFault.TheVariants.{NoMemory}
use Rattle.mi_image.specs.Decoding.{IsRefused, IsUnfinished, Again}
use Rattle.mi_image.specs.Grammar.{number_at, kind_of, bitmap_length, file_length, spelled, first_broken, ends_early}
use Rattle.mi_image.proofs.Whole.{spelled_again, length_is}
use Rattle.mi_image.proofs.Allowed.{none_broken, whole_file}
use Rattle.mi_image.proofs.Later.{broken_stays, file_length-more}
use Rattle.mi_image.proofs.Sound.{used_allowed, header_within, within_file}

none_not_some : (broken : Option ImageFault) (fault : ImageFault) → broken ≡ None → broken ≡ Some fault → ⊥
none_not_some None fault none some = cc
none_not_some (Some f) fault none some = cc

-- what is broken with the front of a piece is broken with the piece
pub broken_with_front : (old piece : List ℕ) (n : ℕ) (fault : ImageFault) → first_broken (old ++ take n piece) ≡ Some fault → first_broken (old ++ piece) ≡ Some fault
broken_with_front old piece n fault h =
    ap first_broken (ap (λ (xs : List ℕ). old ++ xs) (sym (take-append-drop n piece)) ∙ sym (append_assoc old (take n piece) (drop n piece)))
    ∙ broken_stays (old ++ take n piece) (drop n piece) fault h

-- the number of bytes in use is small enough
pub used_most : (bytes : List ℕ) → 40 ≤ length bytes → first_broken bytes ≡ None → number_at bytes 32 ≤ 2 ^ 23
used_most bytes judged allowed = let u = used_allowed bytes judged allowed in let most = u.size.most in let within = u.used.2 in omega arith

-- a piece that is taken up to a byte behind the end, where no part is broken then, is taken whole
pub taken_whole : (bytes piece : List ℕ) (n : ℕ) → 40 ≤ length bytes → first_broken bytes ≡ None → n ≡ min (length piece) (file_length bytes + 1 - length bytes)
    → first_broken (bytes ++ take n piece) ≡ None → take n piece ≡ piece
taken_whole bytes piece n judged allowed is none =
    let before = within_file bytes allowed in
    let after = within_file (bytes ++ take n piece) none in
    let same = file_length-more bytes (take n piece) judged in
    take_all n piece (omega (arith, length-append bytes (take n piece), length-take n piece))

bitmap_length-most : (kind : Kind) (used : ℕ) → bitmap_length kind used ≤ used
bitmap_length-most Relocatable used = at (cases_lt used 8)
  where
    at : (used < 8) ⊎ (8 ≤ used) → (used / 8 + 7) / 8 ≤ used
    at (inl few) = omega arith
    at (inr some) = omega arith
bitmap_length-most Fixed used = omega arith

pub file_length-most : (bytes : List ℕ) → number_at bytes 32 ≤ 2 ^ 23 → file_length bytes ≤ 56 + 2 ^ 24
unfolding file_length
file_length-most bytes most = let m = bitmap_length-most (kind_of (number_at bytes 16)) (number_at bytes 32) in omega arith

-- the bytes of an image are refused only for want of memory
pub image_not_refused : (r : ImageRecord) (old : Result (List ℕ) ImageFault) (piece bytes rest : List ℕ) (fault : ImageFault) → IsImage r → old ≡ Ok bytes
    → image_bytes r ≡ bytes ++ piece ++ rest → IsRefused old piece fault → fault ≡ NoMemory
image_not_refused r old piece bytes rest fault is e whole h = at (rw e at h)
  where
    at : IsRefused (Ok bytes) piece fault → fault ≡ NoMemory
    at (inl broken) =
        let none : first_broken (bytes ++ piece ++ rest) ≡ None = ap first_broken (sym whole) ∙ none_broken r is in
        let some = broken_stays (bytes ++ piece) rest fault broken in
        absurd (none_not_some (first_broken (bytes ++ piece ++ rest)) fault none some)
    at (inr want) = want.memory

-- the bytes of an image give that image again
pub image_again : (r : ImageRecord) (bytes : List ℕ) (answer : Result ImageRecord ImageFault) → IsImage r → bytes ≡ image_bytes r
    → IfOk answer (λ image. image ≡ spelled bytes) → IfErr answer (λ fault. IsUnfinished (Ok bytes) fault) → Again r answer
image_again r bytes (Ok image) is same ok err = ok ∙ ap spelled same ∙ spelled_again r is
image_again r bytes (Err fault) is same ok (inl want) = want.memory
image_again r bytes (Err fault) is same ok (inr short) =
    absurd (both_ways (ends_early bytes) (ap ends_early same ∙ whole_file r is) short.early)

-- an image has more bytes than those before the length is known
pub not_an_image : (r : ImageRecord) (bytes : List ℕ) → IsImage r → bytes ≡ image_bytes r → 56 ≤ length bytes
not_an_image r bytes is same = let e = ap length same in let l = length_is r is in let h = header_within (image_bytes r) in omega arith

-- different images have different bytes
pub told_apart : (r s : ImageRecord) → IsImage r → IsImage s → image_bytes r ≡ image_bytes s → r ≡ s
told_apart r s first second same = sym (spelled_again r first) ∙ ap spelled same ∙ spelled_again s second

pub same_bytes : (xs ys : List ℕ) → ◌≡◌ {A = Result (List ℕ) ImageFault} (Ok xs) (Ok ys) → xs ≡ ys
same_bytes xs ys e = cc

-- the first 40 bytes, where some of a piece are needed for them
pub first_forty : (old piece : List ℕ) (n : ℕ) → length old + n ≡ 40 → take 40 (old ++ piece) ≡ old ++ take n piece
first_forty old piece n e = ap (λ (k : ℕ). take k (old ++ piece)) (sym e) ∙ take-append-add old piece n
