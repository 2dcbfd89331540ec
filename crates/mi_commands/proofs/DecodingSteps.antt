-- What the calls of decoding do together.
use Rattle.std.proofs.Common.{◌≡◌, ◌≤◌, ◌<◌, ◌^◌, ℕ, List, [], ◌++◌, take, drop, length, Bool, true, false, cond, nat_lt, Option, None, Some, Result, Ok, Err, refl, sym, ap, ◌∙◌, subst, inl, inr, arith, rules, append-nil, append_assoc, take-append-drop, length-append, length-take-le}
use Rattle.std.proofs.Math.Seq.{take-append_seam}
use Rattle.std.specs.Prelude.{◌⊎◌, IsOk}
use Rattle.mi_model.specs.Image.{ImageRecord, IsImage, image_bytes}
use Rattle.mi_outside.specs.Holding.{Holding, SameFiles, BeginsRead, ReadsFile, EndsRead, Takes, TakesOn}
use Rattle.mi_outside.specs.Telling.{WhileTold}
use Rattle.mi_outside.specs.declared.traits.Failed.{Failed}
use Rattle.mi_image.specs.declared.fault.ImageFault.{ImageFault}
use Rattle.mi_model.specs.declared.Kind.{Kind}
use Rattle.mi_model.specs.declared.Kind.TheVariants.{Relocatable, Fixed}
use Rattle.mi_image.specs.Grammar.{number_at, kind_of, bitmap_length, file_length, first_broken, ends_early, spelled}
use Rattle.mi_image.specs.Decoding.{IsTaken, IsRefused, IsUnfinished}
use Rattle.mi_image.proofs.Later.{broken_stays}
use Rattle.mi_image.proofs.Allowed.{none_broken, whole_file}
use Rattle.mi_image.proofs.Whole.{spelled_again}
use Rattle.mi_image.proofs.Sound.{within_file}
use Rattle.mi_image.proofs.Fed.{used_most}
use Rattle.mi_commands.proofs.Told.{while_so, while_then}
use Rattle.mi_commands.specs.declared.outcome.Outcome.{Outcome}
use Rattle.mi_commands.specs.declared.outcome.Outcome.TheVariants.{ReadFault, NoMemory, NoFile, Truncated}
use Rattle.mi_commands.specs.Outcomes.{IsFault}
use Rattle.mi_commands.specs.commands.Run.{outcome_of_image_fault, image_or_fault, image_read}
use Rattle.mi_commands.specs.Decoding.{IsReadAs, ReadsImage, DecodesRest, fed, IsFed, FeedsPiece}

-- what was left of the file at first is what the decoder was fed and what is left now
pub record IsFedTo (bytes : List ℕ) (old new : Holding) : Type 0 where
  pub rest : (rest : List ℕ) → old.reading ≡ Some rest → (left : List ℕ) × ((new.reading ≡ Some left) × (rest ≡ bytes ++ left))
  pub files : SameFiles old new

-- before the first piece
pub none_fed : (a : Option Holding) → WhileTold a a (IsFedTo [])
none_fed None = refl
none_fed (Some x) = record { rest = λ rest e. (rest, (e, refl)); files = λ name. refl }

-- after one more piece
pub fed_more : (before after : List ℕ) (x y z : Holding) → IsFedTo before x y → FeedsPiece (Ok true) before after y z → IsFedTo after x z
fed_more before after x y z r s =
    record {
      rest = λ rest e.
          let at = r.rest rest e in
          let piece : IsFed (Ok true) before after at.0 z.reading = s.piece at.0 at.1.0 in
          (piece.0, (piece.1, at.1.1 ∙ piece.2));
      files = λ name. s.files name ∙ r.files name;
    }

-- at the end
pub fed_all : (result : Result ImageRecord Outcome) (before after : List ℕ) (x y z : Holding) → IsReadAs result (Some after) → IsFedTo before x y → FeedsPiece (Ok false) before after y z → DecodesRest result x z
fed_all result before after x y z right r s =
    record {
      answer = λ rest e.
          let at = r.rest rest e in
          let piece : IsFed (Ok false) before after at.0 z.reading = s.piece at.0 at.1.0 in
          subst (λ (bytes : List ℕ). IsReadAs result (Some bytes)) (piece.1 ∙ sym (at.1.1 ∙ (ap (λ (left : List ℕ). before ++ left) piece.0 ∙ append-nil before))) right;
      files = λ name. s.files name ∙ r.files name;
    }

-- after a refusal
pub fed_refused : (outcome : Outcome) (before after : List ℕ) (x y z : Holding) → IsFedTo before x y → FeedsPiece (Err outcome) before after y z → DecodesRest (Err outcome) x z
fed_refused outcome before after x y z r s =
    record {
      answer = λ rest e.
          let at = r.rest rest e in
          subst (λ (bytes : List ℕ). IsReadAs (Err outcome) (Some bytes)) (sym at.1.1) (s.piece at.0 at.1.0);
      files = λ name. s.files name ∙ r.files name;
    }

-- an answer that refuses
abbrev pub refused_image : Outcome → Result ImageRecord Outcome
refused_image o = Err o

abbrev ok_image : ImageRecord → Result ImageRecord Outcome
ok_image r = Ok r

-- the bytes of an image give that image
image_of_bytes : (r : ImageRecord) → IsImage r → image_read (Some (image_bytes r)) ≡ Ok r
image_of_bytes r is =
    ap (λ (broken : Option ImageFault). image_or_fault (image_bytes r) broken) (none_broken r is)
    ∙ (ap (λ (early : Bool). cond early (Err (Truncated 1 (length (image_bytes r)))) (Ok (spelled (image_bytes r)))) (whole_file r is)
    ∙ ap (λ (s : ImageRecord). ok_image s) (spelled_again r is))

same_bytes : (bytes other : List ℕ) → ◌≡◌ {A = Result (List ℕ) ImageFault} (Ok bytes) (Ok other) → bytes ≡ other
same_bytes bytes other e = cc

-- the decoder has answered with an image
pub image_decoded : (decoder : Result (List ℕ) ImageFault) (image : ImageRecord) → IsOk decoder → IsImage image × (decoder ≡ Ok (image_bytes image)) → IsReadAs (Ok image) (Some (fed decoder))
image_decoded (Ok bytes) image ok h =
    ap (λ (bs : List ℕ). image_read (Some bs)) (same_bytes bytes (image_bytes image) h.1) ∙ image_of_bytes image h.0
image_decoded (Err fault) image ok h = let no : ⊥ = cc in absurd no

early_read : (bytes : List ℕ) (early : Bool) → ends_early bytes ≡ early → early ≡ true → first_broken bytes ≡ None → image_read (Some bytes) ≡ Err (Truncated 1 (length bytes))
early_read bytes early is true_is allowed =
    ap (λ (broken : Option ImageFault). image_or_fault bytes broken) allowed
    ∙ ap (λ (b : Bool). cond b (Err (Truncated 1 (length bytes))) (Ok (spelled bytes))) (is ∙ true_is)

-- the decoder has refused the end
pub end_refused : (decoder : Result (List ℕ) ImageFault) (fault : ImageFault) (outcome : Outcome) → IsOk decoder → outcome ≡ outcome_of_image_fault 1 fault → IsUnfinished decoder fault → IsReadAs (Err outcome) (Some (fed decoder))
end_refused (Ok bytes) fault outcome ok is (inl want) = inl (inl (is ∙ ap (λ (f : ImageFault). outcome_of_image_fault 1 f) want.memory))
end_refused (Ok bytes) fault outcome ok is (inr short) =
    inr (early_read bytes true short.early refl short.allowed ∙ ap (λ (o : Outcome). refused_image o) (sym (is ∙ ap (λ (f : ImageFault). outcome_of_image_fault 1 f) short.told)))
end_refused (Err before) fault outcome ok is h = let no : ⊥ = cc in absurd no

-- a read took a front of what was left
took : (old new : Option (List ℕ)) (rest room filled : List ℕ) (n : ℕ) → old ≡ Some rest → TakesOn old new room filled n → (left : List ℕ) × ((new ≡ Some left) × Takes rest left room filled n)
took (Some o) (Some w) rest room filled n e t = let same : o ≡ rest = cc in (w, (refl, subst (λ (b : List ℕ). Takes b w room filled n) same t))
took (Some o) None rest room filled n e t = absurd t
took None new rest room filled n e t = let no : ⊥ = cc in absurd no

-- the first of two parts
take-front : (n : ℕ) (xs ys : List ℕ) → length xs ≡ n → take n (xs ++ ys) ≡ xs
take-front n xs ys is = ap (λ (k : ℕ). take k (xs ++ ys)) (sym is) ∙ take-append_seam xs ys

-- that front, in the room
front_of : (rest left room filled : List ℕ) (n : ℕ) → Takes rest left room filled n → take n filled ++ left ≡ rest
front_of rest left room filled n t =
    let within : length (take n rest) ≡ n = length-take-le n rest t.within in
    let front : take n filled ≡ take n rest = ap (λ (xs : List ℕ). take n xs) t.front ∙ take-front n (take n rest) (drop n room) within in
    ap (λ (xs : List ℕ). xs ++ left) front ∙ (ap (λ (xs : List ℕ). take n rest ++ xs) t.left ∙ take-append-drop n rest)

-- the piece was taken
taken_fed : (before after : Result (List ℕ) ImageFault) (piece : List ℕ) → IsTaken before piece after → fed after ≡ fed before ++ piece
taken_fed (Ok bytes) after piece h = ap fed h.0
taken_fed (Err fault) after piece h = absurd h

piece_fed : (before after : Result (List ℕ) ImageFault) (count : ℕ) (room filled piece : List ℕ) (x y : Holding) → piece ≡ take count filled → IsTaken before piece after → ReadsFile {E = Failed} (Ok count) room filled x y → FeedsPiece (Ok true) (fed before) (fed after) x y
piece_fed before after count room filled piece x y is taken r =
    record {
      piece = λ rest e.
          let t = took x.reading y.reading rest room filled count e r.taken in (
            t.0,
            t.1.0,
            ap (λ (xs : List ℕ). fed before ++ xs) (sym (front_of rest t.0 room filled count t.1.1))
                ∙ (sym (append_assoc (fed before) (take count filled) t.0)
                ∙ ap (λ (xs : List ℕ). xs ++ t.0) (ap (λ (xs : List ℕ). fed before ++ xs) (sym is) ∙ sym (taken_fed before after piece taken))),
          );
      files = r.files;
    }

pub piece_told : (before after : Result (List ℕ) ImageFault) (count : ℕ) (room filled piece : List ℕ) (a b : Option Holding) → piece ≡ take count filled → IsTaken before piece after
    → WhileTold a b (ReadsFile {E = Failed} (Ok count) room filled) → WhileTold a b (FeedsPiece (Ok true) (fed before) (fed after))
piece_told before after count room filled piece a b is taken r =
    while_so (ReadsFile {E = Failed} (Ok count) room filled) (FeedsPiece (Ok true) (fed before) (fed after)) (λ x y. piece_fed before after count room filled piece x y is taken) a b r

nothing_fed : (bytes : List ℕ) (count : ℕ) (room filled : List ℕ) (x y : Holding) → count ≡ 0 → 0 < length room → ReadsFile {E = Failed} (Ok count) room filled x y → FeedsPiece (Ok false) bytes bytes x y
nothing_fed bytes count room filled x y none large r =
    record {
      piece = λ rest e. let t = took x.reading y.reading rest room filled count e r.taken in (t.1.1.at_end none large, refl);
      files = r.files;
    }

pub end_told : (bytes : List ℕ) (count : ℕ) (room filled : List ℕ) (a b : Option Holding) → count ≡ 0 → 0 < length room → WhileTold a b (ReadsFile {E = Failed} (Ok count) room filled) → WhileTold a b (FeedsPiece (Ok false) bytes bytes)
end_told bytes count room filled a b none large r =
    while_so (ReadsFile {E = Failed} (Ok count) room filled) (FeedsPiece (Ok false) bytes bytes) (λ x y. nothing_fed bytes count room filled x y none large) a b r

-- the piece was refused
broken_read : (bytes more : List ℕ) (fault : ImageFault) → first_broken bytes ≡ Some fault → image_read (Some (bytes ++ more)) ≡ Err (outcome_of_image_fault 1 fault)
broken_read bytes more fault h = ap (λ (broken : Option ImageFault). image_or_fault (bytes ++ more) broken) (broken_stays bytes more fault h)

refused_as : (before : Result (List ℕ) ImageFault) (piece left rest : List ℕ) (fault : ImageFault) (outcome : Outcome) → IsOk before → outcome ≡ outcome_of_image_fault 1 fault → piece ++ left ≡ rest → IsRefused before piece fault
    → IsFault outcome ⊎ (image_read (Some (fed before ++ rest)) ≡ Err outcome)
refused_as (Ok bytes) piece left rest fault outcome ok is whole (inl broken) =
    inr (ap (λ (xs : List ℕ). image_read (Some xs)) (ap (λ (xs : List ℕ). bytes ++ xs) (sym whole) ∙ sym (append_assoc bytes piece left))
    ∙ (broken_read (bytes ++ piece) left fault broken ∙ ap (λ (o : Outcome). refused_image o) (sym is)))
refused_as (Ok bytes) piece left rest fault outcome ok is whole (inr want) = inl (inl (is ∙ ap (λ (f : ImageFault). outcome_of_image_fault 1 f) want.memory))
refused_as (Err other) piece left rest fault outcome ok is whole h = let no : ⊥ = cc in absurd no

piece_refused : (before : Result (List ℕ) ImageFault) (after : List ℕ) (fault : ImageFault) (outcome : Outcome) (count : ℕ) (room filled piece : List ℕ) (x y : Holding) → IsOk before → outcome ≡ outcome_of_image_fault 1 fault → piece ≡ take count filled → IsRefused before piece fault
    → ReadsFile {E = Failed} (Ok count) room filled x y → FeedsPiece (Err outcome) (fed before) after x y
piece_refused before after fault outcome count room filled piece x y ok is same refused r =
    record {
      piece = λ rest e.
          let t = took x.reading y.reading rest room filled count e r.taken in
          refused_as before piece t.0 rest fault outcome ok is (ap (λ (xs : List ℕ). xs ++ t.0) same ∙ front_of rest t.0 room filled count t.1.1) refused;
      files = r.files;
    }

pub refusal_told : (before : Result (List ℕ) ImageFault) (after : List ℕ) (fault : ImageFault) (outcome : Outcome) (count : ℕ) (room filled piece : List ℕ) (a b : Option Holding) → IsOk before → outcome ≡ outcome_of_image_fault 1 fault → piece ≡ take count filled → IsRefused before piece fault
    → WhileTold a b (ReadsFile {E = Failed} (Ok count) room filled) → WhileTold a b (FeedsPiece (Err outcome) (fed before) after)
refusal_told before after fault outcome count room filled piece a b ok is same refused r =
    while_so (ReadsFile {E = Failed} (Ok count) room filled) (FeedsPiece (Err outcome) (fed before) after) (λ x y. piece_refused before after fault outcome count room filled piece x y ok is same refused) a b r

-- the read failed
read_refused : (before after : List ℕ) (failed : Failed) (room filled : List ℕ) (x y : Holding) → ReadsFile {E = Failed} (Err failed) room filled x y → FeedsPiece (Err ReadFault) before after x y
read_refused before after failed room filled x y r = record { piece = λ rest e. inl (inr (inl refl)); files = r.files }

pub failure_told : (before after : List ℕ) (failed : Failed) (room filled : List ℕ) (a b : Option Holding) → WhileTold a b (ReadsFile {E = Failed} (Err failed) room filled) → WhileTold a b (FeedsPiece (Err ReadFault) before after)
failure_told before after failed room filled a b r =
    while_so (ReadsFile {E = Failed} (Err failed) room filled) (FeedsPiece (Err ReadFault) before after) (read_refused before after failed room filled) a b r

-- what was taken is no longer than the file of an image
pub taken_ok : (before after : Result (List ℕ) ImageFault) (piece : List ℕ) → IsTaken before piece after → IsOk after
taken_ok (Ok bytes) after piece h = subst (λ (r : Result (List ℕ) ImageFault). IsOk r) (sym h.0) refl
taken_ok (Err fault) after piece h = absurd h

pub taken_grows : (before after : Result (List ℕ) ImageFault) (piece : List ℕ) → 0 < length piece → IsTaken before piece after → length (fed before) < length (fed after)
taken_grows before after piece some h =
    let longer : length (fed after) ≡ length (fed before ++ piece) = ap (λ (xs : List ℕ). length xs) (taken_fed before after piece h) in
    omega (arith, longer, length-append (fed before) piece, some)

short_file : (kind : Kind) (used : ℕ) → used ≤ 2 ^ 23 → bitmap_length kind used ≤ 2 ^ 21
short_file Relocatable used h = omega (arith, h)
short_file Fixed used h = omega arith

file_most : (bytes : List ℕ) → number_at bytes 32 ≤ 2 ^ 23 → file_length bytes ≤ 2 ^ 24
unfolding file_length
file_most bytes h = omega (arith, h, short_file (kind_of (number_at bytes 16)) (number_at bytes 32) h)

bytes_most : (bytes : List ℕ) (many : Bool) → nat_lt (length bytes) 40 ≡ many → first_broken bytes ≡ None → length bytes ≤ 2 ^ 24
bytes_most bytes true few allowed = let short : length bytes < 40 = search rules in omega (arith, short)
bytes_most bytes false few allowed =
    let long : 40 ≤ length bytes = search rules in
    omega (arith, within_file bytes allowed, file_most bytes (used_most bytes long allowed))

pub taken_most : (before after : Result (List ℕ) ImageFault) (piece : List ℕ) → IsTaken before piece after → length (fed after) ≤ 2 ^ 24
taken_most (Ok bytes) after piece h =
    subst (λ (r : Result (List ℕ) ImageFault). length (fed r) ≤ 2 ^ 24) (sym h.0) (bytes_most (bytes ++ piece) (nat_lt (length (bytes ++ piece)) 40) refl h.1)
taken_most (Err fault) after piece h = absurd h

-- the file that was begun was read to its end, or a refusal came
pub begun_decoded : (result : Result ImageRecord Outcome) (name : List ℕ) (x y z : Holding) → BeginsRead {E = Failed} (Ok true) name x y → DecodesRest result y z → ReadsImage result name x z
begun_decoded result name x y z r s =
    record {
      answer = subst (λ (content : Option (List ℕ)). IsReadAs result content) (sym r.begun.1) (s.answer r.begun.0 r.begun.2);
      files = λ q. s.files q ∙ r.files q;
    }

-- there is no file to begin, or the call failed
pub none_decoded : (name : List ℕ) (x y : Holding) → BeginsRead {E = Failed} (Ok false) name x y → ReadsImage (Err (NoFile 1)) name x y
none_decoded name x y r = record { answer = inr (ap (λ (content : Option (List ℕ)). image_read content) r.begun.0); files = r.files }

pub failed_decoded : (failed : Failed) (name : List ℕ) (x y : Holding) → BeginsRead {E = Failed} (Err failed) name x y → ReadsImage (Err ReadFault) name x y
failed_decoded failed name x y r = record { answer = inl (inr (inl refl)); files = r.files }

-- the end of reading changes no file
pub decoded_ended : (result : Result ImageRecord Outcome) (name : List ℕ) (x y z : Holding) → ReadsImage result name x y → EndsRead y z → ReadsImage result name x z
decoded_ended result name x y z r s = record { answer = r.answer; files = λ q. s.files q ∙ r.files q }

-- there was no memory before a file was read
pub unread : (name : List ℕ) (a : Option Holding) → WhileTold a a (ReadsImage (Err NoMemory) name)
unread name None = refl
unread name (Some x) = record { answer = inl (inl refl); files = λ q. refl }

-- the same of files that may tell
pub begun_told : (result : Result ImageRecord Outcome) (name : List ℕ) (a b c : Option Holding) → WhileTold a b (BeginsRead {E = Failed} (Ok true) name) → WhileTold b c (DecodesRest result) → WhileTold a c (ReadsImage result name)
begun_told result name a b c r s = while_then (BeginsRead {E = Failed} (Ok true) name) (DecodesRest result) (ReadsImage result name) (begun_decoded result name) a b c r s

pub none_told : (name : List ℕ) (a b : Option Holding) → WhileTold a b (BeginsRead {E = Failed} (Ok false) name) → WhileTold a b (ReadsImage (Err (NoFile 1)) name)
none_told name a b r = while_so (BeginsRead {E = Failed} (Ok false) name) (ReadsImage (Err (NoFile 1)) name) (none_decoded name) a b r

pub failed_told : (failed : Failed) (name : List ℕ) (a b : Option Holding) → WhileTold a b (BeginsRead {E = Failed} (Err failed) name) → WhileTold a b (ReadsImage (Err ReadFault) name)
failed_told failed name a b r = while_so (BeginsRead {E = Failed} (Err failed) name) (ReadsImage (Err ReadFault) name) (failed_decoded failed name) a b r

pub ended_told : (result : Result ImageRecord Outcome) (name : List ℕ) (a b c : Option Holding) → WhileTold a b (ReadsImage result name) → WhileTold b c EndsRead → WhileTold a c (ReadsImage result name)
ended_told result name a b c r s = while_then (ReadsImage result name) EndsRead (ReadsImage result name) (decoded_ended result name) a b c r s
