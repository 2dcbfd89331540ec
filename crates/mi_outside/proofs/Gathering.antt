-- Bytes that wait on their way to an output.
use Rattle.std.proofs.Common.{ℕ, zero, suc, ◌≡◌, ◌<◌, ◌+◌, List, [], ◌∷◌, ◌++◌, length, get_or, take, drop, Option, None, Some, Result, Ok, Err, refl, sym, ap, subst, ◌∙◌, append-nil, append_assoc, take-append-drop, arith}
use Rattle.mi_outside.specs.Telling.{IfStillTold}
use Rattle.mi_outside.specs.Written.{AddsButRest, Emits, EmitsButRest, EmitsFront}
use Rattle.mi_outside.specs.Holding.{Writes}
use Rattle.mi_outside.specs.Gathered.{Passes, last_of}
use Rattle.mi_outside.proofs.Writing.{emits_on, emits_front, front_more, front_last, front_piece}

-- nothing was written, and all wait
pub all_wait : (first : Option (List ℕ)) (bytes : List ℕ) → EmitsButRest first first bytes bytes
all_wait None bytes = tt
all_wait (Some b) bytes = record { written = []; added = sym (append-nil b); whole = refl }

-- more bytes behind those that wait
pub more_wait : (first second : Option (List ℕ)) (bytes rest more : List ℕ) → EmitsButRest first second bytes rest → EmitsButRest first second (bytes ++ more) (rest ++ more)
more_wait first None bytes rest more h = tt
more_wait (Some b) (Some n) bytes rest more h =
    record { written = h.written; added = h.added; whole = sym (append_assoc h.written rest more) ∙ ap (λ (xs : List ℕ). xs ++ more) h.whole }
more_wait None (Some n) bytes rest more h = h

-- all that waited was written, and then one byte was put
pub put_behind : (first second : Option (List ℕ)) (waiting : List ℕ) (byte : ℕ) → EmitsButRest first second (waiting ++ []) [] → EmitsButRest first second (waiting ++ byte ∷ []) (byte ∷ [])
put_behind first second waiting byte h =
    subst (λ (xs : List ℕ). EmitsButRest first second (xs ++ byte ∷ []) (byte ∷ [])) (append-nil waiting) (more_wait first second (waiting ++ []) [] (byte ∷ []) h)

pub failed_behind : (first second : Option (List ℕ)) (waiting more : List ℕ) → EmitsFront first second (waiting ++ []) → EmitsFront first second (waiting ++ more)
failed_behind first second waiting more h = subst (λ (xs : List ℕ). EmitsFront first second (xs ++ more)) (append-nil waiting) (front_more first second (waiting ++ []) more h)

-- a piece that is put byte by byte
one_next : (piece : List ℕ) (at : ℕ) → at < length piece → take (suc at) piece ≡ take at piece ++ get_or piece at 0 ∷ []
one_next [] at below = absurd (omega arith)
one_next (b ∷ bytes) zero below = refl
one_next (b ∷ bytes) (suc at) below = ap (λ (xs : List ℕ). b ∷ xs) (one_next bytes at (omega arith))

pub one_more : (piece : List ℕ) (at : ℕ) → at < length piece → take (at + 1) piece ≡ take at piece ++ get_or piece at 0 ∷ []
one_more piece at below = let next : at + 1 ≡ suc at = omega arith in ap (λ (n : ℕ). take n piece) next ∙ one_next piece at below

last_next : (piece : List ℕ) (at before : ℕ) → at < length piece → last_of before (take (suc at) piece) ≡ get_or piece at 0
last_next [] at before below = absurd (omega arith)
last_next (b ∷ bytes) zero before below = refl
last_next (b ∷ bytes) (suc at) before below = last_next bytes at b (omega arith)

pub last_more : (piece : List ℕ) (at before : ℕ) → at < length piece → last_of before (take (at + 1) piece) ≡ get_or piece at 0
last_more piece at before below = let next : at + 1 ≡ suc at = omega arith in ap (λ (n : ℕ). last_of before (take n piece)) next ∙ last_next piece at before below

pub passed_on : (first second third : Option (List ℕ)) (waiting piece then after : List ℕ) (at : ℕ) → at < length piece
    → EmitsButRest first second (waiting ++ take at piece) then → EmitsButRest second third (then ++ get_or piece at 0 ∷ []) after
    → EmitsButRest first third (waiting ++ take (at + 1) piece) after
passed_on first second third waiting piece then after at below h k =
    let more : EmitsButRest first second ((waiting ++ take at piece) ++ get_or piece at 0 ∷ []) (then ++ get_or piece at 0 ∷ []) = more_wait first second (waiting ++ take at piece) then (get_or piece at 0 ∷ []) h in
    let same : (waiting ++ take at piece) ++ get_or piece at 0 ∷ [] ≡ waiting ++ take (at + 1) piece =
    append_assoc waiting (take at piece) (get_or piece at 0 ∷ []) ∙ ap (λ (xs : List ℕ). waiting ++ xs) (sym (one_more piece at below)) in
    subst (λ (xs : List ℕ). EmitsButRest first third xs after) same (emits_on first second third _ (then ++ get_or piece at 0 ∷ []) after more k)

pub failed_on : (first second third : Option (List ℕ)) (waiting piece then : List ℕ) (at : ℕ) → at < length piece
    → EmitsButRest first second (waiting ++ take at piece) then → EmitsFront second third (then ++ get_or piece at 0 ∷ [])
    → EmitsFront first third (waiting ++ piece)
failed_on first second third waiting piece then at below h k =
    let more : EmitsButRest first second ((waiting ++ take at piece) ++ get_or piece at 0 ∷ []) (then ++ get_or piece at 0 ∷ []) = more_wait first second (waiting ++ take at piece) then (get_or piece at 0 ∷ []) h in
    let same : ((waiting ++ take at piece) ++ get_or piece at 0 ∷ []) ++ drop (at + 1) piece ≡ waiting ++ piece =
    ap (λ (xs : List ℕ). xs ++ drop (at + 1) piece) (append_assoc waiting (take at piece) (get_or piece at 0 ∷ []) ∙ ap (λ (xs : List ℕ). waiting ++ xs) (sym (one_more piece at below)))
    ∙ append_assoc waiting (take (at + 1) piece) (drop (at + 1) piece) ∙ ap (λ (xs : List ℕ). waiting ++ xs) (take-append-drop (at + 1) piece) in
    subst (λ (xs : List ℕ). EmitsFront first third xs) same (front_more first third ((waiting ++ take at piece) ++ get_or piece at 0 ∷ []) (drop (at + 1) piece) (front_last first second third _ (then ++ get_or piece at 0 ∷ []) more k))

-- what waited was written, or a part of its front
pub flushed : {X E : Type 0} (r : Result X E) (first second : Option (List ℕ)) (waiting piece : List ℕ) → IfStillTold first second (λ before now. Writes r piece before now) → piece ≡ waiting → Passes r waiting [] [] first second
flushed (Ok x) first second waiting piece h same = subst (λ (xs : List ℕ). EmitsButRest first second (xs ++ []) []) same (emits_front first second piece [] h)
flushed (Err e) first second waiting piece h same = subst (λ (xs : List ℕ). EmitsFront first second (xs ++ [])) same (front_more first second piece [] (front_piece first second piece h))
