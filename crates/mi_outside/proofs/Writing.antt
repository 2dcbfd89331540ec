-- Bytes written one piece after another.
use Rattle.std.proofs.Common.{ℕ, ◌≡◌, List, [], ◌∷◌, ◌++◌, Option, None, Some, refl, ap, sym, ◌∙◌, take, drop, append_assoc, append-nil, take-append-drop}
use Rattle.mi_outside.specs.Telling.{IfStillTold}
use Rattle.mi_outside.specs.Written.{AddsButRest, Emits, EmitsButRest, EmitsFront}

-- a front of the bytes, and a front of what it leaves
adds_on : (before now after all bytes rest : List ℕ) → AddsButRest all bytes before now → AddsButRest bytes rest now after → AddsButRest all rest before after
adds_on before now after all bytes rest h k =
    record {
      written = h.written ++ k.written;
      added = k.added ∙ ap (λ (xs : List ℕ). xs ++ k.written) h.added ∙ append_assoc before h.written k.written;
      whole = append_assoc h.written k.written rest ∙ ap (λ (xs : List ℕ). h.written ++ xs) k.whole ∙ h.whole;
    }

-- with nothing left the bytes are all there
adds_all : (before now all : List ℕ) → AddsButRest all [] before now → now ≡ before ++ all
adds_all before now all h = h.added ∙ ap (λ (xs : List ℕ). before ++ xs) (sym (append-nil h.written) ∙ h.whole)

adds_whole : (before now all : List ℕ) → now ≡ before ++ all → AddsButRest all [] before now
adds_whole before now all h = record { written = all; added = h; whole = append-nil all }

-- a front of the bytes is one of more bytes
adds_more : (before now bytes rest more : List ℕ) → AddsButRest bytes rest before now → AddsButRest (bytes ++ more) (rest ++ more) before now
adds_more before now bytes rest more h =
    record {
      written = h.written;
      added = h.added;
      whole = sym (append_assoc h.written rest more) ∙ ap (λ (xs : List ℕ). xs ++ more) h.whole;
    }

pub emits_on : (first second third : Option (List ℕ)) (all bytes rest : List ℕ) → EmitsButRest first second all bytes → EmitsButRest second third bytes rest → EmitsButRest first third all rest
emits_on first second None all bytes rest h k = tt
emits_on (Some b) (Some n) (Some m) all bytes rest h k = adds_on b n m all bytes rest h k
emits_on None (Some n) (Some m) all bytes rest h k = h
emits_on first None (Some m) all bytes rest h k = absurd k

pub emits_last : (first second third : Option (List ℕ)) (all bytes : List ℕ) → EmitsButRest first second all bytes → Emits second third bytes → Emits first third all
emits_last first second None all bytes h k = tt
emits_last (Some b) (Some n) (Some m) all bytes h k = adds_all b m all (adds_on b n m all bytes [] h (adds_whole n m bytes k))
emits_last None (Some n) (Some m) all bytes h k = h
emits_last first None (Some m) all bytes h k = absurd k

-- a piece in front of the rest
pub emits_front : (first second : Option (List ℕ)) (piece rest : List ℕ) → Emits first second piece → EmitsButRest first second (piece ++ rest) rest
emits_front first None piece rest h = tt
emits_front (Some b) (Some n) piece rest h = record { written = piece; added = h; whole = refl }
emits_front None (Some n) piece rest h = h

pub emits_all : (first second : Option (List ℕ)) (all : List ℕ) → EmitsButRest first second all [] → Emits first second all
emits_all first None all h = tt
emits_all (Some b) (Some n) all h = adds_all b n all h
emits_all None (Some n) all h = h

-- nothing was written
pub front_none : (first : Option (List ℕ)) (all : List ℕ) → EmitsFront first first all
front_none None all = tt
front_none (Some b) all = (all, record { written = []; added = sym (append-nil b); whole = refl })

pub front_whole : (first second : Option (List ℕ)) (all : List ℕ) → Emits first second all → EmitsFront first second all
front_whole first None all h = tt
front_whole (Some b) (Some n) all h = ([], adds_whole b n all h)
front_whole None (Some n) all h = h

-- a failed write has added a part of the piece's front
pub front_piece : (first second : Option (List ℕ)) (piece : List ℕ) → IfStillTold first second (λ before now. (n : ℕ) × (now ≡ before ++ take n piece)) → EmitsFront first second piece
front_piece first None piece h = tt
front_piece (Some b) (Some n) piece h = (drop h.0 piece, record { written = take h.0 piece; added = h.1; whole = take-append-drop h.0 piece })
front_piece None (Some n) piece h = h

pub front_more : (first second : Option (List ℕ)) (bytes more : List ℕ) → EmitsFront first second bytes → EmitsFront first second (bytes ++ more)
front_more first None bytes more h = tt
front_more (Some b) (Some n) bytes more h = (h.0 ++ more, adds_more b n bytes h.0 more h.1)
front_more None (Some n) bytes more h = h

pub front_first : (first second : Option (List ℕ)) (byte : ℕ) (more : List ℕ) → EmitsFront first second (byte ∷ []) → EmitsFront first second (byte ∷ more)
front_first first second byte more h = front_more first second (byte ∷ []) more h

pub front_last : (first second third : Option (List ℕ)) (all bytes : List ℕ) → EmitsButRest first second all bytes → EmitsFront second third bytes → EmitsFront first third all
front_last first second None all bytes h k = tt
front_last (Some b) (Some n) (Some m) all bytes h k = (k.0, adds_on b n m all bytes k.0 h k.1)
front_last None (Some n) (Some m) all bytes h k = h
front_last first None (Some m) all bytes h k = absurd k

pub front_behind : (first second third : Option (List ℕ)) (all bytes more : List ℕ) → EmitsButRest first second all (bytes ++ more) → EmitsFront second third bytes → EmitsFront first third all
front_behind first second third all bytes more h k = front_last first second third all (bytes ++ more) h (front_more second third bytes more k)
