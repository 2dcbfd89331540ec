-- Bytes put one piece after another.
use Rattle.std.proofs.Common.{◌≡◌, ℕ, List, [], ◌∷◌, ◌++◌, Option, None, Some, refl, sym, ap, subst, ◌∙◌, append-nil, append_assoc}
use Rattle.mi_outside.specs.Gathered.{GatheredView, last_of}
use Rattle.mi_outside.specs.Written.{Emits, EmitsButRest, EmitsFront}
use Rattle.mi_outside.specs.Puts.{Output, output_of, PutsButRest, Puts, PutsFront, WritesFront}
use Rattle.mi_outside.proofs.Writing.{emits_on, emits_all, front_last, front_more as more_written, front_none as none_written}
use Rattle.mi_outside.proofs.Gathering.{all_wait, more_wait}

last_of-append : (before : ℕ) (xs ys : List ℕ) → last_of before (xs ++ ys) ≡ last_of (last_of before xs) ys
last_of-append before [] ys = refl
last_of-append before (x ∷ xs) ys = last_of-append x xs ys

-- nothing was put, and all of it is the rest
pub puts_nothing : (out : Output) (bytes rest : List ℕ) → bytes ≡ rest → PutsButRest out out bytes rest
puts_nothing out bytes rest e =
    record {
      written = subst (λ (xs : List ℕ). EmitsButRest out.written out.written (out.gathered.waiting ++ bytes) (out.gathered.waiting ++ xs)) e (all_wait out.written (out.gathered.waiting ++ bytes));
      last = ap (λ (xs : List ℕ). last_of out.gathered.last xs) (sym e);
    }

pub puts_none : (out : Output) → Puts out out []
puts_none out = puts_nothing out [] [] refl

pub puts_on : (first second third : Output) (all bytes rest : List ℕ) → PutsButRest first second all bytes → PutsButRest second third bytes rest → PutsButRest first third all rest
puts_on first second third all bytes rest h k =
    record {
      written = emits_on first.written second.written third.written _ _ _ h.written k.written;
      last = k.last ∙ h.last;
    }

-- more bytes are left, and are still left
puts_more : (first second : Output) (bytes rest more : List ℕ) → PutsButRest first second bytes rest → PutsButRest first second (bytes ++ more) (rest ++ more)
puts_more first second bytes rest more h =
    let all : (first.gathered.waiting ++ bytes) ++ more ≡ first.gathered.waiting ++ (bytes ++ more) = append_assoc first.gathered.waiting bytes more in
    let left : (second.gathered.waiting ++ rest) ++ more ≡ second.gathered.waiting ++ (rest ++ more) = append_assoc second.gathered.waiting rest more in
    record {
      written = subst (λ (xs : List ℕ). EmitsButRest first.written second.written xs (second.gathered.waiting ++ (rest ++ more))) all
          (subst (λ (xs : List ℕ). EmitsButRest first.written second.written ((first.gathered.waiting ++ bytes) ++ more) xs) left (more_wait first.written second.written _ _ more h.written));
      last = last_of-append second.gathered.last rest more ∙ ap (λ (b : ℕ). last_of b more) h.last ∙ sym (last_of-append first.gathered.last bytes more);
    }

-- a piece in front of the rest
pub puts_front : (first second : Output) (piece rest : List ℕ) → Puts first second piece → PutsButRest first second (piece ++ rest) rest
puts_front first second piece rest h = puts_more first second piece [] rest h

pub puts_first : (first second : Output) (byte : ℕ) (rest : List ℕ) → Puts first second (byte ∷ []) → PutsButRest first second (byte ∷ rest) rest
puts_first first second byte rest h = puts_front first second (byte ∷ []) rest h

-- fronts of what is put
pub front_none : (out : Output) (all : List ℕ) → PutsFront out out all
front_none out all = (all, puts_nothing out all all refl)

pub front_whole : (first second : Output) (all : List ℕ) → Puts first second all → PutsFront first second all
front_whole first second all h = ([], h)

pub front_more : (first second : Output) (bytes more : List ℕ) → PutsFront first second bytes → PutsFront first second (bytes ++ more)
front_more first second bytes more h = (h.0 ++ more, puts_more first second bytes h.0 more h.1)

pub front_on : (first second third : Output) (all bytes : List ℕ) → PutsButRest first second all bytes → PutsFront second third bytes → PutsFront first third all
front_on first second third all bytes h k = (k.0, puts_on first second third all bytes k.0 h k.1)

pub front_behind : (first second third : Output) (all bytes more : List ℕ) → PutsButRest first second all (bytes ++ more) → PutsFront second third bytes → PutsFront first third all
front_behind first second third all bytes more h k = front_on first second third all (bytes ++ more) h (front_more second third bytes more k)

-- fronts of what is written, where the output failed
pub lost_none : (out : Output) (all : List ℕ) → WritesFront out out all
lost_none out all = record { written = none_written out.written _ }

pub lost_more : (first second : Output) (bytes more : List ℕ) → WritesFront first second bytes → WritesFront first second (bytes ++ more)
lost_more first second bytes more h =
    record {
      written = subst (λ (xs : List ℕ). EmitsFront first.written second.written xs) (append_assoc first.gathered.waiting bytes more) (more_written first.written second.written _ more h.written);
    }

pub lost_first : (first second : Output) (byte : ℕ) (more : List ℕ) → WritesFront first second (byte ∷ []) → WritesFront first second (byte ∷ more)
lost_first first second byte more h = lost_more first second (byte ∷ []) more h

pub lost_on : (first second third : Output) (all bytes : List ℕ) → PutsButRest first second all bytes → WritesFront second third bytes → WritesFront first third all
lost_on first second third all bytes h k = record { written = front_last first.written second.written third.written _ _ h.written k.written }

pub lost_behind : (first second third : Output) (all bytes more : List ℕ) → PutsButRest first second all (bytes ++ more) → WritesFront second third bytes → WritesFront first third all
lost_behind first second third all bytes more h k = lost_on first second third all (bytes ++ more) h (lost_more second third bytes more k)

-- a piece was put, or the output failed in that
pub passed : (w u : Option (List ℕ)) (g h : GatheredView) (piece : List ℕ) → EmitsButRest w u (g.waiting ++ piece) h.waiting → h.last ≡ last_of g.last piece → Puts (output_of w g) (output_of u h) piece
passed w u g h piece p l = record { written = subst (λ (xs : List ℕ). EmitsButRest w u (g.waiting ++ piece) xs) (sym (append-nil h.waiting)) p; last = l }

pub not_passed : (w u : Option (List ℕ)) (g h : GatheredView) (piece : List ℕ) → EmitsFront w u (g.waiting ++ piece) → WritesFront (output_of w g) (output_of u h) piece
not_passed w u g h piece p = record { written = p }

-- all that was put was written, where nothing waits any more
pub written_whole : (w u : Option (List ℕ)) (g h : GatheredView) (bytes : List ℕ) → g.waiting ≡ [] → h.waiting ≡ [] → Puts (output_of w g) (output_of u h) bytes → Emits w u bytes
written_whole w u g h bytes none left p =
    emits_all w u bytes (subst (λ (xs : List ℕ). EmitsButRest w u (xs ++ bytes) []) none (subst (λ (xs : List ℕ). EmitsButRest w u (g.waiting ++ bytes) (xs ++ [])) left p.written))

pub written_front : (w u : Option (List ℕ)) (g h : GatheredView) (bytes : List ℕ) → g.waiting ≡ [] → WritesFront (output_of w g) (output_of u h) bytes → EmitsFront w u bytes
written_front w u g h bytes none p = subst (λ (xs : List ℕ). EmitsFront w u (xs ++ bytes)) none p.written

but_rest : (w u : Option (List ℕ)) (all rest : List ℕ) → EmitsButRest w u all rest → EmitsFront w u all
but_rest w None all rest h = tt
but_rest (Some b) (Some n) all rest h = (rest, h)
but_rest None (Some n) all rest h = h

pub put_front_written : (w u : Option (List ℕ)) (g h : GatheredView) (bytes : List ℕ) → g.waiting ≡ [] → PutsFront (output_of w g) (output_of u h) bytes → EmitsFront w u bytes
put_front_written w u g h bytes none p = subst (λ (xs : List ℕ). EmitsFront w u (xs ++ bytes)) none (but_rest w u (g.waiting ++ bytes) (h.waiting ++ p.0) p.1.written)
