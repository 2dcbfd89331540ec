-- What a change of one entry does to the content of each name.
use Rattle.std.proofs.Common.{◌≡◌, ◌≢◌, ◌<◌, ◌≤◌, ℕ, Bool, true, false, List, [], ◌∷◌, ◌++◌, length, get_or, set, Some, None, option_map, sym, ◌∙◌, ap, subst, inl, inr, refl, arith}
use Rattle.std.specs.Prelude.{option_and_then, find, bytes_eq, slice_get, cond, Option, is_some, unwrap_or}
use Rattle.std.specs.Option.{option_or}
use Rattle.std.specs.List.{position_or_len}
use Rattle.std.proofs.lemmas.List.Folds.{find_at, find-set, find_past, find-append, position_or_len-set, position_or_len_push}
use Rattle.std.proofs.lemmas.List.Sums.{passes_at_first, position_or_len_is}
use Rattle.std.proofs.lemmas.Option.{slice_get-get_or, slice_get_past}
use Rattle.std.proofs.lemmas.Slice.Eq.{bytes_eq-Decides}
use Rattle.std.proofs.lemmas.Bool.{false_from_ne_true, cases_Bool, true≢false}
use Rattle.std.proofs.lemmas.Grind.{common_steps}
use Rattle.mi_outside.specs.declared.shelf.Entry.{Entry}
use Rattle.mi_outside.specs.declared.shelf.Reading.{Reading}
use Rattle.mi_outside.specs.Shelf.{bytes_of, is_named, place_of, content_of, bytes_at, reading_of}

-- the entry at a name's place has that name
pub named_there : (es : List Entry) (q : List ℕ) (i : ℕ) (d : Entry) → i < length es → place_of es q ≡ i → (get_or es i d).name.items ≡ q
unfolding place_of
named_there es q i d h e =
    let within : position_or_len (is_named q) es < length es = omega arith in
    ap (λ (n : ℕ). (get_or es n d).name.items) (sym e) ∙ (bytes_eq-Decides _ _).0 (passes_at_first (is_named q) es d within)

-- the place of a name that no entry before it has
pub place_is : (es : List Entry) (q : List ℕ) (i : ℕ) (d : Entry) → i < length es → ((k : ℕ) → k < i → is_named q (get_or es k d) ≡ false) → is_named q (get_or es i d) ≡ true → place_of es q ≡ i
unfolding place_of
place_is es q i d h before here = position_or_len_is (is_named q) es i d (omega arith) before (λ _. here)

-- a name that no entry has
pub place_past : (es : List Entry) (q : List ℕ) (i : ℕ) → i ≡ length es → ((k : ℕ) (d : Entry) → k < i → is_named q (get_or es k d) ≡ false) → place_of es q ≡ length es
unfolding place_of
place_past [] q i e before = refl
place_past (x ∷ xs) q i e before = position_or_len_is (is_named q) (x ∷ xs) (length (x ∷ xs)) x (omega arith) (λ k h. before k x (omega arith)) (λ h. absurd (omega arith))

-- the content at a name's place
pub content_there : (es : List Entry) (q : List ℕ) (i : ℕ) (d : Entry) → i < length es → place_of es q ≡ i → content_of es q ≡ bytes_of (get_or es i d)
unfolding place_of content_of
content_there es q i d h e = ap (option_and_then bytes_of) (find_at (is_named q) es ∙ ap (slice_get es) e ∙ slice_get-get_or es i d h)

-- a name that no entry has has no content
pub content_past : (es : List Entry) (q : List ℕ) → length es ≤ place_of es q → content_of es q ≡ None
unfolding place_of content_of
content_past es q h = ap (option_and_then bytes_of) (find_at (is_named q) es ∙ slice_get_past es _ h)

-- after a change of the entry at a name's place
pub content-set : (es : List Entry) (q : List ℕ) (i : ℕ) (e : Entry) → i < length es → place_of es q ≡ i → e.name.items ≡ q → content_of (set es i e) q ≡ bytes_of e
unfolding place_of content_of
content-set es q i e h p n = ap (option_and_then bytes_of) (find-set (is_named q) es i e (sym p) h ((bytes_eq-Decides _ _).1 n))

-- and the content of another name
pub content-set_other : (es : List Entry) (q : List ℕ) (i : ℕ) (e d : Entry) → (get_or es i d).name.items ≢ q → e.name.items ≢ q → content_of (set es i e) q ≡ content_of es q
unfolding content_of
content-set_other es q i e d was now =
    ap (option_and_then bytes_of) (find_past (is_named q) es i e d
    (false_from_ne_true _ (λ t. was ((bytes_eq-Decides _ _).0 t)))
    (false_from_ne_true _ (λ t. now ((bytes_eq-Decides _ _).0 t))))

-- a change that keeps the entry's name moves no place
pub place-set : (es : List Entry) (q : List ℕ) (i : ℕ) (e d : Entry) → e.name.items ≡ (get_or es i d).name.items → place_of (set es i e) q ≡ place_of es q
unfolding place_of
place-set es q i e d n = position_or_len-set (is_named q) es i e d (ap (λ (name : List ℕ). bytes_eq name q) n)

-- an entry whose file is gone adds no content
gone_adds_none : (b : Bool) (found : Option Entry) (e : Entry) → e.bytes ≡ None → option_and_then bytes_of (option_or found (cond b (Some e) None)) ≡ option_and_then bytes_of found
gone_adds_none true None e gone = ap (option_map (λ bytes. bytes.items)) gone
gone_adds_none false None e gone = refl
gone_adds_none b (Some x) e gone = refl

pub content-push : (es : List Entry) (q : List ℕ) (e : Entry) → e.bytes ≡ None → content_of (es ++ e ∷ []) q ≡ content_of es q
unfolding content_of
content-push es q e gone = ap (option_and_then bytes_of) (find-append (is_named q) es (e ∷ [])) ∙ gone_adds_none (is_named q e) (find (is_named q) es) e gone

-- and it gives its name a place at the end
pub place-push : (es : List Entry) (q : List ℕ) (e : Entry) → place_of es q ≡ length es → e.name.items ≡ q → place_of (es ++ e ∷ []) q ≡ length es
unfolding place_of
place-push es q e past n =
    let named : is_named q e ≡ true = (bytes_eq-Decides _ _).1 n in
    position_or_len_push (is_named q) es e ∙ grind (arith, common_steps)

-- what holds of one name and of every other holds of each
pub each_name : (P : List ℕ → Type 0) (one q : List ℕ) → P one → (q ≢ one → P q) → P q
each_name P one q here others =
    elim (cases_Bool (bytes_eq q one)) [
      | inl is ↦ subst P (sym ((bytes_eq-Decides q one).0 is)) here
      | inr differs ↦ others (λ is. true≢false (sym ((bytes_eq-Decides q one).1 is) ∙ differs))
    ]

some_is : {T : Type 0} (f : T → List ℕ) (o : Option T) → is_some o ≡ true → option_map f o ≡ Some (unwrap_or (option_map f o) [])
some_is f None h = absurd (true≢false (sym h))
some_is f (Some x) h = refl

none_is : {T : Type 0} (f : T → List ℕ) (o : Option T) → is_some o ≡ false → option_map f o ≡ None
none_is f None h = refl
none_is f (Some x) h = absurd (true≢false h)

-- the content of a name, by a read of its entry
pub content_read : (es : List Entry) (q : List ℕ) (i : ℕ) (e : Entry) → i < length es → i ≡ place_of es q → e ≡ get_or es i e → content_of es q ≡ bytes_of e
content_read es q i e h p is = content_there es q i e h (sym p) ∙ ap bytes_of (sym is)

-- the bytes at a place, by a read of the entry there
pub bytes_read : (es : List Entry) (i : ℕ) (e : Entry) → i < length es → e ≡ get_or es i e → bytes_at es i ≡ unwrap_or (bytes_of e) []
unfolding bytes_at
bytes_read es i e h is =
    ap (λ (o : Option Entry). unwrap_or (option_and_then bytes_of o) []) (slice_get-get_or es i e h)
    ∙ ap (λ (at : Entry). unwrap_or (bytes_of at) []) (sym is)

-- there are none past the end
pub bytes_at-past : (es : List Entry) (i : ℕ) → length es ≤ i → bytes_at es i ≡ []
unfolding bytes_at
bytes_at-past es i h = ap (λ (o : Option Entry). unwrap_or (option_and_then bytes_of o) []) (slice_get_past es i h)

-- a name's content is what stands at its place
pub begun_read : (es : List Entry) (q : List ℕ) (i : ℕ) (e : Entry) → i < length es → i ≡ place_of es q → e ≡ get_or es i e → is_some e.bytes ≡ true → content_of es q ≡ Some (bytes_at es i)
begun_read es q i e h p is some =
    content_read es q i e h p is ∙ some_is (λ bytes. bytes.items) e.bytes some ∙ ap (λ (bytes : List ℕ). Some bytes) (sym (bytes_read es i e h is))

-- or none where the entry has none
pub gone_read : (es : List Entry) (q : List ℕ) (i : ℕ) (e : Entry) → i < length es → i ≡ place_of es q → e ≡ get_or es i e → is_some e.bytes ≡ false → content_of es q ≡ None
gone_read es q i e h p is none = content_read es q i e h p is ∙ none_is (λ bytes. bytes.items) e.bytes none

-- with no entries no name has content
pub content-none : (es : List Entry) (q : List ℕ) → es ≡ [] → content_of es q ≡ None
unfolding content_of
content-none es q e = ap (λ (at : List Entry). content_of at q) e

-- and where no entry is read there is nothing to read
pub reading-none : (es : List Entry) (reading : Option Reading) → reading ≡ None → reading_of es reading ≡ None
reading-none es reading e = ap (reading_of es) e
