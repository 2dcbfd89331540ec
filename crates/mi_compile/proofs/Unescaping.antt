-- The escapes of a text are replaced where it stands, byte by byte.
use Rattle.std.proofs.Common.{◌≡◌, ℕ, ◌+◌, ◌-◌, ◌<◌, ◌≤◌, List, [], ◌∷◌, ◌++◌, length, None, Some, Result, Ok, Err, refl, sym, ap, subst, ◌∙◌, arith, append_assoc, length-append}
use Rattle.mi_model.specs.declared.Fault.{Fault}
use Rattle.mi_model.specs.declared.Span.{Span}
use Rattle.mi_model.specs.Ops.{Ops}
use Rattle.mi_model.specs.Machine.{asked}
use Rattle.mi_model.specs.Region.{get, with_text, with_moved, with_filled}
use Rattle.mi_model.specs.Outcome.{outcome_of}
use Rattle.mi_model.specs.Escapes.{unescaped}
use Rattle.mi_model.specs.Strings.{put_unescaped}
use Rattle.mi_text.specs.declared.escape_reader.EscapeReader.{EscapeReader}
use Rattle.mi_text.specs.declared.escape_reader.Replaced.{Replaced}
use Rattle.mi_text.specs.Unescaped.{Reads, bytes_of}
use Rattle.mi_region.specs.View.{StateView, leading, with_bytes}
use Rattle.mi_compile.specs.Escaped.{StandsFor}
use Rattle.mi_compile.proofs.Shorter.{not_longer}
use Rattle.mi_compile.proofs.Texts.{text_more, behind_text, text_over, moved_take, moved_drop, moved_length, moved_get}
use Rattle.mi_compile.proofs.Reading.{read_bytes, read_same, goes_on, stands_read, read_stands, stands_short, read_next, read_fault, read_end}

-- From state s on i bytes of a text were read by this reader, and w bytes written in their place, which leaves state t.
pub record Unescaping {A C B : Type 0} (ops : A → Ops C B) (s t : StateView A C B) (span : Span) (reader : EscapeReader) (i w : ℕ) : Type 0 where
  pub text : List ℕ
  pub given : List ℕ
  pub reads : Reads reader text given
  pub read_count : length text ≡ i
  pub count : length given ≡ w
  pub state : t ≡ with_bytes s (with_text (ops s.arith) s.machine.bytes span.place given)
  pub rest : read_bytes (ops s.arith) s.machine.bytes (span.length - i) (span.place + i) text ≡ read_bytes (ops s.arith) s.machine.bytes span.length span.place []

-- an answer that is nothing
abbrev went : {S : Type 0} → S → Result (Unit {0} × S) Fault
went x = Ok (tt, x)

-- what a reader says of the next byte that it took
abbrev pub Feeds : (r next : EscapeReader) (byte : ℕ) → Replaced → Type 0
Feeds r next byte replaced = (text given : List ℕ) → Reads r text given → Reads next (text ++ byte ∷ []) (given ++ bytes_of replaced)

module _ {A C B : Type 0} (ops : A → Ops C B) (s : StateView A C B) (span : Span) where
  pub begins : (reader : EscapeReader) → Reads reader [] [] → Unescaping ops s s span reader 0 0
  begins reader reads =
      let e : span.place + 0 ≡ span.place = omega arith in
      let f : span.length - 0 ≡ span.length = omega arith in
      record {
        text = [];
        given = [];
        reads = reads;
        read_count = refl;
        count = refl;
        state = refl;
        rest = ap (λ (k : ℕ). read_bytes (ops s.arith) s.machine.bytes k (span.place + 0) []) f ∙ ap (λ (o : ℕ). read_bytes (ops s.arith) s.machine.bytes span.length o []) e;
      }

  pub no_more : (t : StateView A C B) (reader : EscapeReader) (i w : ℕ) → Unescaping ops s t span reader i w → w ≤ i
  no_more t reader i w u = let e = not_longer reader u.text u.given u.reads in let f = u.read_count in let g = u.count in omega arith

  pub next_fits : (t : StateView A C B) (reader next : EscapeReader) (i w byte : ℕ) (replaced : Replaced) → Unescaping ops s t span reader i w → Feeds reader next byte replaced
      → w + length (bytes_of replaced) ≤ i + 1
  next_fits t reader next i w byte replaced u feeds =
      let e = not_longer next (u.text ++ byte ∷ []) (u.given ++ bytes_of replaced) (feeds u.text u.given u.reads) in
      let f = u.read_count in
      let g = u.count in
      omega (arith, length-append u.text (byte ∷ []), length-append u.given (bytes_of replaced))

  -- the byte that is read next was not written
  byte_stays : (t : StateView A C B) (reader : EscapeReader) (i w : ℕ) → Unescaping ops s t span reader i w
      → asked ((ops t.arith).value (get (ops t.arith) t.machine.bytes (span.place + i))) ≡ asked ((ops s.arith).value (get (ops s.arith) s.machine.bytes (span.place + i)))
  byte_stays t reader i w u =
      let most : w ≤ i = no_more t reader i w u in
      let end = u.count in
      ap (λ (v : StateView A C B). asked ((ops v.arith).value (get (ops v.arith) v.machine.bytes (span.place + i)))) u.state
      ∙ ap (λ (b : B). asked ((ops s.arith).value b)) (behind_text (ops s.arith) s.machine.bytes span.place u.given (span.place + i) ((ops s.arith).byte 0) (omega arith))

  pub unescaping_next : (t v : StateView A C B) (reader next : EscapeReader) (i w k byte : ℕ) (replaced : Replaced) → Unescaping ops s t span reader i w → i < span.length
      → Ok byte ≡ asked ((ops t.arith).value (get (ops t.arith) t.machine.bytes (span.place + i))) → Feeds reader next byte replaced
      → k ≡ length (bytes_of replaced) → v ≡ with_bytes t (with_text (ops t.arith) t.machine.bytes (span.place + w) (bytes_of replaced))
      → Unescaping ops s v span next (i + 1) (w + k)
  unescaping_next t v reader next i w k byte replaced u more is feeds few put =
      let given = u.given in
      let both : with_text (ops s.arith) (with_text (ops s.arith) s.machine.bytes span.place given) (span.place + w) (bytes_of replaced) ≡ with_text (ops s.arith) s.machine.bytes span.place (given ++ bytes_of replaced) =
      text_more (ops s.arith) s.machine.bytes span.place w given (bytes_of replaced) u.count in
      let read_here : asked ((ops s.arith).value (get (ops s.arith) s.machine.bytes (span.place + i))) ≡ Ok byte = sym (byte_stays t reader i w u) ∙ sym is in
      let f = u.read_count in
      let g = u.count in
      record {
        text = u.text ++ byte ∷ [];
        given = given ++ bytes_of replaced;
        reads = feeds u.text given u.reads;
        read_count = omega (arith, length-append u.text (byte ∷ []));
        count = omega (arith, length-append given (bytes_of replaced));
        state = put ∙ (ap (λ (x : StateView A C B). with_bytes x (with_text (ops x.arith) x.machine.bytes (span.place + w) (bytes_of replaced))) u.state ∙ ap (with_bytes s) both);
        rest = sym (read_next (ops s.arith) s.machine.bytes span.length i span.place u.text byte more read_here) ∙ u.rest;
      }

  pub read_all : (t : StateView A C B) (reader : EscapeReader) (i w : ℕ) (u : Unescaping ops s t span reader i w) → span.length ≤ i
      → read_bytes (ops s.arith) s.machine.bytes span.length span.place [] ≡ Ok u.text
  read_all t reader i w u h = sym u.rest ∙ read_end (ops s.arith) s.machine.bytes span.length i (span.place + i) u.text h

  -- where the text stands for another one, each byte can be read, and no escape is bad
  pub can_be_read : (t : StateView A C B) (reader : EscapeReader) (i w : ℕ) (e : Fault) → Unescaping ops s t span reader i w → i < span.length
      → Err e ≡ asked ((ops t.arith).value (get (ops t.arith) t.machine.bytes (span.place + i))) → (text : List ℕ) → StandsFor (ops s.arith) span s.machine text → ⊥
  can_be_read t reader i w e u more is text stands =
      let read = stands_read (ops s.arith) span s.machine text stands in
      let none = read_fault (ops s.arith) s.machine.bytes span.length i span.place u.text e more (sym (byte_stays t reader i w u) ∙ sym is) in
      let all = sym none ∙ (u.rest ∙ read.1) in
      absurd cc

  pub is_no_bad_byte : (t : StateView A C B) (reader : EscapeReader) (i w byte : ℕ) → Unescaping ops s t span reader i w → i < span.length
      → Ok byte ≡ asked ((ops t.arith).value (get (ops t.arith) t.machine.bytes (span.place + i)))
      → ((text given rest : List ℕ) → Reads reader text given → unescaped (text ++ byte ∷ rest) ≡ None) → (text : List ℕ) → StandsFor (ops s.arith) span s.machine text → ⊥
  is_no_bad_byte t reader i w byte u more is bad text stands =
      let read = stands_read (ops s.arith) span s.machine text stands in
      let here : asked ((ops s.arith).value (get (ops s.arith) s.machine.bytes (span.place + i))) ≡ Ok byte = sym (byte_stays t reader i w u) ∙ sym is in
      let next = read_next (ops s.arith) s.machine.bytes span.length i span.place u.text byte more here in
      let all = goes_on (ops s.arith) s.machine.bytes (span.length - (i + 1)) (span.place + (i + 1)) (u.text ++ byte ∷ []) read.0 (sym next ∙ (u.rest ∙ read.1)) in
      let whole : read.0 ≡ u.text ++ byte ∷ all.0 = all.1 ∙ append_assoc u.text (byte ∷ []) all.0 in
      let none : unescaped read.0 ≡ None = ap unescaped whole ∙ bad u.text u.given all.0 u.reads in
      let both = sym none ∙ read.2 in
      absurd cc

  pub is_no_bad_end : (t : StateView A C B) (reader : EscapeReader) (i w : ℕ) → Unescaping ops s t span reader i w → span.length ≤ i
      → ((text given : List ℕ) → Reads reader text given → unescaped text ≡ None) → (text : List ℕ) → StandsFor (ops s.arith) span s.machine text → ⊥
  is_no_bad_end t reader i w u end bad text stands =
      let read = stands_read (ops s.arith) span s.machine text stands in
      let full : u.text ≡ read.0 = (let e = sym (read_all t reader i w u end) ∙ read.1 in cc) in
      let both = sym (bad u.text u.given u.reads) ∙ (ap unescaped full ∙ read.2) in
      absurd cc

  -- all bytes were read
  pub ends : (t v : StateView A C B) (reader : EscapeReader) (i w : ℕ) → Unescaping ops s t span reader i w → span.length ≤ i
      → ((text given : List ℕ) → Reads reader text given → unescaped text ≡ Some given)
      → v ≡ with_bytes t (with_filled t.machine.bytes (span.place + w) (span.length - w) ((ops t.arith).byte 0))
      → (text : List ℕ) → StandsFor (ops s.arith) span s.machine text
      → (w ≡ length text) × (leading s (outcome_of (ops s.arith) (put_unescaped span.place span.length text) s.machine []) ≡ Ok (tt, v))
  unfolding put_unescaped
  ends t v reader i w u end good put text stands =
      let read = stands_read (ops s.arith) span s.machine text stands in
      let full : u.text ≡ read.0 = (let e = sym (read_all t reader i w u end) ∙ read.1 in cc) in
      let same : u.given ≡ text = (let e = sym (good u.text u.given u.reads) ∙ (ap unescaped full ∙ read.2) in cc) in
      let count : w ≡ length text = sym u.count ∙ ap length same in
      let state : t ≡ with_bytes s (with_text (ops s.arith) s.machine.bytes span.place text) = u.state ∙ ap (λ (x : List ℕ). with_bytes s (with_text (ops s.arith) s.machine.bytes span.place x)) same in
      let filled : v ≡ with_bytes s (with_filled (with_text (ops s.arith) s.machine.bytes span.place text) (span.place + length text) (span.length - length text) ((ops s.arith).byte 0)) =
      put ∙ (ap (λ (x : StateView A C B). with_bytes x (with_filled x.machine.bytes (span.place + w) (span.length - w) ((ops x.arith).byte 0))) state
      ∙ ap (λ (k : ℕ). with_bytes s (with_filled (with_text (ops s.arith) s.machine.bytes span.place text) (span.place + k) (span.length - k) ((ops s.arith).byte 0))) count) in
      (count, ap (λ (x : StateView A C B). went x) (sym filled))

  -- the text was copied first
  module _ (t : StateView A C B) (o : ℕ) (source : span.place + span.length ≤ length s.machine.bytes) (target : o + span.length ≤ length s.machine.bytes)
      (moved : t ≡ with_bytes s (with_moved s.machine.bytes span.place o span.length)) where
    pub copy_stands : (text : List ℕ) → StandsFor (ops s.arith) span s.machine text → StandsFor (ops t.arith) (record { place = o; length = span.length }) t.machine text
    copy_stands text stands =
        let read = stands_read (ops s.arith) span s.machine text stands in
        let others = with_moved s.machine.bytes span.place o span.length in
        let same = read_same (ops s.arith) s.machine.bytes others span.length span.place o [] (λ i h. moved_get s.machine.bytes span.place o span.length source target i ((ops s.arith).byte 0) h) in
        subst (λ (x : StateView A C B). StandsFor (ops x.arith) (record { place = o; length = span.length }) x.machine text) (sym moved)
        (read_stands (ops s.arith) (record { place = o; length = span.length }) (record s.machine { bytes = others }) read.0 text (same ∙ read.1) read.2)

    pub copy_ends : (v : StateView A C B) (text : List ℕ) → StandsFor (ops s.arith) span s.machine text
        → leading t (outcome_of (ops t.arith) (put_unescaped o span.length text) t.machine []) ≡ Ok (tt, v)
        → leading s (outcome_of (ops s.arith) (put_unescaped o span.length text) s.machine []) ≡ Ok (tt, v)
    unfolding put_unescaped
    copy_ends v text stands is =
        let bytes = s.machine.bytes in
        let others = with_moved bytes span.place o span.length in
        let size : length others ≡ length bytes = moved_length bytes span.place o span.length source target in
        let over = text_over (ops s.arith) bytes others o span.length text ((ops s.arith).byte 0) (stands_short (ops s.arith) span s.machine text stands) target size
        (moved_take bytes span.place o span.length source target) (moved_drop bytes span.place o span.length source target) in
        ap (λ (x : List B). went (with_bytes s x)) (sym over) ∙ (ap (λ (x : StateView A C B). leading x (outcome_of (ops x.arith) (put_unescaped o span.length text) x.machine [])) (sym moved) ∙ is)
