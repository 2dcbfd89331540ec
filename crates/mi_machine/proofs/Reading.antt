-- One byte more of a name that is read, and its end.
use Rattle.std.proofs.Common.{◌≡◌, ℕ, zero, suc, ◌+◌, ◌-◌, ◌<◌, ◌≤◌, List, [], ◌∷◌, ◌++◌, Ok, refl, sym, ap, ◌∙◌, arith}
use Rattle.std.specs.Prelude.{Option, Result}
use Rattle.mi_model.specs.declared.BadBase.{BadBase}
use Rattle.mi_model.specs.declared.Span.{Span}
use Rattle.mi_model.specs.Ops.{Ops}
use Rattle.mi_model.specs.Machine.{Machine, asked}
use Rattle.mi_model.specs.Region.{get}
use Rattle.mi_model.specs.Outcome.{outcome_of}
use Rattle.mi_model.specs.Numbers.{number_text}
use Rattle.mi_model.specs.Parsing.{read_on, read_byte, read_text}
use Rattle.mi_machine.specs.Reading.{number_read}

pub read_next : {C B : Type 0} (ops : Ops C B) (n i o : ℕ) (text : List ℕ) (m : Machine C B) (names : List C) → i < n
    → outcome_of ops (read_on (n - i) o text) m names ≡ outcome_of ops (read_byte o text (λ more. read_on (n - (i + 1)) (o + 1) more)) m names
read_next ops n i o text m names h = let e : n - i ≡ suc (n - (i + 1)) = omega arith in rw e refl

byte_read : {C B : Type 0} (ops : Ops C B) (o : ℕ) (text : List ℕ) (m : Machine C B) (left p : ℕ) (byte : ℕ) → o + 1 ≡ p → asked (ops.value (get ops m.bytes o)) ≡ Ok byte
    → outcome_of ops (read_byte o text (λ more. read_on left (o + 1) more)) m [] ≡ outcome_of ops (read_on left p (text ++ byte ∷ [])) m []
byte_read ops o text m left p byte e h = rw h (rw e refl)

-- where the byte can be read
pub read_one : {C B : Type 0} (ops : Ops C B) (n i place : ℕ) (text : List ℕ) (m : Machine C B) (byte : ℕ) → i < n → asked (ops.value (get ops m.bytes (place + i))) ≡ Ok byte
    → outcome_of ops (read_on (n - i) (place + i) text) m [] ≡ outcome_of ops (read_on (n - (i + 1)) (place + (i + 1)) (text ++ byte ∷ [])) m []
read_one ops n i place text m byte h e =
    read_next ops n i (place + i) text m [] h ∙ byte_read ops (place + i) text m (n - (i + 1)) (place + (i + 1)) byte (omega arith) e

read_end : {C B : Type 0} (ops : Ops C B) (n i o : ℕ) (text : List ℕ) (m : Machine C B) → n ≤ i → outcome_of ops (read_on (n - i) o text) m [] ≡ Ok (text, m)
read_end ops n i o text m h = let e : n - i ≡ zero = omega arith in rw e refl

-- all bytes were read
pub name_read : {C B : Type 0} (ops : Ops C B) (base : ℕ) (name : Span) (i : ℕ) (text : List ℕ) (m : Machine C B) (answer : Result (Option ℕ) BadBase) → name.length ≤ i
    → outcome_of ops (read_on (name.length - i) (name.place + i) text) m [] ≡ outcome_of ops (read_on name.length name.place []) m []
    → answer ≡ number_text base text
    → Ok (answer, m) ≡ number_read base (outcome_of ops (read_text name) m [])
unfolding read_text
name_read ops base name i text m answer h same is =
    ap (λ (a : Result (Option ℕ) BadBase). Ok (a, m)) is ∙ ap (λ r. number_read base r) (sym (read_end ops name.length i (name.place + i) text m h) ∙ same)
