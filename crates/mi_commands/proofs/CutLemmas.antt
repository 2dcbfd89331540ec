-- A front of some bytes, and maybe a line feed.
use Rattle.std.proofs.Common.{◌≡◌, ℕ, Bool, true, false, List, [], ◌∷◌, ◌++◌, Option, None, Some, refl, ap, ◌∙◌, inl, inr, append-nil, subst}
use Rattle.std.specs.Prelude.{◌⊎◌}
use Rattle.mi_outside.specs.Telling.{IfStillTold}
use Rattle.mi_outside.specs.Written.{Emits, EmitsFront}
use Rattle.mi_outside.proofs.Writing.{front_whole, front_more, front_none}
use Rattle.mi_commands.specs.Output.{is_in_lines, in_lines, AddsFrontAndLine, AddsLines}

-- a front of the bytes alone
pub cut_front : (a b : Option (List ℕ)) (bytes : List ℕ) → EmitsFront a b bytes → IfStillTold a b (AddsFrontAndLine bytes)
cut_front a None bytes h = tt
cut_front None (Some z) bytes h = elim h [ ]
cut_front (Some x) (Some z) bytes h = record { between = z; left = h.0; front = h.1; line = inl refl }

pub cut_nothing : (a : Option (List ℕ)) (bytes : List ℕ) → IfStillTold a a (AddsFrontAndLine bytes)
cut_nothing a bytes = cut_front a a bytes (front_none a bytes)

pub cut_whole : (a b : Option (List ℕ)) (bytes : List ℕ) → Emits a b bytes → IfStillTold a b (AddsFrontAndLine bytes)
cut_whole a b bytes h = cut_front a b bytes (front_whole a b bytes h)

-- of a line feed nothing was written, or all
pub one_or_none : (written rest : List ℕ) → written ++ rest ≡ 10 ∷ [] → (written ≡ []) ⊎ (written ≡ 10 ∷ [])
one_or_none [] rest h = inl refl
one_or_none (c ∷ []) rest h = let same : c ≡ 10 = cc in inr (ap (λ (d : ℕ). d ∷ []) same)
one_or_none (c ∷ (d ∷ written)) rest h = let no : ⊥ = cc in absurd no

line_after : (x y z bytes written : List ℕ) → y ≡ x ++ bytes → z ≡ y ++ written → (written ≡ []) ⊎ (written ≡ 10 ∷ []) → AddsFrontAndLine bytes x z
line_after x y z bytes written first second (inl none) =
    record {
      between = y;
      left = [];
      front = record { written = bytes; added = first; whole = append-nil bytes };
      line = inl (second ∙ (ap (λ (w : List ℕ). y ++ w) none ∙ append-nil y));
    }
line_after x y z bytes written first second (inr one) =
    record {
      between = y;
      left = [];
      front = record { written = bytes; added = first; whole = append-nil bytes };
      line = inr (second ∙ ap (λ (w : List ℕ). y ++ w) one);
    }

-- all of the bytes, and a front of a line feed
pub cut_line : (a b c : Option (List ℕ)) (bytes : List ℕ) → Emits a b bytes → EmitsFront b c (10 ∷ []) → IfStillTold a c (AddsFrontAndLine bytes)
cut_line a b None bytes h k = tt
cut_line a None (Some z) bytes h k = elim k [ ]
cut_line None (Some y) (Some z) bytes h k = elim h [ ]
cut_line (Some x) (Some y) (Some z) bytes h k = line_after x y z bytes k.1.written h k.1.added (one_or_none k.1.written k.0 k.1.whole)

-- the bytes are a front of more
adds_more : (bytes more x z : List ℕ) → AddsFrontAndLine bytes x z → AddsFrontAndLine (bytes ++ more) x z
adds_more bytes more x z h =
    let longer : EmitsFront (Some x) (Some h.between) (bytes ++ more) = front_more (Some x) (Some h.between) bytes more (h.left, h.front) in
    record { between = h.between; left = longer.0; front = longer.1; line = h.line }

pub cut_more : (a b : Option (List ℕ)) (bytes more all : List ℕ) → bytes ++ more ≡ all → IfStillTold a b (AddsFrontAndLine bytes) → IfStillTold a b (AddsFrontAndLine all)
cut_more a None bytes more all is h = tt
cut_more None (Some z) bytes more all is h = elim h [ ]
cut_more (Some x) (Some z) bytes more all is h = subst (λ (xs : List ℕ). AddsFrontAndLine xs x z) is (adds_more bytes more x z h)

-- and then a front of the report
pub cut_reported : (a b c : Option (List ℕ)) (meant report : List ℕ) → IfStillTold a b (AddsFrontAndLine meant) → EmitsFront b c report → IfStillTold a c (AddsLines meant report)
cut_reported a b None meant report h k = tt
cut_reported a None (Some z) meant report h k = elim k [ ]
cut_reported None (Some y) (Some z) meant report h k = elim h [ ]
cut_reported (Some x) (Some y) (Some z) meant report h k = record { between = y; untold = k.0; first = h; second = k.1 }

-- bytes are a front of them in whole lines
pub lines_more : (ended : Bool) (emitted : List ℕ) → is_in_lines emitted ≡ ended → (more : List ℕ) × (emitted ++ more ≡ in_lines emitted)
unfolding in_lines
lines_more true emitted h = ([], rw h (append-nil emitted))
lines_more false emitted h = (10 ∷ [], rw h refl)
