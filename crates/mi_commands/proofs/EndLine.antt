-- The last line of what was written is ended.
use Rattle.std.proofs.Common.{◌≡◌, ℕ, suc, ◌<◌, ◌-◌, Bool, true, false, List, [], ◌∷◌, ◌++◌, length, get_or, Option, None, Some, refl, sym, ap, ◌∙◌, inl, inr, append-nil, eq-eqb, arith}
use Rattle.std.proofs.lemmas.Bool.{ne_eqb}
use Rattle.std.specs.Prelude.{◌⊎◌}
use Rattle.mi_outside.specs.Gathered.{last_of}
use Rattle.mi_outside.specs.Telling.{IfStillTold}
use Rattle.mi_outside.specs.Written.{AddsButRest, Emits, EmitsFront}
use Rattle.mi_commands.specs.Output.{is_in_lines, in_lines, AddsFrontAndLine}
use Rattle.mi_commands.proofs.CutLemmas.{one_or_none}
use Rattle.mi_commands.proofs.LineLemmas.{lines_whole, line_ended}

-- the last byte by its place
by_place : (a d : ℕ) (bytes : List ℕ) → 0 < length bytes → get_or bytes (length bytes - 1) d ≡ last_of a bytes
by_place a d [] h = absurd (omega arith)
by_place a d (b ∷ []) h = refl
by_place a d (b ∷ c ∷ bytes) h =
    let some : 0 < length (c ∷ bytes) = omega arith in
    let place : length (b ∷ c ∷ bytes) - 1 ≡ suc (length (c ∷ bytes) - 1) = omega arith in
    ap (λ (k : ℕ). get_or (b ∷ c ∷ bytes) k d) place ∙ by_place b d (c ∷ bytes) some

whole_lines : (bytes : List ℕ) → 10 ≡ last_of 10 bytes → is_in_lines bytes ≡ true
unfolding is_in_lines
whole_lines [] h = refl
whole_lines (b ∷ bytes) h = eq-eqb _ 10 (by_place 10 10 (b ∷ bytes) (omega arith) ∙ sym h)

open_line : (bytes : List ℕ) (last : ℕ) → last ≡ last_of 10 bytes → (last ≡ 10 → ⊥) → is_in_lines bytes ≡ false
unfolding is_in_lines
open_line [] last h n = absurd (n h)
open_line (b ∷ bytes) last h n = ne_eqb _ 10 (λ e. n (h ∙ (sym (by_place 10 10 (b ∷ bytes) (omega arith)) ∙ e)))

-- the last line has its line feed
pub ended_whole : (first old : Option (List ℕ)) (bytes : List ℕ) (last : ℕ) → last ≡ 10 → last ≡ last_of 10 bytes → Emits first old bytes → Emits first old (in_lines bytes)
ended_whole first old bytes last is h e = lines_whole bytes first old (whole_lines bytes (sym is ∙ h)) e

-- or it got it
pub ended_now : (first old new : Option (List ℕ)) (bytes : List ℕ) (last : ℕ) → (last ≡ 10 → ⊥) → last ≡ last_of 10 bytes → Emits first old bytes → Emits old new (10 ∷ []) → Emits first new (in_lines bytes)
ended_now first old new bytes last n h e k = line_ended bytes first old new (open_line bytes last h n) e k

-- a front, and at most one line feed
line_behind : (x y z bytes written : List ℕ) → (rest : List ℕ) × AddsButRest bytes rest x y → z ≡ y ++ written → (written ≡ []) ⊎ (written ≡ 10 ∷ []) → AddsFrontAndLine bytes x z
line_behind x y z bytes written front second (inl none) = record { between = y; left = front.0; front = front.1; line = inl (second ∙ (ap (λ (w : List ℕ). y ++ w) none ∙ append-nil y)) }
line_behind x y z bytes written front second (inr one) = record { between = y; left = front.0; front = front.1; line = inr (second ∙ ap (λ (w : List ℕ). y ++ w) one) }

pub ended_cut : (first old new : Option (List ℕ)) (bytes : List ℕ) → EmitsFront first old bytes → Emits old new (10 ∷ []) → IfStillTold first new (AddsFrontAndLine bytes)
ended_cut first old None bytes h k = tt
ended_cut first None (Some z) bytes h k = elim k [ ]
ended_cut None (Some y) (Some z) bytes h k = elim h [ ]
ended_cut (Some x) (Some y) (Some z) bytes h k = line_behind x y z bytes (10 ∷ []) h k (inr refl)

pub failed_cut : (first old new : Option (List ℕ)) (bytes : List ℕ) → EmitsFront first old bytes → EmitsFront old new (10 ∷ []) → IfStillTold first new (AddsFrontAndLine bytes)
failed_cut first old None bytes h k = tt
failed_cut first None (Some z) bytes h k = elim k [ ]
failed_cut None (Some y) (Some z) bytes h k = elim h [ ]
failed_cut (Some x) (Some y) (Some z) bytes h k = line_behind x y z bytes k.1.written h k.1.added (one_or_none k.1.written k.0 k.1.whole)
