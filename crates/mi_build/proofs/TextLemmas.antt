-- The lines of the last text.
use Rattle.std.proofs.Common.{◌≡◌, ℕ, suc, ◌-◌, ◌<◌, List, [], ◌∷◌, length, get_or, refl, ap, sym, ◌∙◌, arith}
use Rattle.mi_model.specs.Lines.{lines_of, last_line_count}

pub last_lines : (texts : List (List ℕ)) → 0 < length texts → last_line_count texts ≡ length (lines_of (get_or texts (length texts - 1) []))
last_lines [] h = absurd (omega arith)
last_lines (text ∷ []) h = refl
last_lines (text ∷ other ∷ texts) h =
    let some : 0 < length (other ∷ texts) = omega arith in
    let place : length (text ∷ other ∷ texts) - 1 ≡ suc (length (other ∷ texts) - 1) = omega arith in
    last_lines (other ∷ texts) some ∙ sym (ap (λ (k : ℕ). length (lines_of (get_or (text ∷ other ∷ texts) k []))) place)

pub no_lines : (texts : List (List ℕ)) → length texts ≡ 0 → last_line_count texts ≡ 0
no_lines [] h = refl
no_lines (text ∷ texts) h = absurd (omega arith)
