-- Each name of the table is that of one tag alone.
use Rattle.std.proofs.Common.{◌≡◌, ◌≢◌, ℕ, ◌<◌, Bool, true, false, not, ◌&&◌, ◌==◌, List, [], ◌∷◌, map, length, get_or, slice_index, inl, inr, refl, sym, ◌∙◌, ap, subst, arith}
use Rattle.std.proofs.lemmas.Bool.{cases_order}
use Rattle.std.proofs.lemmas.List.{get_or-map}
use Rattle.std.proofs.lemmas.Bool.Decides.{nat_tests}
use Rattle.mi_model.specs.Characters.{folded}
use Rattle.mi_model.specs.Tags.{name_of, tag_table}
use Rattle.mi_vocab.specs.Names.{AreSame, IsOf}
use Rattle.mi_vocab.proofs.FlagLemmas.{all_below, at-each}

-- are two lists of numbers the same
abbrev pub alike : List ℕ → List ℕ → Bool
alike [] [] = true
alike [] (y ∷ ys) = false
alike (x ∷ xs) [] = false
alike (x ∷ xs) (y ∷ ys) = x == y && alike xs ys

alike-self : (xs : List ℕ) → alike xs xs ≡ true
alike-self [] = refl
alike-self (x ∷ xs) = let same : (x == x) ≡ true = grind (arith, nat_tests) in rw same (alike-self xs)

-- the name of a tag in upper case
abbrev pub folded_name : ℕ → List ℕ
folded_name t = map folded (name_of t)

-- has no tag below this one its name
abbrev pub is_new : ℕ → Bool
is_new t = all_below (λ k. not (alike (folded_name t) (folded_name k))) t

all_new : all_below is_new 120 ≡ true
unfolding tag_table
all_new = refl

apart : (j k : ℕ) → k < j → j < 120 → folded_name j ≢ folded_name k
apart j k below most same =
    let other : not (alike (folded_name j) (folded_name k)) ≡ true = at-each (λ i. not (alike (folded_name j) (folded_name i))) j k (at-each is_new 120 j all_new most) below in
    let self : alike (folded_name j) (folded_name k) ≡ true = subst (λ n. alike (folded_name j) n ≡ true) same (alike-self (folded_name j)) in
    cc

-- a name is that of one tag
pub one_tag : (name : List ℕ) (t u : ℕ) → IsOf t name → IsOf u name → t ≡ u
one_tag name t u one other =
    let same : folded_name t ≡ folded_name u = sym one.1 ∙ other.1 in
    elim (cases_order t u) [
      | inl is ↦ is
      | inr (inl below) ↦ absurd (apart u t below other.0 (sym same))
      | inr (inr above) ↦ absurd (apart t u above one.0 same)
    ]

-- names that differ at a byte are not the same
pub differ_at : (xs ys : List ℕ) (i : ℕ) → i < length xs → i < length ys → folded (slice_index xs i) ≢ folded (slice_index ys i) → ¬ (AreSame xs ys)
differ_at xs ys i in_xs in_ys other same =
    other (sym (get_or-map folded xs i 0 0 in_xs) ∙ ap (λ ns. get_or ns i 0) same ∙ get_or-map folded ys i 0 0 in_ys)
