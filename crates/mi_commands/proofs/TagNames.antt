-- The names of tags are texts.
use Rattle.std.proofs.Common.{◌≡◌, ◌≤◌, ◌<◌, ℕ, zero, suc, Bool, true, false, ◌&&◌, nat_lt, List, [], ◌∷◌, length, refl, sym, ap, ◌∙◌, eqb, arith}
use Rattle.std.proofs.lemmas.List.{get_or_past}
use Rattle.std.proofs.lemmas.Str.{IsUtf8-from_ascii}
use Rattle.std.proofs.lemmas.Bool.{eqb-true, eqb-false}
use Rattle.std.proofs.lemmas.Bool.Decides.{nat_tests}
use Rattle.std.specs.Str.{IsAscii, IsUtf8}
use Rattle.mi_model.specs.Tags.{TagEntry, word, name_of, tag_table}

-- is each byte below 128
abbrev pub are_ascii : List ℕ → Bool
are_ascii [] = true
are_ascii (c ∷ cs) = nat_lt c 128 && are_ascii cs

-- is each name below this tag
abbrev pub names_are : ℕ → Bool
names_are zero = true
names_are (suc n) = are_ascii (name_of n) && names_are n

all_names : names_are 120 ≡ true
unfolding tag_table
all_names = refl

table_length : length tag_table ≡ 120
unfolding tag_table
table_length = refl

-- from 120 on a tag has no name
pub no_name : (t : ℕ) → 120 ≤ t → [] ≡ name_of t
no_name t h = sym (ap (λ (e : TagEntry). e.name) (get_or_past tag_table t (word []) (omega (arith, table_length, h))))

left : (a b : Bool) → (a && b) ≡ true → a ≡ true
left true b is = refl
left false b is = is

right : (a b : Bool) → (a && b) ≡ true → b ≡ true
right true b is = is
right false b is = cc

is_ascii : (bs : List ℕ) → are_ascii bs ≡ true → IsAscii bs
is_ascii [] all i = omega arith
is_ascii (c ∷ cs) all zero = let first : nat_lt c 128 ≡ true = left (nat_lt c 128) (are_ascii cs) all in grind (arith, nat_tests)
is_ascii (c ∷ cs) all (suc i) = is_ascii cs (right (nat_lt c 128) (are_ascii cs) all) i

name_is_ascii : (n t : ℕ) → names_are n ≡ true → t < n → are_ascii (name_of t) ≡ true
name_is_ascii zero t all below = absurd (omega (arith, below))
name_is_ascii (suc n) t all below = elim (eqb t n) as (λ b. eqb t n ≡ b → are_ascii (name_of t) ≡ true) [
  | true ↦ λ is. ap (λ k. are_ascii (name_of k)) (eqb-true t n is) ∙ left (are_ascii (name_of n)) (names_are n) all
  | false ↦ λ is. name_is_ascii n t (right (are_ascii (name_of n)) (names_are n) all) (let other = eqb-false t n is in omega (arith, other, below))
] refl

pub name_is_text : (t : ℕ) → t < 120 → IsUtf8 (name_of t)
name_is_text t below = IsUtf8-from_ascii (name_of t) (is_ascii (name_of t) (name_is_ascii 120 t all_names below))
