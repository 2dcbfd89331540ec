-- The tags whose words are immediate or compile-only, as ranges.
use Rattle.std.proofs.Common.{◌≡◌, ℕ, zero, suc, ◌<◌, Bool, true, false, ◌&&◌, ◌||◌, ◌==◌, eqb, nat_le, refl, sym, ◌∙◌, ap, arith}
use Rattle.std.proofs.lemmas.Bool.{eqb-true, eqb-false}
use Rattle.mi_model.specs.Tags.{entry_of, tag_table}

-- are two answers the same
abbrev pub same : Bool → Bool → Bool
same true b = b
same false true = false
same false false = true

pub same-is : (a b : Bool) → same a b ≡ true → a ≡ b
same-is true b is = sym is
same-is false true is = cc
same-is false false is = refl

-- does a test pass at each number below this one
abbrev pub all_below : (ℕ → Bool) → ℕ → Bool
all_below p zero = true
all_below p (suc n) = p n && all_below p n

pub both-left : (a b : Bool) → (a && b) ≡ true → a ≡ true
both-left true b is = refl
both-left false b is = is

pub both-right : (a b : Bool) → (a && b) ≡ true → b ≡ true
both-right true b is = is
both-right false b is = cc

pub at-each : (p : ℕ → Bool) (n k : ℕ) → all_below p n ≡ true → k < n → p k ≡ true
at-each p zero k all below = absurd (omega arith)
at-each p (suc n) k all below = elim (eqb k n) as (λ b. eqb k n ≡ b → p k ≡ true) [
  | true ↦ λ is. ap p (eqb-true k n is) ∙ both-left (p n) (all_below p n) all
  | false ↦ λ is. at-each p n k (both-right (p n) (all_below p n) all) (let other = eqb-false k n is in omega arith)
] refl

abbrev pub is_in : (first last t : ℕ) → Bool
is_in first last t = nat_le first t && nat_le t last

abbrev pub is_immediate_tag : ℕ → Bool
is_immediate_tag t = t == 91 || is_in 94 97 t || is_in 99 119 t

abbrev pub is_compile_only_tag : ℕ → Bool
is_compile_only_tag t = is_in 1 20 t || t == 22 || is_in 36 41 t || t == 79 || t == 85 || t == 91 || is_in 94 115 t

pub immediate_is : (t : ℕ) → t < 256 → is_immediate_tag t ≡ (entry_of t).immediate
unfolding tag_table
immediate_is t below = same-is _ _ (at-each (λ k. same (is_immediate_tag k) ((entry_of k).immediate)) 256 t refl below)

pub compile_only_is : (t : ℕ) → t < 256 → is_compile_only_tag t ≡ (entry_of t).compile_only
unfolding tag_table
compile_only_is t below = same-is _ _ (at-each (λ k. same (is_compile_only_tag k) ((entry_of k).compile_only)) 256 t refl below)

-- the flags by the tests on the tag
pub immediate_by_test : (b : Bool) (t : ℕ) → t < 256 → b ≡ is_immediate_tag t → b ≡ (entry_of t).immediate
immediate_by_test b t below is = is ∙ immediate_is t below

pub compile_only_by_test : (b : Bool) (t : ℕ) → t < 256 → b ≡ is_compile_only_tag t → b ≡ (entry_of t).compile_only
compile_only_by_test b t below is = is ∙ compile_only_is t below
