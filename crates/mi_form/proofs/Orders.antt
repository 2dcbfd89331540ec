-- What the two orders answer is right at every allowed pair.
use Rattle.std.proofs.Common.{◌≡◌, ℕ, ◌+◌, ◌^◌, ◌<◌, ◌≤◌, Bool, true, false, nat_lt, Result, refl, sym, subst, ap, ◌∙◌, arith, rules}
use Rattle.std.proofs.lemmas.Bool.Decides.{nat_tests}
use Rattle.mi_model.specs.declared.Pair.{Pair}
use Rattle.mi_model.specs.declared.Form.{Form}
use Rattle.mi_model.specs.declared.Why.{Why}
use Rattle.mi_model.specs.Pairs.{IsAllowedPair}
use Rattle.mi_model.specs.Plain.{wrapped, plain_test}
use Rattle.mi_model.specs.Origin.Sort.{Plain, Data, Code, Mixed}
use Rattle.mi_form.specs.declared.compare.Order.{Order}
use Rattle.mi_form.specs.declared.compare.Order.TheVariants.{Signed, Unsigned}
use Rattle.mi_form.specs.Code.{test_of}
use Rattle.mi_model.specs.Forms.{value_at, IsSize, Tells}
use Rattle.mi_model.specs.Origin.{data_least, data_most, code_least, code_most, code_bound, Sort, sort_of, less_sorts, at_ends}
use Rattle.mi_form.proofs.Equality.{different}
use Rattle.mi_form.proofs.Sorts.{IsAddress, IsValue, sort_value}

shifted_test : (u v : ℕ) → nat_lt (u + 2 ^ 63) (v + 2 ^ 63) ≡ nat_lt u v
shifted_test u v = grind (arith, nat_tests)

-- numbers that aren't negative are in one order
order_small : (order : Order) (u v : ℕ) → u < 2 ^ 63 → v < 2 ^ 63 → plain_test (test_of order) u v ≡ nat_lt u v
order_small Unsigned u v hu hv = refl
order_small Signed u v hu hv =
    let eu : wrapped (u + 2 ^ 63) ≡ u + 2 ^ 63 = omega arith in
    let ev : wrapped (v + 2 ^ 63) ≡ v + 2 ^ 63 = omega arith in
    rw (eu, ev) (shifted_test u v)

-- what two numbers answer alike against a third, each between them does
between_left : (l u m n : ℕ) (b : Bool) → l ≤ u → u ≤ m → nat_lt l n ≡ b → nat_lt m n ≡ b → nat_lt u n ≡ b
between_left l u m n true lu um el em = grind (arith, nat_tests)
between_left l u m n false lu um el em = grind (arith, nat_tests)

between_right : (l u m n : ℕ) (b : Bool) → l ≤ u → u ≤ m → nat_lt n l ≡ b → nat_lt n m ≡ b → nat_lt n u ≡ b
between_right l u m n true lu um el em = grind (arith, nat_tests)
between_right l u m n false lu um el em = grind (arith, nat_tests)

order_left : (order : Order) (l u m n : ℕ) (b : Bool) → l ≤ u → u ≤ m → m < 2 ^ 63 → plain_test (test_of order) l n ≡ b → plain_test (test_of order) m n ≡ b → plain_test (test_of order) u n ≡ b
order_left Unsigned l u m n b lu um small el em = between_left l u m n b lu um el em
order_left Signed l u m n b lu um small el em =
    between_left (wrapped (l + 2 ^ 63)) (wrapped (u + 2 ^ 63)) (wrapped (m + 2 ^ 63)) (wrapped (n + 2 ^ 63)) b (omega arith) (omega arith) el em

order_right : (order : Order) (l u m n : ℕ) (b : Bool) → l ≤ u → u ≤ m → m < 2 ^ 63 → plain_test (test_of order) n l ≡ b → plain_test (test_of order) n m ≡ b → plain_test (test_of order) n u ≡ b
order_right Unsigned l u m n b lu um small el em = between_right l u m n b lu um el em
order_right Signed l u m n b lu um small el em =
    between_right (wrapped (l + 2 ^ 63)) (wrapped (u + 2 ^ 63)) (wrapped (m + 2 ^ 63)) (wrapped (n + 2 ^ 63)) b (omega arith) (omega arith) el em

-- the pairs at the ends
abbrev lowest : Pair
lowest = record { d = data_least; k = code_least }

abbrev highest : Pair
highest = record { d = data_most; k = code_most }

lowest_allowed : IsAllowedPair lowest
lowest_allowed = search rules

highest_allowed : IsAllowedPair highest
highest_allowed = search rules

-- a test whose answer at a pair is between those at the ends
ends_tell : (l m : Bool) (p : Pair → Bool) → p lowest ≡ l → p highest ≡ m
    → ((b : Bool) → l ≡ b → m ≡ b → (pair : Pair) → IsAllowedPair pair → p pair ≡ b) → Tells p (at_ends l m)
ends_tell true true p el em between = between true refl refl
ends_tell false false p el em between = between false refl refl
ends_tell true false p el em between = (lowest_allowed, highest_allowed, different _ _ el em)
ends_tell false true p el em between = (lowest_allowed, highest_allowed, λ e. different _ _ em el (sym e))

-- a base is within its ends
pub record IsWithin (least most base : ℕ) : Type 0 where
  pub least_base : least ≤ base
  pub most_base : base ≤ most

-- an address against a number
left_tells : (order : Order) (base : Pair → ℕ) (least most c n : ℕ) (p : Pair → Bool) → base lowest ≡ least → base highest ≡ most
    → ((pair : Pair) → IsAllowedPair pair → IsWithin least most (base pair)) → most + c < 2 ^ 63 → least ≤ most
    → ((pair : Pair) → IsAllowedPair pair → p pair ≡ plain_test (test_of order) (base pair + c) n)
    → Tells p (at_ends (plain_test (test_of order) (wrapped (least + c)) n) (plain_test (test_of order) (wrapped (most + c)) n))
left_tells order base least most c n p el em within small ordered h =
    let wl : wrapped (least + c) ≡ least + c = omega arith in
    let wm : wrapped (most + c) ≡ most + c = omega arith in
    rw (wl, wm)
    (ends_tell (plain_test (test_of order) (least + c) n) (plain_test (test_of order) (most + c) n) p
    (h lowest lowest_allowed ∙ ap (λ (i : ℕ). plain_test (test_of order) (i + c) n) el)
    (h highest highest_allowed ∙ ap (λ (i : ℕ). plain_test (test_of order) (i + c) n) em)
    (λ b bl bm pair allowed. (let inside = within pair allowed in
    h pair allowed ∙ order_left order (least + c) (base pair + c) (most + c) n b (omega arith) (omega arith) small bl bm)))

right_tells : (order : Order) (base : Pair → ℕ) (least most c n : ℕ) (p : Pair → Bool) → base lowest ≡ least → base highest ≡ most
    → ((pair : Pair) → IsAllowedPair pair → IsWithin least most (base pair)) → most + c < 2 ^ 63 → least ≤ most
    → ((pair : Pair) → IsAllowedPair pair → p pair ≡ plain_test (test_of order) n (base pair + c))
    → Tells p (at_ends (plain_test (test_of order) n (wrapped (least + c))) (plain_test (test_of order) n (wrapped (most + c))))
right_tells order base least most c n p el em within small ordered h =
    let wl : wrapped (least + c) ≡ least + c = omega arith in
    let wm : wrapped (most + c) ≡ most + c = omega arith in
    rw (wl, wm)
    (ends_tell (plain_test (test_of order) n (least + c)) (plain_test (test_of order) n (most + c)) p
    (h lowest lowest_allowed ∙ ap (λ (i : ℕ). plain_test (test_of order) n (i + c)) el)
    (h highest highest_allowed ∙ ap (λ (i : ℕ). plain_test (test_of order) n (i + c)) em)
    (λ b bl bm pair allowed. (let inside = within pair allowed in
    h pair allowed ∙ order_right order (least + c) (base pair + c) (most + c) n b (omega arith) (omega arith) small bl bm)))

data_within : (pair : Pair) → IsAllowedPair pair → IsWithin data_least data_most pair.d
data_within pair allowed = record { least_base = allowed.d_least; most_base = allowed.d_most }

code_within : (pair : Pair) → IsAllowedPair pair → IsWithin code_least code_most pair.k
code_within pair allowed = record { least_base = allowed.k_least; most_base = allowed.k_most }

both : (order : Order) (u v i j : ℕ) → u ≡ i → v ≡ j → plain_test (test_of order) u v ≡ plain_test (test_of order) i j
both order u v i j eu ev = ap (λ (n : ℕ). plain_test (test_of order) n v) eu ∙ ap (λ (n : ℕ). plain_test (test_of order) i n) ev

moved_test : (s c d : ℕ) → nat_lt (s + c) (s + d) ≡ nat_lt c d
moved_test s c d = grind (arith, nat_tests)

-- two addresses behind one base
same_base : (order : Order) (base c d v w most : ℕ) → IsAddress base c v most → IsAddress base d w most → base + most < 2 ^ 63 → plain_test (test_of order) v w ≡ nat_lt c d
same_base order base c d v w most x y small =
    let plain : plain_test (test_of order) v w ≡ nat_lt v w = order_small order v w (omega arith) (omega arith) in
    plain ∙ (ap (λ (n : ℕ). nat_lt n w) x.value ∙ (ap (λ (n : ℕ). nat_lt (base + c) n) y.value ∙ moved_test base c d))

is_less : (u v : ℕ) → u < v → nat_lt u v ≡ true
is_less u v h = grind (arith, nat_tests)

is_no_less : (u v : ℕ) → v ≤ u → nat_lt u v ≡ false
is_no_less u v h = grind (arith, nat_tests)

data_before_code : (order : Order) (c d v w : ℕ) (pair : Pair) → IsAllowedPair pair → IsAddress pair.d c v (2 ^ 23) → IsAddress pair.k d w code_bound → plain_test (test_of order) v w ≡ true
data_before_code order c d v w pair allowed x y = order_small order v w (omega arith) (omega arith) ∙ is_less v w (omega arith)

code_behind_data : (order : Order) (c d v w : ℕ) (pair : Pair) → IsAllowedPair pair → IsAddress pair.d c v (2 ^ 23) → IsAddress pair.k d w code_bound → plain_test (test_of order) w v ≡ false
code_behind_data order c d v w pair allowed x y = order_small order w v (omega arith) (omega arith) ∙ is_no_less w v (omega arith)

-- what two sorts say of an order, at values that fit them
less_sorts_tell : (order : Order) (s t : Sort) (v w : Pair → ℕ) → ((pair : Pair) → IsAllowedPair pair → IsValue s pair (v pair)) → ((pair : Pair) → IsAllowedPair pair → IsValue t pair (w pair))
    → Tells (λ pair. plain_test (test_of order) (v pair) (w pair)) (less_sorts (test_of order) s t)
less_sorts_tell order (Plain m) (Plain n) v w hs ht = λ pair allowed. both order (v pair) (w pair) m n (hs pair allowed).0 (ht pair allowed).0
less_sorts_tell order (Plain n) (Data c) v w hs ht =
    let near = (ht lowest lowest_allowed).near in
    right_tells order (λ pair. pair.d) data_least data_most c n (λ pair. plain_test (test_of order) (v pair) (w pair)) refl refl data_within (omega arith) (omega arith)
    (λ pair allowed. both order (v pair) (w pair) n (pair.d + c) (hs pair allowed).0 (ht pair allowed).value)
less_sorts_tell order (Plain n) (Code c) v w hs ht =
    let near = (ht lowest lowest_allowed).near in
    right_tells order (λ pair. pair.k) code_least code_most c n (λ pair. plain_test (test_of order) (v pair) (w pair)) refl refl code_within (omega arith) (omega arith)
    (λ pair allowed. both order (v pair) (w pair) n (pair.k + c) (hs pair allowed).0 (ht pair allowed).value)
less_sorts_tell order (Plain n) Mixed v w hs ht = tt
less_sorts_tell order (Data c) (Plain n) v w hs ht =
    let near = (hs lowest lowest_allowed).near in
    left_tells order (λ pair. pair.d) data_least data_most c n (λ pair. plain_test (test_of order) (v pair) (w pair)) refl refl data_within (omega arith) (omega arith)
    (λ pair allowed. both order (v pair) (w pair) (pair.d + c) n (hs pair allowed).value (ht pair allowed).0)
less_sorts_tell order (Data c) (Data d) v w hs ht =
    λ pair allowed. same_base order pair.d c d (v pair) (w pair) (2 ^ 23) (hs pair allowed) (ht pair allowed) (omega arith)
less_sorts_tell order (Data c) (Code d) v w hs ht =
    λ pair allowed. data_before_code order c d (v pair) (w pair) pair allowed (hs pair allowed) (ht pair allowed)
less_sorts_tell order (Data c) Mixed v w hs ht = tt
less_sorts_tell order (Code c) (Plain n) v w hs ht =
    let near = (hs lowest lowest_allowed).near in
    left_tells order (λ pair. pair.k) code_least code_most c n (λ pair. plain_test (test_of order) (v pair) (w pair)) refl refl code_within (omega arith) (omega arith)
    (λ pair allowed. both order (v pair) (w pair) (pair.k + c) n (hs pair allowed).value (ht pair allowed).0)
less_sorts_tell order (Code c) (Data d) v w hs ht =
    λ pair allowed. code_behind_data order d c (w pair) (v pair) pair allowed (ht pair allowed) (hs pair allowed)
less_sorts_tell order (Code c) (Code d) v w hs ht =
    λ pair allowed. same_base order pair.k c d (v pair) (w pair) code_bound (hs pair allowed) (ht pair allowed) (omega arith)
less_sorts_tell order (Code c) Mixed v w hs ht = tt
less_sorts_tell order Mixed (Plain n) v w hs ht = tt
less_sorts_tell order Mixed (Data d) v w hs ht = tt
less_sorts_tell order Mixed (Code d) v w hs ht = tt
less_sorts_tell order Mixed Mixed v w hs ht = tt

pub less_told : (order : Order) (size : ℕ) (x y : Form) (r : Result Bool Why) → r ≡ less_sorts (test_of order) (sort_of size x) (sort_of size y) → x.c < 2 ^ 64 → y.c < 2 ^ 64 → IsSize size
    → Tells (λ pair. plain_test (test_of order) (value_at x pair) (value_at y pair)) r
less_told order size x y r e hx hy fits =
    subst (λ (r : Result Bool Why). Tells (λ pair. plain_test (test_of order) (value_at x pair) (value_at y pair)) r) (sym e)
    (less_sorts_tell order (sort_of size x) (sort_of size y) (λ pair. value_at x pair) (λ pair. value_at y pair)
    (λ pair allowed. sort_value size x pair hx fits allowed) (λ pair allowed. sort_value size y pair hy fits allowed))
