-- Plain numbers stand for themselves, and keep offsets.
use Rattle.std.specs.Prelude.{ℕ, ◌≡◌, ◌≤◌, ◌+◌, ◌-◌, ◌*◌, ◌/◌, ◌%◌, ◌^◌, ◌<◌, ◌&&◌, Bool, true, false, cond, nat_le, nat_lt, Some, None, Ok, Err, Result}
use Rattle.std.proofs.Common.{refl, ap, sym, subst, ◌∙◌, arith}
use Rattle.std.proofs.lemmas.Bool.Decides.{nat_tests}
use Rattle.std.specs.Int.{w64, from_le_bytes}
use Rattle.mi_model.specs.declared.Pair.{Pair}
use Rattle.mi_model.specs.declared.Eight.{Eight}
use Rattle.mi_model.specs.declared.DivFault.{DivFault}
use Rattle.mi_model.specs.Offsets.{KeepsOffsets}
use Rattle.mi_model.specs.Plain.{plain_ops, plain_place, listed, wrapped, divided}
use Rattle.mi_model.specs.Stands.{Simulates, EightStands, DivisionStands}
use Rattle.mi_model.specs.Stands.DivisionStands.{divided as divided_cells, undivided as undivided_fault}
use Rattle.mi_model.specs.Stands.AnswerStands.{given}

same_bytes : (b n : Eight ℕ) → EightStands (λ b n. b ≡ n) b n → listed b ≡ listed n
same_bytes b n h = cc (h.s0, h.s1, h.s2, h.s3, h.s4, h.s5, h.s6, h.s7)

-- a division's answer stands for itself
divided_alike : (r : Result (ℕ × ℕ) DivFault) → DivisionStands (λ (x n : ℕ). x ≡ n) r r
divided_alike (Ok p) = divided_cells (refl, refl)
divided_alike (Err e) = undivided_fault e

pub plain_simulates : (own : Pair) (size : ℕ) (pair : Pair) → pair ≡ own → Simulates (λ (x n : ℕ). x ≡ n) (λ (b n : ℕ). b ≡ n) (plain_ops own size) (plain_ops pair size)
unfolding plain_ops
plain_simulates own size pair e = subst (λ (p : Pair). Simulates (λ (x n : ℕ). x ≡ n) (λ (b n : ℕ). b ≡ n) (plain_ops own size) (plain_ops p size)) (sym e) (record {
  plain = λ n. refl;
  region_cell = λ o. refl;
  code_cell = λ t. refl;
  two = λ op a b x y h k. given (rw (h, k) refl);
  one = λ op a x h. given (rw h refl);
  test = λ op a b x y h k. given (rw (h, k) refl);
  product = λ a b x y h k. given (ap (λ n. wrapped (n * b)) h ∙ ap (λ n. wrapped (x * n)) k, ap (λ n. n * b / 2 ^ 64) h ∙ ap (λ n. x * n / 2 ^ 64) k);
  divide = λ division a b c x y z h k l. given (rw (h, k, l) (divided_alike (divided division x y z)));
  place = λ a x h. given (rw h refl);
  tag = λ a x h. given (rw h refl);
  number = λ a x h. given h;
  low_byte = λ a x h. given (rw h refl);
  byte_of = λ n. refl;
  cut = λ i a x h. ap (λ n. (plain_ops own size).cut n i) h;
  value = λ a x h. given h;
  join = λ b n h. given (ap (λ l. from_le_bytes w64 l) (same_bytes b n h));
})

-- an address with a place is that offset from the data base, and the offset is at most the size
address_is : (pair : Pair) (size x o : ℕ) → plain_place pair size x ≡ Some o → (x ≡ pair.d + o) × (o ≤ size)
address_is pair size x o h = by_tests (nat_le pair.d x) (nat_le (x - pair.d) size) refl refl h
  where
    by_tests : (t u : Bool) → nat_le pair.d x ≡ t → nat_le (x - pair.d) size ≡ u → cond (t && u) (Some (x - pair.d)) None ≡ Some o → (x ≡ pair.d + o) × (o ≤ size)
    by_tests true true e f k = let same : x - pair.d ≡ o = cc in let above : pair.d ≤ x = grind (arith, nat_tests) in let fits : x - pair.d ≤ size = grind (arith, nat_tests) in (omega arith, omega arith)
    by_tests true false e f k = cc
    by_tests false u e f k = cc

same_order : (d x y o p : ℕ) → x ≡ d + o → y ≡ d + p → nat_lt x y ≡ nat_lt o p
same_order d x y o p e f = grind (arith, nat_tests)

same_sum : (d size x y o p n : ℕ) → size ≤ 2 ^ 23 → n < 2 ^ 32 → x ≡ d + o → y ≡ d + p → o ≤ size → p ≤ size → (x + n % 2 ^ 64) % 2 ^ 64 ≡ y → p ≡ o + n
same_sum d size x y o p n small few e f fits also sum = omega arith

pub plain_keeps_offsets : (pair : Pair) (size : ℕ) → size ≤ 2 ^ 23 → KeepsOffsets (plain_ops pair size)
unfolding plain_ops
plain_keeps_offsets pair size small = record {
  ordered = λ x y o p below at also is.
      let i = address_is pair size x o (cc) in
      let j = address_is pair size y p (cc) in
      let test : nat_lt x y ≡ below = cc in
      sym test ∙ same_order pair.d x y o p i.0 j.0;
  added = λ x y o p n few at is also.
      let i = address_is pair size x o (cc) in
      let j = address_is pair size y p (cc) in
      let sum : (x + n % 2 ^ 64) % 2 ^ 64 ≡ y = cc in
      same_sum pair.d size x y o p n small few i.0 j.0 i.1 j.1 sum;
}
