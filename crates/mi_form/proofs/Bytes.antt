-- Bytes of forms, and forms of bytes.
use Rattle.std.proofs.Common.{◌≡◌, ℕ, ◌%◌, ◌^◌, ◌<◌, Bool, true, false, cond, ◌==◌, ◌&&◌, ◌||◌, ◌⊎◌, inl, inr, Ok, Err, refl, sym, subst, ap, ◌∙◌, arith}
use Rattle.std.specs.Prelude.{List, [], ◌∷◌, slice_index}
use Rattle.std.specs.Int.{w64, to_le_bytes, from_le_bytes}
use Rattle.std.proofs.Math.Nat.{mod-mod_of_dvd}
use Rattle.std.proofs.lemmas.Nat.{from_le_bytes-to_le_bytes_8}
use Rattle.std.proofs.lemmas.Nat.Gcd.{dvd_of_mod-eq-zero}
use Rattle.std.proofs.lemmas.Bool.{and_parts, or_cases, ltb-true, eqb-true, false≢true}
use Rattle.std.proofs.lemmas.Bool.Decides.{nat_tests}
use Rattle.mi_model.specs.declared.Pair.{Pair}
use Rattle.mi_model.specs.declared.Form.{Form}
use Rattle.mi_model.specs.declared.OriginByte.{OriginByte}
use Rattle.mi_model.specs.declared.OriginByte.TheVariants.{Plain, Part}
use Rattle.mi_model.specs.declared.Eight.{Eight}
use Rattle.mi_model.specs.declared.Why.TheVariants.{Byte}
use Rattle.mi_model.specs.declared.TheConstants.{GRID}
use Rattle.mi_model.specs.Pairs.{IsAllowedPair}
use Rattle.mi_model.specs.Plain.{listed}
use Rattle.mi_model.specs.Stands.{AnswerStands, EightStands}
use Rattle.mi_model.specs.Stands.AnswerStands.{given, withheld}
use Rattle.mi_model.specs.Forms.{value_at, plain_form, is_plain, IsNormal}
use Rattle.mi_model.specs.OriginOps.{keeps_low_byte, low_byte_of, cut_of, value_of, with_operand, with_operands, is_plain_byte, plain_number, is_form, is_part, are_plain, are_parts, plain_numbers, joined, joined_from, FormStands, ByteStands}
use Rattle.mi_form.proofs.Told.{same_form}
use Rattle.mi_form.proofs.Low.{low_value, plain_value, plain_is_normal}
use Rattle.mi_form.proofs.Combined.{plain_at, value_below}

-- the form of a number stands for it
pub plain_stands : (n m : ℕ) (pair : Pair) → n ≡ m → m < 2 ^ 64 → FormStands pair (plain_form n) m
plain_stands n m pair e below =
    let small : n < 2 ^ 64 = omega arith in
    record { normal_form = plain_is_normal n small; value = plain_value n pair small ∙ e }

-- the lowest byte of a form's value, where the bases leave it to the c
pub low_byte_value : (x : Form) (pair : Pair) → keeps_low_byte ≡ true → IsAllowedPair pair → x.c % 256 ≡ value_at x pair % 256
low_byte_value x pair e allowed =
    let divides = dvd_of_mod-eq-zero 256 (eqb-true (GRID % 256) 0 e) in
    sym (mod-mod_of_dvd 256 x.c divides) ∙ (ap (λ (i : ℕ). i % 256) (sym (low_value x pair allowed)) ∙ mod-mod_of_dvd 256 (value_at x pair) divides)

low_byte_same : (x : Form) → (is_plain x ≡ true) ⊎ (keeps_low_byte ≡ true) → (n : ℕ) (pair : Pair) → IsAllowedPair pair → FormStands pair x n → x.c % 256 ≡ n % 256
low_byte_same x (inl e) n pair allowed h = ap (λ (i : ℕ). i % 256) (sym (plain_at x pair h.normal_form e) ∙ h.value)
low_byte_same x (inr e) n pair allowed h = low_byte_value x pair e allowed ∙ ap (λ (i : ℕ). i % 256) h.value

low_byte_cases : (t : Bool) (x : Form) (n : ℕ) (pair : Pair) → (is_plain x || keeps_low_byte) ≡ t → IsAllowedPair pair → FormStands pair x n
    → AnswerStands (λ (i j : ℕ). i ≡ j) (with_operand x (cond t (Ok (x.c % 256)) (Err Byte))) (Ok (n % 256))
low_byte_cases true x n pair e allowed h =
    given (low_byte_same x (or_cases (is_plain x) keeps_low_byte e) n pair allowed h)
low_byte_cases false x n pair e allowed h = withheld _ _

pub low_byte_stands : (x : Form) (n : ℕ) (pair : Pair) → IsAllowedPair pair → FormStands pair x n → AnswerStands (λ (i j : ℕ). i ≡ j) (with_operand x (low_byte_of x)) (Ok (n % 256))
low_byte_stands x n pair allowed h = low_byte_cases (is_plain x || keeps_low_byte) x n pair refl allowed h

cut_cases : (t : Bool) (x : Form) (n i : ℕ) (pair : Pair) → is_plain x ≡ t → FormStands pair x n
    → ByteStands pair (cond t (Plain (slice_index (to_le_bytes w64 x.c) i)) (Part x i)) (slice_index (to_le_bytes w64 n) i)
cut_cases true x n i pair e h = ap (λ (v : ℕ). slice_index (to_le_bytes w64 v) i) (sym (plain_at x pair h.normal_form e) ∙ h.value)
cut_cases false x n i pair e h = (h.normal_form, ap (λ (v : ℕ). slice_index (to_le_bytes w64 v) i) h.value)

pub cut_stands : (x : Form) (n i : ℕ) (pair : Pair) → FormStands pair x n → ByteStands pair (cut_of x i) (slice_index (to_le_bytes w64 n) i)
cut_stands x n i pair h = cut_cases (is_plain x) x n i pair refl h

part_cases : (t : Bool) (form : Form) (i n : ℕ) (pair : Pair) → ((i == 0) && keeps_low_byte) ≡ t → IsAllowedPair pair → ByteStands pair (Part form i) n
    → AnswerStands (λ (i j : ℕ). i ≡ j) (with_operand form (cond t (Ok (form.c % 256)) (Err Byte))) (Ok n)
part_cases true form i n pair e allowed h =
    let p = and_parts (i == 0) keeps_low_byte e in
    given (low_byte_value form pair p.1 allowed ∙ (ap (λ (k : ℕ). slice_index (to_le_bytes w64 (value_at form pair)) k) (sym (eqb-true i 0 p.0)) ∙ h.1))
part_cases false form i n pair e allowed h = withheld _ _

pub value_stands : (b : OriginByte) (n : ℕ) (pair : Pair) → IsAllowedPair pair → ByteStands pair b n → AnswerStands (λ (i j : ℕ). i ≡ j) (value_of b) (Ok n)
value_stands (Plain k) n pair allowed h = given h
value_stands (Part form i) n pair allowed h = part_cases ((i == 0) && keeps_low_byte) form i n pair refl allowed h

-- a plain byte stands for its number
pub record IsNumber (b : OriginByte) (n : ℕ) : Type 0 where
  pub number : plain_number b ≡ n
  pub small : n < 256

plain_byte : (b : OriginByte) (n : ℕ) (pair : Pair) → is_plain_byte b ≡ true → ByteStands pair b n → IsNumber b n
plain_byte (Plain k) n pair e h = let lt : k < 256 = ltb-true k 256 e in record { number = h; small = omega arith }
plain_byte (Part form i) n pair e h = absurd (false≢true e)

-- a part of a form stands for that byte of its value
pub record IsByteOf (form : Form) (pair : Pair) (i n : ℕ) : Type 0 where
  pub normal_form : IsNormal form
  pub byte : slice_index (to_le_bytes w64 (value_at form pair)) i ≡ n

same_parts_of : (x y : Form) → is_form x y ≡ true → x ≡ y
same_parts_of x y e =
    let ea : x.a ≡ y.a = grind (arith, nat_tests) in
    let eb : x.b ≡ y.b = grind (arith, nat_tests) in
    let ec : x.c ≡ y.c = grind (arith, nat_tests) in
    same_form x y ea eb ec

part_byte : (form : Form) (i : ℕ) (b : OriginByte) (n : ℕ) (pair : Pair) → is_part form i b ≡ true → ByteStands pair b n → IsByteOf form pair i n
part_byte form i (Plain k) n pair e h = absurd (false≢true e)
part_byte form i (Part other j) n pair e h =
    let p = and_parts (is_form form other) (i == j) e in
    let same : form ≡ other = same_parts_of form other p.0 in
    let place : i ≡ j = eqb-true i j p.1 in
    record {
      normal_form = subst IsNormal (sym same) h.0;
      byte = ap (λ (x : Form). slice_index (to_le_bytes w64 (value_at x pair)) i) same ∙ (ap (λ (k : ℕ). slice_index (to_le_bytes w64 (value_at other pair)) k) place ∙ h.1);
    }

-- eight tests that all hold
pub record AllTrue (a b c d e f g h : Bool) : Type 0 where
  pub t0 : a ≡ true
  pub t1 : b ≡ true
  pub t2 : c ≡ true
  pub t3 : d ≡ true
  pub t4 : e ≡ true
  pub t5 : f ≡ true
  pub t6 : g ≡ true
  pub t7 : h ≡ true

all_true : (a b c d e f g h : Bool) → (a && b && c && d && e && f && g && h) ≡ true → AllTrue a b c d e f g h
all_true a b c d e f g h p =
    record {
      t0 = grind (arith, nat_tests);
      t1 = grind (arith, nat_tests);
      t2 = grind (arith, nat_tests);
      t3 = grind (arith, nat_tests);
      t4 = grind (arith, nat_tests);
      t5 = grind (arith, nat_tests);
      t6 = grind (arith, nat_tests);
      t7 = grind (arith, nat_tests);
    }

-- eight bytes make a number of 64 bits
eight_below : (a b c d e f g h : ℕ) → a < 256 → b < 256 → c < 256 → d < 256 → e < 256 → f < 256 → g < 256 → h < 256
    → from_le_bytes w64 (a ∷ b ∷ c ∷ d ∷ e ∷ f ∷ g ∷ h ∷ []) < 2 ^ 64
eight_below a b c d e f g h ha hb hc hd he hf hg hh = omega arith

same_listed : (b n : Eight ℕ) → b.b0 ≡ n.b0 → b.b1 ≡ n.b1 → b.b2 ≡ n.b2 → b.b3 ≡ n.b3 → b.b4 ≡ n.b4 → b.b5 ≡ n.b5 → b.b6 ≡ n.b6 → b.b7 ≡ n.b7 → listed b ≡ listed n
same_listed b n e0 e1 e2 e3 e4 e5 e6 e7 = cc

-- the bytes of a number in order
abbrev bytes_of : (v : ℕ) → Eight ℕ
bytes_of v =
    let bytes = to_le_bytes w64 v in
    record {
      b0 = slice_index bytes 0;
      b1 = slice_index bytes 1;
      b2 = slice_index bytes 2;
      b3 = slice_index bytes 3;
      b4 = slice_index bytes 4;
      b5 = slice_index bytes 5;
      b6 = slice_index bytes 6;
      b7 = slice_index bytes 7;
    }

all_plain_stand : (b : Eight OriginByte) (x : Eight ℕ) (pair : Pair) → are_plain b ≡ true → EightStands (ByteStands pair) b x
    → FormStands pair (plain_form (from_le_bytes w64 (listed (plain_numbers b)))) (from_le_bytes w64 (listed x))
all_plain_stand b x pair e h =
    let t = all_true _ _ _ _ _ _ _ _ e in
    let n0 = plain_byte b.b0 x.b0 pair t.t0 h.s0 in
    let n1 = plain_byte b.b1 x.b1 pair t.t1 h.s1 in
    let n2 = plain_byte b.b2 x.b2 pair t.t2 h.s2 in
    let n3 = plain_byte b.b3 x.b3 pair t.t3 h.s3 in
    let n4 = plain_byte b.b4 x.b4 pair t.t4 h.s4 in
    let n5 = plain_byte b.b5 x.b5 pair t.t5 h.s5 in
    let n6 = plain_byte b.b6 x.b6 pair t.t6 h.s6 in
    let n7 = plain_byte b.b7 x.b7 pair t.t7 h.s7 in
    let same : listed (plain_numbers b) ≡ listed x = same_listed (plain_numbers b) x n0.number n1.number n2.number n3.number n4.number n5.number n6.number n7.number in
    let below : from_le_bytes w64 (listed x) < 2 ^ 64 = eight_below x.b0 x.b1 x.b2 x.b3 x.b4 x.b5 x.b6 x.b7 n0.small n1.small n2.small n3.small n4.small n5.small n6.small n7.small in
    plain_stands (from_le_bytes w64 (listed (plain_numbers b))) (from_le_bytes w64 (listed x)) pair (ap (λ (l : List ℕ). from_le_bytes w64 l) same) below

all_parts_stand : (form : Form) (b : Eight OriginByte) (x : Eight ℕ) (pair : Pair) → are_parts form b ≡ true → EightStands (ByteStands pair) b x
    → FormStands pair form (from_le_bytes w64 (listed x))
all_parts_stand form b x pair e h =
    let t = all_true _ _ _ _ _ _ _ _ e in
    let n0 = part_byte form 0 b.b0 x.b0 pair t.t0 h.s0 in
    let n1 = part_byte form 1 b.b1 x.b1 pair t.t1 h.s1 in
    let n2 = part_byte form 2 b.b2 x.b2 pair t.t2 h.s2 in
    let n3 = part_byte form 3 b.b3 x.b3 pair t.t3 h.s3 in
    let n4 = part_byte form 4 b.b4 x.b4 pair t.t4 h.s4 in
    let n5 = part_byte form 5 b.b5 x.b5 pair t.t5 h.s5 in
    let n6 = part_byte form 6 b.b6 x.b6 pair t.t6 h.s6 in
    let n7 = part_byte form 7 b.b7 x.b7 pair t.t7 h.s7 in
    let same : listed (bytes_of (value_at form pair)) ≡ listed x = same_listed (bytes_of (value_at form pair)) x n0.byte n1.byte n2.byte n3.byte n4.byte n5.byte n6.byte n7.byte in
    record {
      normal_form = n0.normal_form;
      value = sym (from_le_bytes-to_le_bytes_8 (value_at form pair) (value_below form pair)) ∙ ap (λ (l : List ℕ). from_le_bytes w64 l) same;
    }

plain_join_cases : (t : Bool) (b : Eight OriginByte) (x : Eight ℕ) (pair : Pair) (p q : Form) → are_plain b ≡ t → EightStands (ByteStands pair) b x
    → AnswerStands (FormStands pair) (with_operands p q (cond t (Ok (plain_form (from_le_bytes w64 (listed (plain_numbers b))))) (Err Byte))) (Ok (from_le_bytes w64 (listed x)))
plain_join_cases true b x pair p q e h = given (all_plain_stand b x pair e h)
plain_join_cases false b x pair p q e h = withheld _ _

part_join_cases : (t : Bool) (form : Form) (b : Eight OriginByte) (x : Eight ℕ) (pair : Pair) (p q : Form) → are_parts form b ≡ t → EightStands (ByteStands pair) b x
    → AnswerStands (FormStands pair) (with_operands p q (cond t (Ok form) (Err Byte))) (Ok (from_le_bytes w64 (listed x)))
part_join_cases true form b x pair p q e h = given (all_parts_stand form b x pair e h)
part_join_cases false form b x pair p q e h = withheld _ _

first_joined : (first : OriginByte) (b : Eight OriginByte) (x : Eight ℕ) (pair : Pair) (p q : Form) → EightStands (ByteStands pair) b x
    → AnswerStands (FormStands pair) (with_operands p q (joined_from first b)) (Ok (from_le_bytes w64 (listed x)))
first_joined (Plain n) b x pair p q h = plain_join_cases (are_plain b) b x pair p q refl h
first_joined (Part form i) b x pair p q h = part_join_cases (are_parts form b) form b x pair p q refl h

pub joined_stands : (b : Eight OriginByte) (x : Eight ℕ) (pair : Pair) (p q : Form) → EightStands (ByteStands pair) b x
    → AnswerStands (FormStands pair) (with_operands p q (joined b)) (Ok (from_le_bytes w64 (listed x)))
joined_stands b x pair p q h = first_joined b.b0 b x pair p q h
