-- Eight origin bytes that make a form stand for the bytes of its value.
use Rattle.std.proofs.Common.{◌≡◌, ℕ, ◌+◌, ◌%◌, ◌^◌, ◌<◌, zero, suc, Bool, true, false, cond, ◌&&◌, List, [], ◌∷◌, get_or, Result, Ok, Err, refl, sym, ap, ◌∙◌, arith}
use Rattle.std.specs.Prelude.{slice_index}
use Rattle.std.specs.Int.{w64, to_le_bytes, from_le_bytes}
use Rattle.std.proofs.Math.Nat.{mod-lt}
use Rattle.std.proofs.lemmas.Bool.{and_parts, ltb-true, false≢true}
use Rattle.std.proofs.lemmas.Nat.{le_bytes_8}
use Rattle.mi_model.specs.declared.Pair.{Pair}
use Rattle.mi_model.specs.declared.Form.{Form}
use Rattle.mi_model.specs.declared.OriginByte.{OriginByte}
use Rattle.mi_model.specs.declared.OriginByte.TheVariants.{Plain, Part}
use Rattle.mi_model.specs.declared.Eight.{Eight}
use Rattle.mi_model.specs.declared.Why.{Why}
use Rattle.mi_model.specs.declared.Why.TheVariants.{Byte}
use Rattle.mi_model.specs.declared.Refusal.{Refusal}
use Rattle.mi_model.specs.Ops.{Ops}
use Rattle.mi_model.specs.Pairs.{IsAllowedPair}
use Rattle.mi_model.specs.Plain.{plain_ops, listed}
use Rattle.mi_model.specs.Region.{eight_from}
use Rattle.mi_model.specs.Image.{eight_bytes}
use Rattle.mi_model.specs.Stands.{Each, EightStands, AnswerStands}
use Rattle.mi_model.specs.Stands.AnswerStands.{given, withheld}
use Rattle.mi_model.specs.Forms.{value_at, plain_form}
use Rattle.mi_model.specs.OriginOps.{origin_ops, is_plain_byte, is_part, are_plain, are_parts, plain_numbers, joined, joined_from, with_operands, FormStands, ByteStands}
use Rattle.mi_model.proofs.Each.{each_get}
use Rattle.mi_form.proofs.Bytes.{joined_stands}

-- a plain byte is small
abbrev Fits : OriginByte → Type 0
Fits (Plain n) = n < 256
Fits (Part form i) = Unit {0}

-- eight bytes that are
record AllFit (b : Eight OriginByte) : Type 0 where
  f0 : Fits b.b0
  f1 : Fits b.b1
  f2 : Fits b.b2
  f3 : Fits b.b3
  f4 : Fits b.b4
  f5 : Fits b.b5
  f6 : Fits b.b6
  f7 : Fits b.b7

plain_fits : (b : OriginByte) → is_plain_byte b ≡ true → Fits b
plain_fits (Plain n) e = ltb-true n 256 e
plain_fits (Part form i) e = tt

part_fits : (form : Form) (i : ℕ) (b : OriginByte) → is_part form i b ≡ true → Fits b
part_fits form i (Plain n) e = absurd (false≢true e)
part_fits form i (Part other j) e = tt

plain_all_fit : (b : Eight OriginByte) → are_plain b ≡ true → AllFit b
plain_all_fit b e =
    let p7 = and_parts _ _ e in
    let p6 = and_parts _ _ p7.0 in
    let p5 = and_parts _ _ p6.0 in
    let p4 = and_parts _ _ p5.0 in
    let p3 = and_parts _ _ p4.0 in
    let p2 = and_parts _ _ p3.0 in
    let p1 = and_parts _ _ p2.0 in
    record {
      f0 = plain_fits b.b0 p1.0;
      f1 = plain_fits b.b1 p1.1;
      f2 = plain_fits b.b2 p2.1;
      f3 = plain_fits b.b3 p3.1;
      f4 = plain_fits b.b4 p4.1;
      f5 = plain_fits b.b5 p5.1;
      f6 = plain_fits b.b6 p6.1;
      f7 = plain_fits b.b7 p7.1;
    }

parts_all_fit : (form : Form) (b : Eight OriginByte) → are_parts form b ≡ true → AllFit b
parts_all_fit form b e =
    let p7 = and_parts _ _ e in
    let p6 = and_parts _ _ p7.0 in
    let p5 = and_parts _ _ p6.0 in
    let p4 = and_parts _ _ p5.0 in
    let p3 = and_parts _ _ p4.0 in
    let p2 = and_parts _ _ p3.0 in
    let p1 = and_parts _ _ p2.0 in
    record {
      f0 = part_fits form 0 b.b0 p1.0;
      f1 = part_fits form 1 b.b1 p1.1;
      f2 = part_fits form 2 b.b2 p2.1;
      f3 = part_fits form 3 b.b3 p3.1;
      f4 = part_fits form 4 b.b4 p4.1;
      f5 = part_fits form 5 b.b5 p5.1;
      f6 = part_fits form 6 b.b6 p6.1;
      f7 = part_fits form 7 b.b7 p7.1;
    }

plain_cases : (t : Bool) (b : Eight OriginByte) (x y : Form) → are_plain b ≡ t → with_operands {A = Form} (plain_form 0) (plain_form 0) (cond t (Ok y) (Err Byte)) ≡ Ok x → AllFit b
plain_cases true b x y e is = plain_all_fit b e
plain_cases false b x y e is = absurd (cc)

part_cases : (t : Bool) (form : Form) (b : Eight OriginByte) (x : Form) → are_parts form b ≡ t → with_operands {A = Form} (plain_form 0) (plain_form 0) (cond t (Ok form) (Err Byte)) ≡ Ok x → AllFit b
part_cases true form b x e is = parts_all_fit form b e
part_cases false form b x e is = absurd (cc)

first_cases : (first : OriginByte) (b : Eight OriginByte) (x : Form) → with_operands {A = Form} (plain_form 0) (plain_form 0) (joined_from first b) ≡ Ok x → AllFit b
first_cases (Plain n) b x is = plain_cases (are_plain b) b x _ refl is
first_cases (Part form i) b x is = part_cases (are_parts form b) form b x refl is

-- where they make a form
all_fit : (size : ℕ) (b : Eight OriginByte) (x : Form) → (origin_ops size).join b ≡ Ok x → AllFit b
unfolding origin_ops
all_fit size b x is = first_cases b.b0 b x is

-- each byte of a number is small
byte_small : (v i : ℕ) → slice_index (to_le_bytes w64 v) i < 256
byte_small v zero = mod-lt _ (omega arith)
byte_small v (suc zero) = mod-lt _ (omega arith)
byte_small v (suc (suc zero)) = mod-lt _ (omega arith)
byte_small v (suc (suc (suc zero))) = mod-lt _ (omega arith)
byte_small v (suc (suc (suc (suc zero)))) = mod-lt _ (omega arith)
byte_small v (suc (suc (suc (suc (suc zero))))) = mod-lt _ (omega arith)
byte_small v (suc (suc (suc (suc (suc (suc zero)))))) = mod-lt _ (omega arith)
byte_small v (suc (suc (suc (suc (suc (suc (suc zero))))))) = mod-lt _ (omega arith)
byte_small v (suc (suc (suc (suc (suc (suc (suc (suc i)))))))) = omega arith

-- a byte that stands for a number
number_small : (b : OriginByte) (n : ℕ) (pair : Pair) → Fits b → ByteStands pair b n → n < 256
number_small (Plain k) n pair fits h = omega arith
number_small (Part form i) n pair fits h = let small = byte_small (value_at form pair) i in let is = h.1 in omega arith

eight_small : (b : Eight OriginByte) (e : Eight ℕ) (pair : Pair) → AllFit b → EightStands (ByteStands pair) b e → (i : ℕ) → get_or (listed e) i 0 < 256
eight_small b e pair fit h zero = number_small b.b0 e.b0 pair fit.f0 h.s0
eight_small b e pair fit h (suc zero) = number_small b.b1 e.b1 pair fit.f1 h.s1
eight_small b e pair fit h (suc (suc zero)) = number_small b.b2 e.b2 pair fit.f2 h.s2
eight_small b e pair fit h (suc (suc (suc zero))) = number_small b.b3 e.b3 pair fit.f3 h.s3
eight_small b e pair fit h (suc (suc (suc (suc zero)))) = number_small b.b4 e.b4 pair fit.f4 h.s4
eight_small b e pair fit h (suc (suc (suc (suc (suc zero))))) = number_small b.b5 e.b5 pair fit.f5 h.s5
eight_small b e pair fit h (suc (suc (suc (suc (suc (suc zero)))))) = number_small b.b6 e.b6 pair fit.f6 h.s6
eight_small b e pair fit h (suc (suc (suc (suc (suc (suc (suc zero))))))) = number_small b.b7 e.b7 pair fit.f7 h.s7
eight_small b e pair fit h (suc (suc (suc (suc (suc (suc (suc (suc i)))))))) = omega arith

-- what is answered stands for the other answer
answered : {X Y : Type 0} {R : X → Y → Type 0} {r : Result X Refusal} {s : Result Y Refusal} (x : X) (y : Y) → AnswerStands R r s → r ≡ Ok x → s ≡ Ok y → R x y
answered {X} {Y} {R} x y (given {x = u} {y = v} h) e f =
    let same : u ≡ x = cc in
    let also : v ≡ y = cc in
    rw (← same) (rw (← also) h)
answered x y (withheld e r) f g = absurd (cc)

-- the form of eight bytes stands for the number of those that they stand for
pub joined_value : (size : ℕ) (b : Eight OriginByte) (e : Eight ℕ) (x : Form) (pair : Pair) → EightStands (ByteStands pair) b e → (origin_ops size).join b ≡ Ok x
    → FormStands pair x (from_le_bytes w64 (listed e))
unfolding origin_ops
joined_value size b e x pair h is = answered x (from_le_bytes w64 (listed e)) (joined_stands b e pair (plain_form 0) (plain_form 0) h) is refl

-- and they stand for the bytes of its value
pub joined_bytes : (size : ℕ) (b : Eight OriginByte) (e : Eight ℕ) (x : Form) (pair : Pair) → EightStands (ByteStands pair) b e → (origin_ops size).join b ≡ Ok x
    → eight_bytes (value_at x pair) ≡ listed e
joined_bytes size b e x pair h is =
    let stands = joined_value size b e x pair h is in
    le_bytes_8 (listed e) (value_at x pair) refl (eight_small b e pair (all_fit size b x is) h) stands.value

-- eight bytes of a region stand for those of the plain region
pub eight_stand : (size : ℕ) (pair : Pair) (bytes : List OriginByte) (plain : List ℕ) (o : ℕ) → Each (ByteStands pair) bytes plain
    → EightStands (ByteStands pair) (eight_from (origin_ops size) bytes o) (eight_from (plain_ops pair size) plain o)
unfolding origin_ops plain_ops
eight_stand size pair bytes plain o h = record {
  s0 = each_get o h refl;
  s1 = each_get (o + 1) h refl;
  s2 = each_get (o + 2) h refl;
  s3 = each_get (o + 3) h refl;
  s4 = each_get (o + 4) h refl;
  s5 = each_get (o + 5) h refl;
  s6 = each_get (o + 6) h refl;
  s7 = each_get (o + 7) h refl;
}
