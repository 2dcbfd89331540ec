-- An arithmetic of origin forms and origin bytes, which holds at every allowed pair.
use Rattle.std.specs.Prelude.{ℕ, ◌≡◌, ◌*◌, ◌/◌, ◌%◌, ◌^◌, Result, Ok, Err, Bool, false, cond, nat_lt, ◌==◌, ◌&&◌, ◌||◌, slice_index}
use Rattle.std.specs.Int.{w64, to_le_bytes, from_le_bytes}
use Rattle.mi_model.specs.declared.Pair.{Pair}
use Rattle.mi_model.specs.declared.Form.{Form}
use Rattle.mi_model.specs.declared.OriginByte.{OriginByte}
use Rattle.mi_model.specs.declared.OriginByte.TheVariants.{Plain, Part}
use Rattle.mi_model.specs.declared.Eight.{Eight}
use Rattle.mi_model.specs.declared.Refusal.{Refusal}
use Rattle.mi_model.specs.declared.DivFault.{DivFault}
use Rattle.mi_model.specs.declared.Why.{Why}
use Rattle.mi_model.specs.declared.Why.TheVariants.{Mask, Shift, Multiply, Divide, Byte, Count}
use Rattle.mi_model.specs.declared.TheConstants.{GRID}
use Rattle.mi_model.specs.Ops.{Ops, Two, One, Test, Division}
use Rattle.mi_model.specs.Ops.Two.{Add, Sub, Mul, And, Or, Xor, LeftShift, RightShift}
use Rattle.mi_model.specs.Ops.One.{Negate, Invert, Half}
use Rattle.mi_model.specs.Ops.Test.{Equal, Less, Below}
use Rattle.mi_model.specs.Pairs.{IsAllowedPair}
use Rattle.mi_model.specs.Plain.{wrapped, shifted_right, plain_one, divided, listed}
use Rattle.mi_model.specs.Forms.{value_at, IsNormal, IsReason, normal, plain_form, is_plain}
use Rattle.mi_model.specs.Origin.{sum_of, difference_of, product_of, negated, inverted, masked, or_low_of, xor_low_of, equal_of, less_of, place_of, tag_of}

-- an operation with a plain number, whichever of the operands that is
abbrev pub with_plain : (Form → ℕ → Result Form Why) → Why → Form → Form → Result Form Why
with_plain op why x y = cond (is_plain y) (op x y.c) (cond (is_plain x) (op y x.c) (Err why))

-- each part times 2^n; shifts by 64 and more give 0
abbrev pub shifted_form : Form → ℕ → Form
shifted_form x n = cond (nat_lt n 64) (product_of x (2 ^ n)) (plain_form 0)

-- the operations of two forms that give a form
abbrev pub origin_two : Two → Form → Form → Result Form Why
origin_two Add x y = Ok (sum_of x y)
origin_two Sub x y = Ok (difference_of x y)
origin_two Mul x y = with_plain (λ form m. Ok (product_of form m)) Multiply x y
origin_two And x y = with_plain masked Mask x y
origin_two Or x y = with_plain or_low_of Mask x y
origin_two Xor x y = with_plain xor_low_of Mask x y
origin_two LeftShift x y = cond (is_plain y) (Ok (shifted_form x y.c)) (Err Shift)
origin_two RightShift x y =
    cond (is_plain x && is_plain y) (Ok (plain_form (shifted_right x.c y.c)))
    (cond (is_plain y && (y.c == 0)) (Ok x) (Err Shift))

-- the operations of one form that give a form
abbrev pub origin_one : One → Form → Result Form Why
origin_one Negate x = Ok (negated x)
origin_one Invert x = Ok (inverted x)
origin_one Half x = cond (is_plain x) (Ok (plain_form (plain_one Half x.c))) (Err Shift)

-- the comparisons of two forms
abbrev pub origin_test : (size : ℕ) → Test → Form → Form → Result Bool Why
origin_test size Equal x y = equal_of size x y
origin_test size Less x y = less_of Less size x y
origin_test size Below x y = less_of Below size x y

-- the low and the high half of a product of plain numbers
abbrev pub origin_product : Form → Form → Result (Form × Form) Why
origin_product x y = cond (is_plain x && is_plain y) (Ok (plain_form (wrapped (x.c * y.c)), plain_form (x.c * y.c / 2 ^ 64))) (Err Multiply)

-- the forms of a remainder and a quotient
abbrev pub plain_forms : Result (ℕ × ℕ) DivFault → Result (Form × Form) DivFault
plain_forms (Ok p) = Ok (plain_form p.0, plain_form p.1)
plain_forms (Err fault) = Err fault

-- the division of plain numbers
abbrev pub origin_division : Division → (low high by : Form) → Result (Result (Form × Form) DivFault) Why
origin_division division low high by =
    cond (is_plain low && is_plain high && is_plain by) (Ok (plain_forms (divided division low.c high.c by.c))) (Err Divide)

-- a number that is the same at every pair
abbrev pub number_of : Form → Result ℕ Why
number_of x = cond (is_plain x) (Ok x.c) (Err Count)

-- do the bases leave the lowest byte of a form to its c
abbrev pub keeps_low_byte : Bool
keeps_low_byte = GRID % 256 == 0

-- the low byte of a form
abbrev pub low_byte_of : Form → Result ℕ Why
low_byte_of x = cond (is_plain x || keeps_low_byte) (Ok (x.c % 256)) (Err Byte)

-- byte i of a form
abbrev pub cut_of : Form → ℕ → OriginByte
cut_of x i = cond (is_plain x) (Plain (slice_index (to_le_bytes w64 x.c) i)) (Part x i)

-- all bytes of a form
abbrev pub bytes_of : Form → Eight OriginByte
bytes_of x = record {
  b0 = cut_of x 0;
  b1 = cut_of x 1;
  b2 = cut_of x 2;
  b3 = cut_of x 3;
  b4 = cut_of x 4;
  b5 = cut_of x 5;
  b6 = cut_of x 6;
  b7 = cut_of x 7;
}

-- an operation with its operands, if it is refused
abbrev pub with_operands : {A : Type 0} → Form → Form → Result A Why → Result A Refusal
with_operands x y (Ok answer) = Ok answer
with_operands x y (Err why) = Err (record { first = x; second = y; why = why })

-- the same for an operation of one form
abbrev pub with_operand : {A : Type 0} → Form → Result A Why → Result A Refusal
with_operand x answer = with_operands x (plain_form 0) answer

-- the value of a byte; of the parts of a form only the lowest may have one
abbrev pub value_of : OriginByte → Result ℕ Refusal
value_of (Plain n) = Ok n
value_of (Part form i) = with_operand form (cond ((i == 0) && keeps_low_byte) (Ok (form.c % 256)) (Err Byte))

-- is it a plain byte, whose number is below 256
abbrev pub is_plain_byte : OriginByte → Bool
is_plain_byte (Plain n) = nat_lt n 256
is_plain_byte (Part form i) = false

-- the number of a plain byte
abbrev pub plain_number : OriginByte → ℕ
plain_number (Plain n) = n
plain_number (Part form i) = 0

-- are two forms the same
abbrev pub is_form : Form → Form → Bool
is_form x y = (x.a == y.a) && (x.b == y.b) && (x.c == y.c)

-- is it part i of the form
abbrev pub is_part : Form → ℕ → OriginByte → Bool
is_part form i (Plain n) = false
is_part form i (Part other j) = is_form form other && (i == j)

-- are all eight plain bytes
abbrev pub are_plain : Eight OriginByte → Bool
are_plain b =
    is_plain_byte b.b0 && is_plain_byte b.b1 && is_plain_byte b.b2 && is_plain_byte b.b3
    && is_plain_byte b.b4 && is_plain_byte b.b5 && is_plain_byte b.b6 && is_plain_byte b.b7

-- are they the parts of the form in order
abbrev pub are_parts : Form → Eight OriginByte → Bool
are_parts form b =
    is_part form 0 b.b0 && is_part form 1 b.b1 && is_part form 2 b.b2 && is_part form 3 b.b3
    && is_part form 4 b.b4 && is_part form 5 b.b5 && is_part form 6 b.b6 && is_part form 7 b.b7

-- the numbers of eight plain bytes
abbrev pub plain_numbers : Eight OriginByte → Eight ℕ
plain_numbers b = record {
  b0 = plain_number b.b0;
  b1 = plain_number b.b1;
  b2 = plain_number b.b2;
  b3 = plain_number b.b3;
  b4 = plain_number b.b4;
  b5 = plain_number b.b5;
  b6 = plain_number b.b6;
  b7 = plain_number b.b7;
}

-- the form of eight bytes whose lowest is this one
abbrev pub joined_from : OriginByte → Eight OriginByte → Result Form Why
joined_from (Plain n) b = cond (are_plain b) (Ok (plain_form (from_le_bytes w64 (listed (plain_numbers b))))) (Err Byte)
joined_from (Part form i) b = cond (are_parts form b) (Ok form) (Err Byte)

-- eight plain bytes make a plain cell, and all parts of a form that form
abbrev pub joined : Eight OriginByte → Result Form Why
joined b = joined_from b.b0 b

-- the arithmetic: each operation with the operands that its refusal names
unfoldable pub origin_ops : (size : ℕ) → Ops Form OriginByte
origin_ops size = record {
  plain = λ n. plain_form (wrapped n);
  region_cell = λ o. normal 1 0 o;
  code_cell = λ t. normal 0 1 (16 * t);
  two = λ op x y. with_operands x y (origin_two op x y);
  one = λ op x. with_operand x (origin_one op x);
  test = λ op x y. with_operands x y (origin_test size op x y);
  product = λ x y. with_operands x y (origin_product x y);
  divide = λ division low high by. with_operands low by (origin_division division low high by);
  place = λ x. with_operand x (place_of size x);
  tag = λ x. with_operand x (tag_of size x);
  number = λ x. with_operand x (number_of x);
  byte = λ n. Plain n;
  cut = λ x i. cut_of x i;
  value = λ b. value_of b;
  low_byte = λ x. with_operand x (low_byte_of x);
  join = λ b. with_operands (plain_form 0) (plain_form 0) (joined b);
}

-- a form stands for a number at a pair
pub record FormStands (pair : Pair) (form : Form) (n : ℕ) : Type 0 where
  pub normal_form : IsNormal form
  pub value : value_at form pair ≡ n

-- byte i of a form stands for that byte of its value
abbrev pub ByteStands : Pair → OriginByte → ℕ → Type 0
ByteStands pair (Plain b) n = b ≡ n
ByteStands pair (Part form i) n = IsNormal form × (slice_index (to_le_bytes w64 (value_at form pair)) i ≡ n)

-- An answer is the plain one at every allowed pair. A refusal has the operands, and where its reason is Undecided,
-- the plain answers at its two pairs differ.
abbrev pub TellsOperands : {A : Type 0} → Form → Form → (Pair → A) → Result A Refusal → Type 0
TellsOperands x y plain (Ok answer) = (pair : Pair) → IsAllowedPair pair → plain pair ≡ answer
TellsOperands x y plain (Err refusal) = (refusal.first ≡ x) × (refusal.second ≡ y) × IsReason plain refusal.why
