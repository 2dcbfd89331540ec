-- What is made of an offset, of a tag or of the bytes of a form gives these back.
use Rattle.std.proofs.Common.{◌≡◌, ℕ, ◌*◌, ◌/◌, ◌%◌, ◌^◌, ◌<◌, ◌≤◌, Bool, true, false, cond, ◌==◌, ◌&&◌, nat_lt, nat_le, Option, None, Some, Result, Ok, Err, refl, ap, ◌∙◌, arith}
use Rattle.std.specs.Prelude.{slice_index}
use Rattle.std.specs.Int.{w64, to_le_bytes, from_le_bytes}
use Rattle.std.proofs.Math.Nat.{mod-lt, mod-eq_of_lt}
use Rattle.std.proofs.lemmas.Nat.{from_le_bytes-to_le_bytes_8}
use Rattle.std.proofs.lemmas.Bool.{and_from, lt-ltb, le-leb, eq-eqb}
use Rattle.std.proofs.lemmas.Bool.Decides.{nat_tests}
use Rattle.mi_model.specs.declared.Form.{Form}
use Rattle.mi_model.specs.declared.OriginByte.{OriginByte}
use Rattle.mi_model.specs.declared.OriginByte.TheVariants.{Plain, Part}
use Rattle.mi_model.specs.declared.Eight.{Eight}
use Rattle.mi_model.specs.declared.Why.{Why}
use Rattle.mi_model.specs.declared.Why.TheVariants.{Byte}
use Rattle.mi_model.specs.Plain.{wrapped}
use Rattle.mi_model.specs.Forms.{plain_form, is_plain, IsNormal, IsSize}
use Rattle.mi_model.specs.Origin.{tag_at}
use Rattle.mi_model.specs.OriginOps.{origin_ops, is_form, bytes_of, joined, with_operands}
use Rattle.mi_form.proofs.Told.{same_form}

some_place : (size o c : ℕ) → c ≡ o → o ≤ size → cond (nat_le c size) (Some c) None ≡ Some o
some_place size o c e le = rw e (ap (λ (t : Bool). cond t (Some o) None) (le-leb o size le))

pub place_back : (size o : ℕ) → IsSize size → o ≤ size → (origin_ops size).place ((origin_ops size).region_cell o) ≡ Ok (Some o)
unfolding origin_ops
place_back size o fits le =
    let small : o < 2 ^ 64 = omega arith in
    ap (λ (p : Option ℕ). Ok p) (some_place size o (wrapped o) (mod-eq_of_lt small) le)

some_tag : (t c : ℕ) → c ≡ 16 * t → t < 120 → tag_at c ≡ Some t
some_tag t c e lt =
    let near : nat_lt c 1920 ≡ true = lt-ltb c 1920 (omega arith) in
    let even : (c % 16 == 0) ≡ true = eq-eqb (c % 16) 0 (omega arith) in
    let whole : c / 16 ≡ t = omega arith in
    ap (λ (b : Bool). cond b (Some (c / 16)) None) (and_from (nat_lt c 1920) (c % 16 == 0) near even) ∙ ap (λ (n : ℕ). Some n) whole

pub tag_back : (size t : ℕ) → t < 120 → (origin_ops size).tag ((origin_ops size).code_cell t) ≡ Ok (Some t)
unfolding origin_ops
tag_back size t lt =
    let small : 16 * t < 2 ^ 64 = omega arith in
    ap (λ (p : Option ℕ). Ok p) (some_tag t (wrapped (16 * t)) (mod-eq_of_lt small) lt)

-- eight tests that hold, hold together
all_hold : (a b c d e f g h : Bool) → a ≡ true → b ≡ true → c ≡ true → d ≡ true → e ≡ true → f ≡ true → g ≡ true → h ≡ true → (a && b && c && d && e && f && g && h) ≡ true
all_hold a b c d e f g h ta tb tc td te tf tg th = rw (ta, tb, tc, td, te, tf, tg, th) refl

byte_is_small : (n : ℕ) → nat_lt (n % 256) 256 ≡ true
byte_is_small n = let lt : n % 256 < 256 = mod-lt n (omega arith) in lt-ltb (n % 256) 256 lt

is_itself : (x : Form) (i : ℕ) → (is_form x x && (i == i)) ≡ true
is_itself x i = grind (arith, nat_tests)

-- the bytes of a form, of which it is known whether it is plain
abbrev cut_as : Bool → Form → ℕ → OriginByte
cut_as t x i = cond t (Plain (slice_index (to_le_bytes w64 x.c) i)) (Part x i)

abbrev bytes_as : Bool → Form → Eight OriginByte
bytes_as t x = record {
  b0 = cut_as t x 0;
  b1 = cut_as t x 1;
  b2 = cut_as t x 2;
  b3 = cut_as t x 3;
  b4 = cut_as t x 4;
  b5 = cut_as t x 5;
  b6 = cut_as t x 6;
  b7 = cut_as t x 7;
}

joined_as : (t : Bool) (x : Form) → is_plain x ≡ t → IsNormal x → joined (bytes_as t x) ≡ Ok x
joined_as true x e nx =
    let ea : 0 ≡ x.a = grind (arith, nat_tests) in
    let eb : 0 ≡ x.b = grind (arith, nat_tests) in
    let number = from_le_bytes-to_le_bytes_8 x.c nx.c in
    ap (λ (t : Bool). cond t (Ok (plain_form (from_le_bytes w64 (to_le_bytes w64 x.c)))) (Err Byte))
    (all_hold _ _ _ _ _ _ _ _ (byte_is_small x.c) (byte_is_small (x.c / 256)) (byte_is_small (x.c / 65536)) (byte_is_small (x.c / 16777216))
    (byte_is_small (x.c / 4294967296)) (byte_is_small (x.c / 1099511627776)) (byte_is_small (x.c / 281474976710656)) (byte_is_small (x.c / 72057594037927936)))
    ∙ (ap (λ (n : ℕ). Ok (plain_form n)) number ∙ ap (λ (form : Form). Ok form) (same_form (plain_form x.c) x ea eb refl))
joined_as false x e nx =
    ap (λ (t : Bool). cond t (Ok x) (Err Byte))
    (all_hold _ _ _ _ _ _ _ _ (is_itself x 0) (is_itself x 1) (is_itself x 2) (is_itself x 3) (is_itself x 4) (is_itself x 5) (is_itself x 6) (is_itself x 7))

pub form_back : (size : ℕ) (x : Form) → IsNormal x → (origin_ops size).join (bytes_of x) ≡ Ok x
unfolding origin_ops
form_back size x nx = ap (λ (r : Result Form Why). with_operands (plain_form 0) (plain_form 0) r) (joined_as (is_plain x) x refl nx)
