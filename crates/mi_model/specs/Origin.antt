-- The operations on origin forms: the result of each, or why there is none.
use Rattle.std.specs.Prelude.{ℕ, ◌+◌, ◌-◌, ◌*◌, ◌/◌, ◌%◌, ◌^◌, min, Option, None, Some, Result, Ok, Err, Bool, true, false, cond, nat_le, nat_lt, ◌==◌, ◌&&◌, ◌||◌, bit_and, bit_or, bit_xor}
use Rattle.mi_model.specs.declared.Form.{Form}
use Rattle.mi_model.specs.declared.Why.{Why}
use Rattle.mi_model.specs.declared.Why.TheVariants.{Undecided, Far, Mask}
use Rattle.mi_model.specs.Plain.{wrapped, less_by, plain_test}
use Rattle.mi_model.specs.Ops.{Test}
use Rattle.mi_model.specs.declared.TheConstants.{GRID}
use Rattle.mi_model.specs.Forms.{normal, plain_form, is_plain}

-- the least and the greatest bases of allowed pairs
abbrev pub data_least : ℕ
data_least = 2 ^ 32

abbrev pub data_most : ℕ
data_most = 2 ^ 46 - 2 ^ 32

abbrev pub code_least : ℕ
code_least = 2 ^ 46

abbrev pub code_most : ℕ
code_most = 2 ^ 47 - 2 ^ 32

-- how near the code base the address of a code is
abbrev pub code_bound : ℕ
code_bound = 4096

-- What comparisons tell apart: plain numbers, addresses in the region, addresses near the code table, and all else.
pub data Sort : Type 0 where
  Plain : (n : ℕ) → Sort
  Data : (c : ℕ) → Sort
  Code : (c : ℕ) → Sort
  Mixed : Sort

-- sums and differences are made part by part
abbrev pub sum_of : Form → Form → Form
sum_of x y = normal (x.a + y.a) (x.b + y.b) (x.c + y.c)

abbrev pub difference_of : Form → Form → Form
difference_of x y = normal (less_by x.a y.a) (less_by x.b y.b) (less_by x.c y.c)

-- each part times a plain number
abbrev pub product_of : Form → ℕ → Form
product_of x m = normal (x.a * m) (x.b * m) (x.c * m)

-- 0 - x
abbrev pub negated : Form → Form
negated x = difference_of (plain_form 0) x

-- -x - 1
abbrev pub inverted : Form → Form
inverted x = difference_of (negated x) (plain_form 1)

-- the low bits of a form are those of its c, at every pair: a mask may keep some of them alone, or drop some of them
abbrev pub masked : Form → ℕ → Result Form Why
masked x m =
    cond (is_plain x || nat_lt m GRID)
    (Ok (plain_form (bit_and x.c m)))
    (cond (nat_lt (2 ^ 64 - 1 - m) GRID) (Ok (normal x.a x.b (bit_and x.c m))) (Err Mask))

-- bits are set or turned over where they are low, or where the form is plain
abbrev pub or_low_of : Form → ℕ → Result Form Why
or_low_of x m = cond (is_plain x || nat_lt m GRID) (Ok (normal x.a x.b (bit_or x.c m))) (Err Mask)

abbrev pub xor_low_of : Form → ℕ → Result Form Why
xor_low_of x m = cond (is_plain x || nat_lt m GRID) (Ok (normal x.a x.b (bit_xor x.c m))) (Err Mask)

-- is a number an allowed data base, or an allowed code base
abbrev pub is_data_base : ℕ → Bool
is_data_base d = nat_le data_least d && nat_le d data_most && (d % GRID == 0)

abbrev pub is_code_base : ℕ → Bool
is_code_base k = nat_le code_least k && nat_le k code_most && (k % GRID == 0)

-- the sort of a form in a region of this size; the address of its end is data too
abbrev pub sort_of : (size : ℕ) → Form → Sort
sort_of size x =
    cond (is_plain x) (Plain x.c)
    (cond ((x.a == 1) && (x.b == 0) && nat_le x.c size) (Data x.c)
    (cond ((x.a == 0) && (x.b == 1) && nat_lt x.c code_bound) (Code x.c) Mixed))

-- the answers differ at these two pairs
abbrev pub undecided : {A : Type 0} → (d1 k1 d2 k2 : ℕ) → Result A Why
undecided d1 k1 d2 k2 = Err (Undecided (record { d = d1; k = k1 }) (record { d = d2; k = k2 }))

-- data against a plain number: equal where the data base is their difference, if it may be that
abbrev pub equal_data : (c n : ℕ) → Result Bool Why
equal_data c n = cond (is_data_base (n - c)) (undecided (n - c) code_least (cond (n - c == data_least) data_most data_least) code_least) (Ok false)

-- code against a plain number, in the same way
abbrev pub equal_code : (c n : ℕ) → Result Bool Why
equal_code c n = cond (is_code_base (n - c)) (undecided data_least (n - c) data_least (cond (n - c == code_least) code_most code_least)) (Ok false)

-- forms with other a and b, whose low bits agree
abbrev pub equal_sorts : Sort → Sort → Result Bool Why
equal_sorts (Data c) (Code d) = Ok false
equal_sorts (Code c) (Data d) = Ok false
equal_sorts (Data c) (Plain n) = equal_data c n
equal_sorts (Plain n) (Data c) = equal_data c n
equal_sorts (Code c) (Plain n) = equal_code c n
equal_sorts (Plain n) (Code c) = equal_code c n
equal_sorts x y = Err Far

-- are two forms equal: by their c, by their low bits, and else by what sorts they are of
abbrev pub equal_of : (size : ℕ) → Form → Form → Result Bool Why
equal_of size x y =
    cond ((x.a == y.a) && (x.b == y.b)) (Ok (x.c == y.c))
    (cond (x.c % GRID == y.c % GRID) (equal_sorts (sort_of size x) (sort_of size y)) (Ok false))

-- an answer at the least bases and one at the greatest: between them are all others
abbrev pub at_ends : (least most : Bool) → Result Bool Why
at_ends true true = Ok true
at_ends false false = Ok false
at_ends true false = undecided data_least code_least data_most code_most
at_ends false true = undecided data_least code_least data_most code_most

-- the order of two sorts: addresses in the region stand below those near the code table
abbrev pub less_sorts : Test → Sort → Sort → Result Bool Why
less_sorts test (Plain m) (Plain n) = Ok (plain_test test m n)
less_sorts test (Data c) (Data d) = Ok (nat_lt c d)
less_sorts test (Code c) (Code d) = Ok (nat_lt c d)
less_sorts test (Data c) (Code d) = Ok true
less_sorts test (Code c) (Data d) = Ok false
less_sorts test (Data c) (Plain n) = at_ends (plain_test test (wrapped (data_least + c)) n) (plain_test test (wrapped (data_most + c)) n)
less_sorts test (Code c) (Plain n) = at_ends (plain_test test (wrapped (code_least + c)) n) (plain_test test (wrapped (code_most + c)) n)
less_sorts test (Plain n) (Data c) = at_ends (plain_test test n (wrapped (data_least + c))) (plain_test test n (wrapped (data_most + c)))
less_sorts test (Plain n) (Code c) = at_ends (plain_test test n (wrapped (code_least + c))) (plain_test test n (wrapped (code_most + c)))
less_sorts test x y = Err Far

-- the order of two forms
abbrev pub less_of : Test → (size : ℕ) → Form → Form → Result Bool Why
less_of test size x y = less_sorts test (sort_of size x) (sort_of size y)

-- the greatest base that is at most n, of those up to this one
abbrev pub base_up_to : (most n : ℕ) → ℕ
base_up_to most n = min (n - n % GRID) most

-- the place of a plain number: some bases make an address of it, and others don't
abbrev pub place_of_plain : (size n : ℕ) → Result (Option ℕ) Why
place_of_plain size n =
    cond (nat_lt n data_least || nat_lt (data_most + size) n) (Ok None)
    (undecided (base_up_to data_most n) code_least (cond (nat_lt size (n - data_least)) data_least data_most) code_least)

-- the offset that a form has as an address in the region
abbrev pub place_of : (size : ℕ) → Form → Result (Option ℕ) Why
place_of size x =
    cond (is_plain x) (place_of_plain size x.c)
    (cond ((x.a == 1) && (x.b == 0)) (Ok (cond (nat_le x.c size) (Some x.c) None))
    (cond ((x.a == 0) && (x.b == 1) && nat_lt x.c code_bound) (Ok None) (Err Far)))

-- the tag whose code stands at an offset of the code table
abbrev pub tag_at : ℕ → Option ℕ
tag_at o = cond (nat_lt o 1920 && (o % 16 == 0)) (Some (o / 16)) None

-- the tag of a plain number: at the greatest code base up to it, it may be the address of a tag's code, and at another
-- base it isn't
abbrev pub tag_of_plain : ℕ → Result (Option ℕ) Why
tag_of_plain n =
    let base = base_up_to code_most n in
    cond (nat_le code_least n && nat_lt (n - base) 1920 && ((n - base) % 16 == 0))
    (undecided data_least base data_least (cond (nat_lt (n - code_least) 1920) code_most code_least))
    (Ok None)

-- the tag whose code stands at a form
abbrev pub tag_of : (size : ℕ) → Form → Result (Option ℕ) Why
tag_of size x =
    cond (is_plain x) (tag_of_plain x.c)
    (cond ((x.a == 0) && (x.b == 1)) (Ok (tag_at x.c))
    (cond ((x.a == 1) && (x.b == 0) && nat_le x.c size) (Ok None) (Err Far)))
