-- Origin forms: what one stands for at a pair, which are normal, and what is said of answers about them.
use Rattle.std.specs.Prelude.{ℕ, ◌≡◌, ◌≢◌, ◌<◌, ◌≤◌, ◌+◌, ◌*◌, ◌%◌, ◌^◌, Bool, ◌==◌, ◌&&◌, Result, Ok, Err}
use Rattle.mi_model.specs.declared.Pair.{Pair}
use Rattle.mi_model.specs.declared.Form.{Form}
use Rattle.mi_model.specs.declared.Why.{Why}
use Rattle.mi_model.specs.declared.Why.TheVariants.{Undecided, Far, Mask, Shift, Multiply, Divide, Byte, Count}
use Rattle.mi_model.specs.Pairs.{IsAllowedPair}
use Rattle.mi_model.specs.Plain.{wrapped}
use Rattle.mi_model.specs.declared.TheConstants.{WRAP}

-- the value of a form at a pair
abbrev pub value_at : Form → Pair → ℕ
value_at form pair = wrapped (form.a * pair.d + form.b * pair.k + form.c)

-- the parts of a normal form are as small as they can be
pub record IsNormal (form : Form) : Type 0 where
  pub a : form.a < WRAP
  pub b : form.b < WRAP
  pub c : form.c < 2 ^ 64

-- the normal form of parts
abbrev pub normal : (a b c : ℕ) → Form
normal a b c = record { a = a % WRAP; b = b % WRAP; c = wrapped c }

-- the form of a number that is the same at every pair
abbrev pub plain_form : ℕ → Form
plain_form n = record { a = 0; b = 0; c = n }

-- does neither base count in a form
abbrev pub is_plain : Form → Bool
is_plain form = (form.a == 0) && (form.b == 0)

-- the sizes that a region may have
pub record IsSize (size : ℕ) : Type 0 where
  pub least : 2 ^ 16 ≤ size
  pub most : size ≤ 2 ^ 23

-- why there is no answer: with Undecided, the plain answers at the two pairs differ
abbrev pub IsReason : {A : Type 0} → (Pair → A) → Why → Type 0
IsReason plain (Undecided first second) = IsAllowedPair first × IsAllowedPair second × (plain first ≢ plain second)
IsReason plain Far = Unit {0}
IsReason plain Mask = Unit {0}
IsReason plain Shift = Unit {0}
IsReason plain Multiply = Unit {0}
IsReason plain Divide = Unit {0}
IsReason plain Byte = Unit {0}
IsReason plain Count = Unit {0}

-- an answer is the plain answer at every allowed pair
abbrev pub Tells : {A : Type 0} → (Pair → A) → Result A Why → Type 0
Tells plain (Ok answer) = (pair : Pair) → IsAllowedPair pair → plain pair ≡ answer
Tells plain (Err why) = IsReason plain why

-- a form has this value at every allowed pair
abbrev pub HasValues : (Pair → ℕ) → Form → Type 0
HasValues plain form = (pair : Pair) → IsAllowedPair pair → value_at form pair ≡ plain pair

-- so has a form that is answered
abbrev pub TellsForm : (Pair → ℕ) → Result Form Why → Type 0
TellsForm plain (Ok form) = HasValues plain form × IsNormal form
TellsForm plain (Err why) = IsReason plain why

-- the value of a form at bases, modulo another number than 2^64
abbrev pub value_modulo : ℕ → Form → (d k : ℕ) → ℕ
value_modulo m form d k = (form.a * d + form.b * k + form.c) % m

-- the parts of a form are as small as they can be with this grid and wrap
pub record IsNormalFor (g w : ℕ) (form : Form) : Type 0 where
  pub a : form.a < w
  pub b : form.b < w
  pub c : form.c < g * w

-- forms are equal where their values are at these bases and at those that are a step of the grid further
abbrev pub AreTold : (g w d k : ℕ) → Type 0
AreTold g w d k =
    (x y : Form) → IsNormalFor g w x → IsNormalFor g w y
    → value_modulo (g * w) x d k ≡ value_modulo (g * w) y d k
    → value_modulo (g * w) x (d + g) k ≡ value_modulo (g * w) y (d + g) k
    → value_modulo (g * w) x d (k + g) ≡ value_modulo (g * w) y d (k + g)
    → x ≡ y
