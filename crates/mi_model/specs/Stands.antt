-- What it is that one machine stands for another.
use Rattle.std.specs.Prelude.{ℕ, ℤ, ◌≡◌, Bool, Option, None, Some, Result, Ok, Err, List, [], ◌∷◌}
use Rattle.mi_model.specs.declared.Fault.{Fault}
use Rattle.mi_model.specs.declared.Fault.TheVariants.{Throw, Refused}
use Rattle.mi_model.specs.declared.Refusal.{Refusal}
use Rattle.mi_model.specs.declared.Form.{Form}
use Rattle.mi_model.specs.declared.Why.{Why}
use Rattle.mi_model.specs.declared.Eight.{Eight}
use Rattle.mi_model.specs.declared.Wait.{Wait}
use Rattle.mi_model.specs.declared.Wait.TheVariants.{Idle, Line, Refill, Accept}
use Rattle.mi_model.specs.declared.DivFault.{DivFault}
use Rattle.mi_model.specs.Ops.{Ops, Two, One, Test, Division}
use Rattle.mi_model.specs.Machine.{Machine}

-- each member stands for the one at its place
pub data Each {X Y : Type 0} (R : X → Y → Type 0) : List X → List Y → Type 0 where
  none : Each R [] []
  more : {x : X} {y : Y} {xs : List X} {ys : List Y} → R x y → Each R xs ys → Each R (x ∷ xs) (y ∷ ys)

pub data OptionStands {X Y : Type 0} (R : X → Y → Type 0) : Option X → Option Y → Type 0 where
  nothing : OptionStands R None None
  something : {x : X} {y : Y} → R x y → OptionStands R (Some x) (Some y)

pub data WaitStands {X Y : Type 0} (R : X → Y → Type 0) : Wait X → Wait Y → Type 0 where
  idle : WaitStands R Idle Idle
  line : WaitStands R Line Line
  refill : WaitStands R Refill Refill
  accept : {x : X} {y : Y} (n : ℕ) → R x y → WaitStands R (Accept x n) (Accept y n)

-- an answer of an arithmetic, if there is one, stands for the other answer
pub data AnswerStands {X Y : Type 0} (R : X → Y → Type 0) : Result X Refusal → Result Y Refusal → Type 0 where
  given : {x : X} {y : Y} → R x y → AnswerStands R (Ok x) (Ok y)
  withheld : (e : Refusal) (r : Result Y Refusal) → AnswerStands R (Err e) r

-- two cells stand for two
abbrev pub PairStands : {C D : Type 0} (cell : C → D → Type 0) → C × C → D × D → Type 0
PairStands cell p q = cell p.0 q.0 × cell p.1 q.1

-- a division's answer stands for another: the same fault, or cells that stand
pub data DivisionStands {C D : Type 0} (cell : C → D → Type 0) : Result (C × C) DivFault → Result (D × D) DivFault → Type 0 where
  divided : {p : C × C} {q : D × D} → PairStands cell p q → DivisionStands cell (Ok p) (Ok q)
  undivided : (e : DivFault) → DivisionStands cell (Err e) (Err e)

-- eight bytes stand for eight
pub record EightStands {B E : Type 0} (byte : B → E → Type 0) (b : Eight B) (e : Eight E) : Type 0 where
  pub s0 : byte b.b0 e.b0
  pub s1 : byte b.b1 e.b1
  pub s2 : byte b.b2 e.b2
  pub s3 : byte b.b3 e.b3
  pub s4 : byte b.b4 e.b4
  pub s5 : byte b.b5 e.b5
  pub s6 : byte b.b6 e.b6
  pub s7 : byte b.b7 e.b7

-- each operation of one arithmetic, if it answers, stands for that of the other
pub record Simulates {C B D E : Type 0} (cell : C → D → Type 0) (byte : B → E → Type 0) (O : Ops C B) (P : Ops D E) : Type 0 where
  pub plain : (n : ℕ) → cell (O.plain n) (P.plain n)
  pub region_cell : (n : ℕ) → cell (O.region_cell n) (P.region_cell n)
  pub code_cell : (n : ℕ) → cell (O.code_cell n) (P.code_cell n)
  pub two : (op : Two) (a b : C) (x y : D) → cell a x → cell b y → AnswerStands cell (O.two op a b) (P.two op x y)
  pub one : (op : One) (a : C) (x : D) → cell a x → AnswerStands cell (O.one op a) (P.one op x)
  pub test : (op : Test) (a b : C) (x y : D) → cell a x → cell b y → AnswerStands (λ (s t : Bool). s ≡ t) (O.test op a b) (P.test op x y)
  pub product : (a b : C) (x y : D) → cell a x → cell b y → AnswerStands (PairStands cell) (O.product a b) (P.product x y)
  pub divide : (division : Division) (a b c : C) (x y z : D) → cell a x → cell b y → cell c z → AnswerStands (DivisionStands cell) (O.divide division a b c) (P.divide division x y z)
  pub place : (a : C) (x : D) → cell a x → AnswerStands (λ (s t : Option ℕ). s ≡ t) (O.place a) (P.place x)
  pub tag : (a : C) (x : D) → cell a x → AnswerStands (λ (s t : Option ℕ). s ≡ t) (O.tag a) (P.tag x)
  pub number : (a : C) (x : D) → cell a x → AnswerStands (λ (s t : ℕ). s ≡ t) (O.number a) (P.number x)
  pub low_byte : (a : C) (x : D) → cell a x → AnswerStands (λ (s t : ℕ). s ≡ t) (O.low_byte a) (P.low_byte x)
  pub byte_of : (n : ℕ) → byte (O.byte n) (P.byte n)
  pub cut : (i : ℕ) (a : C) (x : D) → cell a x → byte (O.cut a i) (P.cut x i)
  pub value : (a : B) (x : E) → byte a x → AnswerStands (λ (s t : ℕ). s ≡ t) (O.value a) (P.value x)
  pub join : (a : Eight B) (x : Eight E) → EightStands byte a x → AnswerStands cell (O.join a) (P.join x)

-- each part of a machine stands for that part
pub record MachineStands {C B D E : Type 0} (cell : C → D → Type 0) (byte : B → E → Type 0) (m : Machine C B) (n : Machine D E) : Type 0 where
  pub bytes : Each byte m.bytes n.bytes
  pub stack : Each cell m.stack n.stack
  pub rstack : Each cell m.rstack n.rstack
  pub ip : cell m.ip n.ip
  pub due : OptionStands cell m.due n.due
  pub wait : WaitStands cell m.wait n.wait

-- An outcome stands for another: answers of which R holds, or the same throw; nothing is said where it is refused.
pub data Agrees {X Y : Type 0} (R : X → Y → Type 0) : Result X Fault → Result Y Fault → Type 0 where
  both : {x : X} {y : Y} → R x y → Agrees R (Ok x) (Ok y)
  thrown : (code : ℤ) → Agrees R (Err (Throw code)) (Err (Throw code))
  refused : (a b : Form) (why : Why) (s : Result Y Fault) → Agrees R (Err (Refused a b why)) s

-- the same answer, and machines of which one stands for the other
pub record OutcomeStands {X C B D E : Type 0} (cell : C → D → Type 0) (byte : B → E → Type 0) (r : X × Machine C B) (s : X × Machine D E) : Type 0 where
  pub answer : r.0 ≡ s.0
  pub machine : MachineStands cell byte r.1 s.1
