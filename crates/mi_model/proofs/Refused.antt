-- Where an action is refused for another reason than a byte, the last operation that it does is the one that is refused.
use Rattle.std.proofs.Common.{ℤ, ℕ, ◌≡◌, ◌+◌, ◌-◌, ◌%◌, ◌==◌, Bool, true, false, cond, nat_le, nat_lt, List, [], ◌∷◌, ◌++◌, Option, None, Some, Result, Ok, Err, length, refl, sym, ◌∙◌, ap, subst, append_assoc, append-nil}
use Rattle.mi_model.specs.declared.Fault.{Fault}
use Rattle.mi_model.specs.declared.Fault.TheVariants.{Throw, Refused, NoMemory}
use Rattle.mi_model.specs.declared.Refusal.{Refusal}
use Rattle.mi_model.specs.declared.Form.{Form}
use Rattle.mi_model.specs.declared.Why.{Why}
use Rattle.mi_model.specs.declared.Why.TheVariants.{Byte}
use Rattle.mi_model.specs.declared.Wait.{Wait}
use Rattle.mi_model.specs.declared.Wait.TheVariants.{Idle, Line, Refill, Accept}
use Rattle.mi_model.specs.declared.DivFault.{DivFault}
use Rattle.mi_model.specs.declared.DivFault.TheVariants.{ByZero, OutOfRange}
use Rattle.mi_model.specs.Ops.{Ops, Division}
use Rattle.mi_model.specs.Machine.{Machine, after, asked, unless_throw, or_throw, quotient_or_throw, stack_underflow, return_underflow, stack_overflow, return_overflow, invalid_address, misaligned}
use Rattle.mi_model.specs.Region.{offset_of, cell_at, byte_at, range_at, fetch_at, fetch, fetch_byte, get, tests}
use Rattle.mi_model.specs.Action.{Operand, Question, AnswerKind, Action}
use Rattle.mi_model.specs.Action.Operand.{Named, At, Ip, Plain, Address, CodeAddress, Of}
use Rattle.mi_model.specs.Action.Question.{Offset, CellAt, ByteAt, Number, LowByte, ByteOf, RangeOf}
use Rattle.mi_model.specs.Action.Action.{Give, Throws, Needs, Takes, Drop, Push, RPush, Depth, Size, Item, RItem, Name, Single, Product, Divide, Check, Ask, Tag, Fetch, FetchByteAt, PutCell, PutByte, Move, Fill, PutText, Empty, EmptyReturn, SetIp, TakeDue, SetDue, SetWait, TakeWait, Call, Again}
use Rattle.mi_model.specs.Outcome.{cell_of, cells_of, wait_of, answer_to, division_of, take_due, outcome_of}
use Rattle.mi_model.specs.Met.{Operation, then_met, met_in, met_ins, met_wait, met_asking, operations_met}
use Rattle.mi_model.specs.Met.Operation.{OnTwo, OnOne, OnTest, OnProduct, OnDivide, OnPlace, OnTag, OnNumber}
use Rattle.mi_model.specs.Refusals.{refusal_in, refusal_of, EndsRefused, RefusesBytes}

-- an answer, a throw, or a refusal for the reason Byte
data Quiet {X : Type 0} : Result X Fault → Type 0 where
  quiet_answer : (x : X) → Quiet (Ok x)
  quiet_throw : (code : ℤ) → Quiet (Err (Throw code))
  quiet_memory : Quiet (Err NoMemory)
  quiet_byte : (a b : Form) → Quiet (Err (Refused a b Byte))

-- where it is refused otherwise, the last of these operations is the one
pub data Traced {C B : Type 0} (ops : Ops C B) (xs : List (Operation C)) {X : Type 0} : Result X Fault → Type 0 where
  answered : (x : X) → Traced ops xs (Ok x)
  thrown : (code : ℤ) → Traced ops xs (Err (Throw code))
  no_memory : Traced ops xs (Err NoMemory)
  of_byte : (a b : Form) → Traced ops xs (Err (Refused a b Byte))
  refused_last : (e : Refusal) → EndsRefused ops xs e → Traced ops xs (Err (Refused e.first e.second e.why))

quiet_after : {X Y : Type 0} {r : Result X Fault} (f : X → Result Y Fault) → Quiet r → ((x : X) → Quiet (f x)) → Quiet (after r f)
quiet_after f (quiet_answer x) k = k x
quiet_after f (quiet_throw code) k = quiet_throw code
quiet_after f quiet_memory k = quiet_memory
quiet_after f (quiet_byte a b) k = quiet_byte a b

quiet_if : {X : Type 0} (b : Bool) (r s : Result X Fault) → Quiet r → Quiet s → Quiet (cond b r s)
quiet_if true r s h k = h
quiet_if false r s h k = k

quiet_unless : (b : Bool) (code : ℤ) → Quiet (unless_throw b code)
quiet_unless true code = quiet_answer tt
quiet_unless false code = quiet_throw code

quiet_or_throw : {X : Type 0} (o : Option X) (code : ℤ) → Quiet (or_throw o code)
quiet_or_throw (Some x) code = quiet_answer x
quiet_or_throw None code = quiet_throw code

quiet_division : {C : Type 0} (r : Result (C × C) DivFault) → Quiet (quotient_or_throw r)
quiet_division (Ok p) = quiet_answer p
quiet_division (Err ByZero) = quiet_throw _
quiet_division (Err OutOfRange) = quiet_throw _

quiet_tests : {C B : Type 0} (i o ri ro : ℕ) (m : Machine C B) → Quiet (tests i o ri ro m)
unfolding tests
quiet_tests i o ri ro m =
    quiet_if (nat_lt (length m.stack) i) _ _ (quiet_throw stack_underflow)
    (quiet_if (nat_lt (length m.rstack) ri) _ _ (quiet_throw return_underflow)
    (quiet_if (nat_lt 4096 ((length m.stack - i) + o)) _ _ (quiet_throw stack_overflow)
    (quiet_if (nat_lt 4096 ((length m.rstack - ri) + ro)) _ _ (quiet_throw return_overflow) (quiet_answer tt))))

-- what an arithmetic refuses for the reason Byte alone
quiet_asked : {X : Type 0} (r : Result X Refusal) → ((e : Refusal) → r ≡ Err e → e.why ≡ Byte) → Quiet (asked r)
quiet_asked (Ok x) h = quiet_answer x
quiet_asked (Err e) h = rw (h e refl) (quiet_byte e.first e.second)

module _ {C B : Type 0} (O : Ops C B) (laws : RefusesBytes O) where
  traced : {X : Type 0} (xs : List (Operation C)) {r : Result X Fault} → Quiet r → Traced O xs r
  traced xs (quiet_answer x) = answered x
  traced xs (quiet_throw code) = thrown code
  traced xs quiet_memory = no_memory
  traced xs (quiet_byte a b) = of_byte a b

  in_front : {X : Type 0} (xs : List (Operation C)) {ys : List (Operation C)} {r : Result X Fault} → Traced O ys r → Traced O (xs ++ ys) r
  in_front xs (answered x) = answered x
  in_front xs (thrown code) = thrown code
  in_front xs no_memory = no_memory
  in_front xs (of_byte a b) = of_byte a b
  in_front xs (refused_last e h) = refused_last e (record { front = xs ++ h.front; last = h.last; ends = ap (λ (zs : List (Operation C)). xs ++ zs) h.ends ∙ sym (append_assoc xs h.front (h.last ∷ [])); refused = h.refused })

  traced_then : {X Y : Type 0} (xs : List (Operation C)) {r : Result X Fault} (f : X → List (Operation C)) (F : X → Result Y Fault) → Traced O xs r → ((x : X) → Traced O (f x) (F x)) → Traced O (xs ++ then_met r f) (after r F)
  traced_then xs f F (answered x) k = in_front xs (k x)
  traced_then xs f F (thrown code) k = thrown code
  traced_then xs f F no_memory k = no_memory
  traced_then xs f F (of_byte a b) k = of_byte a b
  traced_then xs f F (refused_last e h) k = refused_last e (record { front = h.front; last = h.last; ends = append-nil xs ∙ h.ends; refused = h.refused })

  -- what follows meets nothing and is refused nothing
  traced_after : {X Y : Type 0} {xs : List (Operation C)} {r : Result X Fault} (F : X → Result Y Fault) → Traced O xs r → ((x : X) → Quiet (F x)) → Traced O xs (after r F)
  traced_after F (answered x) k = traced _ (k x)
  traced_after F (thrown code) k = thrown code
  traced_after F no_memory k = no_memory
  traced_after F (of_byte a b) k = of_byte a b
  traced_after F (refused_last e h) k = refused_last e h

  traced_asked : {X : Type 0} (x : Operation C) (r : Result X Refusal) → refusal_of O x ≡ refusal_in r → Traced O (x ∷ []) (asked r)
  traced_asked x (Ok v) h = answered v
  traced_asked x (Err e) h = refused_last e (record { front = []; last = x; ends = refl; refused = h })

  traced_if : {X : Type 0} (b : Bool) (xs ys : List (Operation C)) (r s : Result X Fault) → Traced O xs r → Traced O ys s → Traced O (cond b xs ys) (cond b r s)
  traced_if true xs ys r s h k = h
  traced_if false xs ys r s h k = k

  -- places and what is read there
  traced_offset : (a : C) → Traced O (OnPlace a ∷ []) (offset_of O a)
  traced_offset a = traced_after _ (traced_asked (OnPlace a) (O.place a) refl) (λ found. quiet_or_throw found _)

  traced_cell_at : (bytes : List B) (a : C) → Traced O (OnPlace a ∷ []) (cell_at O bytes a)
  unfolding cell_at
  traced_cell_at bytes a = traced_after _ (traced_offset a) (λ o. quiet_after _ (quiet_unless (nat_le (o + 8) (length bytes)) invalid_address) (λ _. quiet_after _ (quiet_unless (o % 8 == 0) misaligned) (λ _. quiet_answer o)))

  traced_byte_at : (bytes : List B) (a : C) → Traced O (OnPlace a ∷ []) (byte_at O bytes a)
  unfolding byte_at
  traced_byte_at bytes a = traced_after _ (traced_offset a) (λ o. quiet_after _ (quiet_unless _ _) (λ _. quiet_answer o))

  traced_range_at : (bytes : List B) (n : ℕ) (a : C) → Traced O (met_asking (RangeOf n) a) (range_at O bytes n a)
  unfolding range_at
  traced_range_at bytes n a = traced_if (n == 0) _ _ _ _ (answered 0) (traced_after _ (traced_offset a) (λ o. quiet_after _ (quiet_unless _ _) (λ _. quiet_answer o)))

  quiet_fetch_at : (bytes : List B) (o : ℕ) → Quiet (fetch_at O bytes o)
  unfolding fetch_at
  quiet_fetch_at bytes o = quiet_asked _ (laws.join _)

  traced_fetch : (bytes : List B) (a : C) → Traced O (OnPlace a ∷ []) (fetch O bytes a)
  unfolding fetch
  traced_fetch bytes a = traced_after _ (traced_cell_at bytes a) (λ o. quiet_fetch_at bytes o)

  traced_fetch_byte : (bytes : List B) (a : C) → Traced O (OnPlace a ∷ []) (fetch_byte O bytes a)
  unfolding fetch_byte
  traced_fetch_byte bytes a = traced_after _ (traced_byte_at bytes a) (λ o. quiet_asked _ (laws.value _))

  traced_asking : (q : Question) (bytes : List B) (a : C) → Traced O (met_asking q a) (answer_to O bytes q a)
  traced_asking Offset bytes a = traced_offset a
  traced_asking CellAt bytes a = traced_cell_at bytes a
  traced_asking ByteAt bytes a = traced_byte_at bytes a
  traced_asking (RangeOf n) bytes a = traced_range_at bytes n a
  traced_asking Number bytes a = traced_asked (OnNumber a) (O.number a) refl
  traced_asking LowByte bytes a = traced _ (quiet_asked _ (laws.low_byte a))
  traced_asking ByteOf bytes a = traced_fetch_byte bytes a

  traced_division : (division : Division) (a b c : C) → Traced O (OnDivide division a b c ∷ []) (division_of O division a b c)
  traced_division division a b c = traced_after _ (traced_asked (OnDivide division a b c) (O.divide division a b c) refl) (λ answer. quiet_division answer)

  -- operands
  traced_in : (x : Operand) (m : Machine C B) (names : List C) → Traced O (met_in O m names x) (cell_of O m names x)
  traced_in (Named i) m names = answered _
  traced_in (At o) m names = traced _ (quiet_fetch_at m.bytes o)
  traced_in Ip m names = answered _
  traced_in (Plain k) m names = answered _
  traced_in (Address o) m names = answered _
  traced_in (CodeAddress t) m names = answered _
  traced_in (Of op x y) m names = traced_then _ _ _ (traced_in x m names) (λ a. traced_then _ _ _ (traced_in y m names) (λ b. traced_asked (OnTwo op a b) (O.two op a b) refl))

  traced_ins : (xs : List Operand) (m : Machine C B) (names : List C) → Traced O (met_ins O m names xs) (cells_of O m names xs)
  traced_ins [] m names = answered _
  traced_ins (x ∷ xs) m names = traced_then _ _ _ (traced_in x m names) (λ a. traced_after _ (traced_ins xs m names) (λ cs. quiet_answer _))

  traced_wait : (w : Wait Operand) (m : Machine C B) (names : List C) → Traced O (met_wait O m names w) (wait_of O m names w)
  traced_wait Idle m names = answered _
  traced_wait Line m names = answered _
  traced_wait Refill m names = answered _
  traced_wait (Accept x n) m names = traced_after _ (traced_in x m names) (λ a. quiet_answer _)

  traced_due : {X : Type 0} (c : Option C) (x : List (Operation C)) (f : C → List (Operation C)) (u : Result X Fault) (F : C → Result X Fault) → Traced O x u → ((a : C) → Traced O (f a) (F a)) → Traced O (take_due c x f) (take_due c u F)
  traced_due None x f u F h k = h
  traced_due (Some a) x f u F h k = k a

  -- where an action is refused
  pub refused_action : {i : AnswerKind} (action : Action i) (m : Machine C B) (names : List C) → Traced O (operations_met O action m names) (outcome_of O action m names)
  refused_action (Give x) m names = answered _
  refused_action (Throws c) m names = thrown c
  refused_action (Needs i u ri ru k) m names = traced_then [] _ _ (traced [] (quiet_tests i u ri ru m)) (λ _. refused_action k m names)
  refused_action (Takes i u ri ru k) m names = traced_then [] _ _ (traced [] (quiet_tests i u ri ru m)) (λ _. refused_action (k _) m _)
  refused_action (Drop u ru k) m names = refused_action k _ names
  refused_action (Push x k) m names = traced_then _ _ _ (traced_in x m names) (λ a. refused_action k _ names)
  refused_action (RPush x k) m names = traced_then _ _ _ (traced_in x m names) (λ a. refused_action k _ names)
  refused_action (Depth k) m names = refused_action (k _) m names
  refused_action (Size k) m names = refused_action (k _) m names
  refused_action (Item i k) m names = refused_action (k _) m _
  refused_action (RItem i k) m names = refused_action (k _) m _
  refused_action (Name x k) m names = traced_then _ _ _ (traced_in x m names) (λ a. refused_action (k _) m _)
  refused_action (Single op x k) m names = traced_then _ _ _ (traced_in x m names) (λ a. traced_then _ _ _ (traced_asked (OnOne op a) (O.one op a) refl) (λ c. refused_action (k _) m _))
  refused_action (Product x y k) m names = traced_then _ _ _ (traced_in x m names) (λ a. traced_then _ _ _ (traced_in y m names) (λ b. traced_then _ _ _ (traced_asked (OnProduct a b) (O.product a b) refl) (λ p. refused_action (k _ _) m _)))
  refused_action (Divide division x y z k) m names = traced_then _ _ _ (traced_in x m names) (λ a. traced_then _ _ _ (traced_in y m names) (λ b. traced_then _ _ _ (traced_in z m names) (λ c.
      traced_then _ _ _ (traced_division division a b c) (λ p. refused_action (k _ _) m _))))
  refused_action (Check op x y k) m names = traced_then _ _ _ (traced_in x m names) (λ a. traced_then _ _ _ (traced_in y m names) (λ b. traced_then _ _ _ (traced_asked (OnTest op a b) (O.test op a b) refl) (λ t. refused_action (k t) m names)))
  refused_action (Ask q x k) m names = traced_then _ _ _ (traced_in x m names) (λ a. traced_then _ _ _ (traced_asking q m.bytes a) (λ n. refused_action (k n) m names))
  refused_action (Tag x k) m names = traced_then _ _ _ (traced_in x m names) (λ a. traced_then _ _ _ (traced_asked (OnTag a) (O.tag a) refl) (λ t. refused_action (k t) m names))
  refused_action (Fetch x k) m names = traced_then _ _ _ (traced_in x m names) (λ a. traced_then _ _ _ (traced_fetch m.bytes a) (λ c. refused_action (k _) m _))
  refused_action (FetchByteAt o k) m names = traced_then [] _ _ (traced [] (quiet_asked _ (laws.value _))) (λ n. refused_action (k n) m names)
  refused_action (PutCell o x k) m names = traced_then _ _ _ (traced_in x m names) (λ a. refused_action k _ names)
  refused_action (PutByte o b k) m names = refused_action k _ names
  refused_action (Move from to n k) m names = refused_action k _ names
  refused_action (Fill o n b k) m names = refused_action k _ names
  refused_action (PutText o text k) m names = refused_action k _ names
  refused_action (Empty k) m names = refused_action k _ names
  refused_action (EmptyReturn k) m names = refused_action k _ names
  refused_action (SetIp x k) m names = traced_then _ _ _ (traced_in x m names) (λ a. refused_action k _ names)
  refused_action (TakeDue k) m names = traced_due m.due _ _ _ _ (refused_action (k None) m names) (λ c. refused_action (k (Some _)) _ _)
  refused_action (SetDue x k) m names = traced_then _ _ _ (traced_in x m names) (λ a. refused_action k _ names)
  refused_action (SetWait w k) m names = traced_then _ _ _ (traced_wait w m names) (λ x. refused_action k _ names)
  refused_action (TakeWait k) m names = refused_action (k _) _ _
  refused_action (Call part xs k) m names = traced_then _ _ _ (traced_ins xs m names) (λ cs. traced_then _ _ _ (refused_action part m cs) (λ r. refused_action (k r.0) r.1 names))
  refused_action (Again xs k) m names = traced_then _ _ _ (traced_ins xs m names) (λ cs. refused_action k m cs)
