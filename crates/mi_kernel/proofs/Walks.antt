-- One header more of the seed, and its two parts.
use Rattle.std.proofs.Common.{◌≡◌, ℕ, suc, ◌+◌, ◌-◌, ◌<◌, List, [], ◌∷◌, length, Result, Ok, Err, Bool, IsTrue, IfErr, refl, ap, subst, inr, ◌∙◌, arith}
use Rattle.std.proofs.Math.ListN.{set, length-set}
use Rattle.mi_model.specs.declared.Fault.{Fault}
use Rattle.mi_model.specs.declared.Fault.TheVariants.{NoMemory}
use Rattle.mi_model.specs.Ops.{Ops}
use Rattle.mi_model.specs.Machine.{Machine, after}
use Rattle.mi_model.specs.Region.{with_text}
use Rattle.mi_model.specs.Action.{Action}
use Rattle.mi_model.specs.Action.AnswerKind.{Nothing}
use Rattle.mi_model.specs.Outcome.{outcome_of}
use Rattle.mi_model.specs.Kernel.{Kernel}
use Rattle.mi_model.specs.Seed.{seed, seed_system, seed_headers, seed_one}
use Rattle.mi_region.specs.View.{StateView, Gives, leading}

pub seed_next : {C B : Type 0} (kernel : Kernel) (ops : Ops C B) (tags t : ℕ) (m : Machine C B) (names : List C) → t < tags
    → outcome_of ops (seed_headers kernel (tags - t) t) m names ≡ outcome_of ops (seed_one kernel t (seed_headers kernel (tags - (t + 1)) (t + 1))) m names
seed_next kernel ops tags t m names h = let e : tags - t ≡ suc (tags - (t + 1)) = omega arith in rw e refl

-- a text leaves the region its length
pub same_length : {C B : Type 0} (ops : Ops C B) (bytes : List B) (o : ℕ) (text : List ℕ) → length (with_text ops bytes o text) ≡ length bytes
same_length ops bytes o [] = refl
same_length ops bytes o (c ∷ cs) = same_length ops (set bytes o (ops.byte c)) (o + 1) cs ∙ length-set bytes o (ops.byte c)

-- the machine of the state that a part begins with doesn't matter
leading_over : {A C B X : Type 0} (s : StateView A C B) (m : Machine C B) (told : Result (X × Machine C B) Fault) → leading s told ≡ leading (record s { machine = m }) told
leading_over s m (Ok r) = refl
leading_over s m (Err e) = refl

abbrev state_after : {X S : Type 0} → S → Result (X × S) Fault → S
state_after s (Ok r) = r.1
state_after s (Err e) = s

-- what follows a first part goes on from the state after it
then_rest : {A C B : Type 0} (ops : A → Ops C B) (s0 s1 : StateView A C B) (rest : Action Nothing) (first : Result (Unit {0} × Machine C B) Fault)
    → leading s0 first ≡ Ok (tt, s1)
    → leading s0 (after first (λ r. outcome_of (ops s0.arith) rest r.1 [])) ≡ leading s1 (outcome_of (ops s1.arith) rest s1.machine [])
then_rest ops s0 s1 rest (Ok r) h =
    let e : record s0 { machine = r.1 } ≡ s1 = ap (λ told. state_after s1 told) h in
    subst (λ s. leading s0 (outcome_of (ops s0.arith) rest r.1 []) ≡ leading s (outcome_of (ops s.arith) rest s.machine [])) e (leading_over s0 r.1 (outcome_of (ops s0.arith) rest r.1 []))
then_rest ops s0 s1 rest (Err e) h = absurd (cc)

-- the system cells, and then the headers
pub seed_parts : {A C B : Type 0} (kernel : Kernel) (ops : A → Ops C B) (grows : Bool) (answer : Result (Unit {0}) Fault) (s0 s1 s2 : StateView A C B)
    → leading s0 (outcome_of (ops s0.arith) (seed_system kernel) s0.machine []) ≡ Ok (tt, s1)
    → Gives grows answer s1 s2 (leading s1 (outcome_of (ops s1.arith) (seed_headers kernel 120 0) s1.machine []))
    → IfErr answer (λ e. (e ≡ NoMemory) × IsTrue grows)
    → Gives grows answer s0 s2 (leading s0 (outcome_of (ops s0.arith) (seed kernel) s0.machine []))
unfolding seed
seed_parts kernel ops grows (Ok x) s0 s1 s2 h given memory = then_rest ops s0 s1 (seed_headers kernel 120 0) (outcome_of (ops s0.arith) (seed_system kernel) s0.machine []) h ∙ given
seed_parts kernel ops grows (Err e) s0 s1 s2 h given memory = inr memory
