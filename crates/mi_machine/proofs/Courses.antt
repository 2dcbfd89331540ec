-- One instruction more of a course.
use Rattle.std.proofs.Common.{◌≡◌, ℕ, suc, ◌+◌, ◌-◌, ◌<◌, [], refl, arith}
use Rattle.mi_model.specs.declared.Token.{Token}
use Rattle.mi_model.specs.Ops.{Ops}
use Rattle.mi_model.specs.Outcome.{outcome_of}
use Rattle.mi_model.specs.Kernel.{whole_kernel}
use Rattle.mi_model.specs.Table.{step}
use Rattle.mi_model.specs.Tokens.{token_of, last_token}
use Rattle.mi_region.specs.View.{StateView, leading}
use Rattle.mi_machine.specs.Engine.{course_of, course_by}

pub course_next : {A C B : Type 0} (ops : Ops C B) (turns taken : ℕ) (s : StateView A C B) (last : Token) → taken < turns
    → course_of ops (turns - taken) taken s last
    ≡ course_by (λ t u l. course_of ops (turns - (taken + 1)) t u l) taken s (last_token last (token_of ops s.machine)) (leading s (outcome_of ops (step whole_kernel) s.machine []))
course_next ops turns taken s last h = let e : turns - taken ≡ suc (turns - (taken + 1)) = omega arith in rw e refl
