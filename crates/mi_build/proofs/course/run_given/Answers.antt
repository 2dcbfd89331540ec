use Rattle.std.proofs.Common.{ℕ, refl}
use Rattle.mi_model.specs.Kernel.{whole_kernel}
use Rattle.mi_model.specs.Build.{emitted_after_line}
use Rattle.mi_build.specs.Puts.{output_of}
use Rattle.mi_build.proofs.PutLemmas.{failed_emits}
use Rattle.mi_build.proofs.course.run_given.Goals as goal

pub returns-in-Err-clause-puts : goal.returns-in-Err-clause-puts
returns-in-Err-clause-puts g c =
    failed_emits ℕ _ c.in-Err.failure _ _ _ (output_of (g.O.Sink.written c.args.output.now) c.args.gathered.now) (emitted_after_line whole_kernel (g.A.Arith.ops c.args.machine.now.state.arith) c.args.at.now.left) _ _
    (λ f. refl) c.fault_of.ensures c.in-Err.ensures refl
