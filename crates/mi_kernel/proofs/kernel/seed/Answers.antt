use Rattle.mi_model.specs.Kernel.{whole_kernel}
use Rattle.mi_kernel.proofs.Walks.{seed_parts}
use Rattle.mi_kernel.proofs.kernel.seed.Goals as goal

pub returns-clause-action : goal.returns-clause-action
returns-clause-action g c =
    seed_parts whole_kernel g.A.Arith.ops g.A.Arith.GROWS c.seed_headers.result c.args.state.now c.seed_system.new.state c.seed_headers.new.state
    c.in_ok-seed_system.ensures.action c.seed_headers.ensures.action c.seed_headers.ensures.memory
