use Rattle.std.proofs.Common.{◌≡◌, ◌≤◌, ◌-◌, []}
use Rattle.mi_model.specs.Outcome.{outcome_of}
use Rattle.mi_model.specs.Kernel.{whole_kernel}
use Rattle.mi_model.specs.Seed as actions
use Rattle.mi_kernel.proofs.kernel.seed_headers.Given as goal

abbrev pub invariant-tags : goal.invariant-tags
invariant-tags g l =
    let ops = g.A.Arith.ops l.initial.state.arith in
    record {
      most : l.tag ≤ l.tags;
      same_arith : l.state.arith ≡ l.initial.state.arith;
      same : outcome_of ops (actions.seed_headers whole_kernel (l.tags - l.tag) l.tag) l.state.machine [] ≡ outcome_of ops (actions.seed_headers whole_kernel l.tags 0) l.initial.state.machine [];
    }

abbrev pub decreases-tags : goal.decreases-tags
decreases-tags g l = l.tags - l.tag
