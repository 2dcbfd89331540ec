use Rattle.std.proofs.Common.{◌≡◌, ◌+◌, ◌/◌, length, [], ◌∷◌}
use Rattle.mi_model.specs.Outcome.{outcome_of}
use Rattle.mi_model.specs.Chains as actions
use Rattle.mi_compile.proofs.chains.chain_length.Given as goal

abbrev pub invariant-members : goal.invariant-members
invariant-members g l =
    let ops = g.A.Arith.ops l.fn.state.arith in
    let cells = length l.fn.state.machine.bytes / 8 in
    record {
      most : l.counted + l.left ≡ cells;
      same : outcome_of ops (actions.count_from l.left l.counted) l.fn.state.machine (l.member ∷ []) ≡ outcome_of ops (actions.count_from cells 0) l.fn.state.machine (l.fn.chain ∷ []);
    }

abbrev pub decreases-members : goal.decreases-members
decreases-members g l = l.left
