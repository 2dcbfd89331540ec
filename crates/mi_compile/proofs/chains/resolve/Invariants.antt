use Rattle.std.proofs.Common.{◌≡◌, length, [], ◌∷◌}
use Rattle.mi_model.specs.Outcome.{outcome_of}
use Rattle.mi_model.specs.Chains as actions
use Rattle.mi_compile.proofs.chains.resolve.Given as goal

abbrev pub invariant-members : goal.invariant-members
invariant-members g l =
    let ops = g.A.Arith.ops l.fn.state.arith in
    record {
      arith : l.state.arith ≡ l.fn.state.arith;
      size : length l.state.machine.bytes ≡ length l.fn.state.machine.bytes;
      stack : l.state.machine.stack ≡ l.fn.state.machine.stack;
      same : outcome_of ops (actions.resolve l.left) l.state.machine (l.member ∷ (l.fn.target ∷ [])) ≡ outcome_of ops (actions.resolve l.fn.count) l.fn.state.machine (l.fn.chain ∷ (l.fn.target ∷ []));
    }

abbrev pub decreases-members : goal.decreases-members
decreases-members g l = l.left
