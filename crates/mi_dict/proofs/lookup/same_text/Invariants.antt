use Rattle.std.proofs.Common.{◌≡◌, ◌≤◌, ◌-◌, [], ◌∷◌}
use Rattle.mi_model.specs.Outcome.{outcome_of}
use Rattle.mi_model.specs.Lookup as actions
use Rattle.mi_dict.specs.Sought.{sought_of}
use Rattle.mi_dict.proofs.lookup.same_text.Given as goal

abbrev pub invariant-bytes : goal.invariant-bytes
invariant-bytes g l =
    let ops = g.A.Arith.ops l.fn.state.arith in
    let sought = sought_of l.fn.name in
    record {
      within : l.i ≤ l.fn.count;
      same : outcome_of ops (actions.same_text sought (l.fn.count - l.i) l.i) l.fn.state.machine (l.fn.header ∷ []) ≡ outcome_of ops (actions.same_text sought l.fn.count 0) l.fn.state.machine (l.fn.header ∷ []);
    }

abbrev pub decreases-bytes : goal.decreases-bytes
decreases-bytes g l = l.fn.count - l.i
