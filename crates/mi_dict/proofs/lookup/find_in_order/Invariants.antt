use Rattle.std.proofs.Common.{◌≡◌, ◌≤◌, ◌-◌, []}
use Rattle.mi_model.specs.Outcome.{outcome_of}
use Rattle.mi_model.specs.Lookup as actions
use Rattle.mi_dict.specs.Sought.{sought_of}
use Rattle.mi_dict.proofs.lookup.find_in_order.Given as goal

abbrev pub invariant-lists : goal.invariant-lists
invariant-lists g l =
    let ops = g.A.Arith.ops l.fn.state.arith in
    let sought = sought_of l.fn.name in
    record {
      within : l.i ≤ l.fn.count;
      same : outcome_of ops (actions.find_in_order (l.fn.count - l.i) l.i sought) l.fn.state.machine [] ≡ outcome_of ops (actions.find_in_order l.fn.count 0 sought) l.fn.state.machine [];
    }

abbrev pub decreases-lists : goal.decreases-lists
decreases-lists g l = l.fn.count - l.i
