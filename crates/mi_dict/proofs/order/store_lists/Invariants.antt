use Rattle.std.proofs.Common.{◌≡◌, ◌≤◌, ◌-◌, []}
use Rattle.mi_model.specs.Outcome.{outcome_of}
use Rattle.mi_model.specs.SearchOrder as actions
use Rattle.mi_dict.proofs.order.store_lists.Given as goal

abbrev pub invariant-lists : goal.invariant-lists
invariant-lists g l =
    let ops = g.A.Arith.ops l.fn.state.arith in
    record {
      within : l.i ≤ l.fn.count;
      arith : l.state.arith ≡ l.fn.state.arith;
      stack : l.state.machine.stack ≡ l.fn.state.machine.stack;
      same : outcome_of ops (actions.store_lists (l.fn.count - l.i) l.i) l.state.machine [] ≡ outcome_of ops (actions.store_lists l.fn.count 0) l.fn.state.machine [];
    }

abbrev pub decreases-lists : goal.decreases-lists
decreases-lists g l = l.fn.count - l.i
