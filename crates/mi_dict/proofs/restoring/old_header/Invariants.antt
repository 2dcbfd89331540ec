use Rattle.std.proofs.Common.{◌≡◌, ◌≤◌, ◌+◌, ◌/◌, length, [], ◌∷◌}
use Rattle.mi_model.specs.Outcome.{outcome_of}
use Rattle.mi_model.specs.Markers as actions
use Rattle.mi_dict.proofs.restoring.old_header.Given as goal

abbrev pub invariant-headers : goal.invariant-headers
invariant-headers g l =
    let ops = g.A.Arith.ops l.fn.state.arith in
    record {
      in_range : l.place + 8 ≤ length l.fn.state.machine.bytes;
      same : outcome_of ops (actions.old_header l.left l.place) l.fn.state.machine (l.fn.old ∷ []) ≡ outcome_of ops (actions.old_header (length l.fn.state.machine.bytes / 64) l.fn.head) l.fn.state.machine (l.fn.old ∷ []);
    }

abbrev pub decreases-headers : goal.decreases-headers
decreases-headers g l = l.left
