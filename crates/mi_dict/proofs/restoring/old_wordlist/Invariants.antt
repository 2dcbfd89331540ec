use Rattle.std.proofs.Common.{◌≡◌, ◌≤◌, ◌+◌, ◌/◌, length, [], ◌∷◌}
use Rattle.mi_model.specs.Outcome.{outcome_of}
use Rattle.mi_model.specs.Markers as actions
use Rattle.mi_dict.proofs.restoring.old_wordlist.Given as goal

abbrev pub invariant-lists : goal.invariant-lists
invariant-lists g l =
    let ops = g.A.Arith.ops l.fn.state.arith in
    record {
      in_range : l.place + 8 ≤ length l.fn.state.machine.bytes;
      same : outcome_of ops (actions.old_wordlist l.left l.place) l.fn.state.machine (l.fn.old ∷ []) ≡ outcome_of ops (actions.old_wordlist (length l.fn.state.machine.bytes / 8) 256) l.fn.state.machine (l.fn.old ∷ []);
    }

abbrev pub decreases-lists : goal.decreases-lists
decreases-lists g l = l.left
