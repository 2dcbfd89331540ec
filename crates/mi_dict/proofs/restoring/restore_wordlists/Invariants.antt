use Rattle.std.proofs.Common.{◌≡◌, ◌/◌, length, [], ◌∷◌}
use Rattle.mi_model.specs.Outcome.{outcome_of}
use Rattle.mi_model.specs.Markers as actions
use Rattle.mi_dict.proofs.restoring.restore_wordlists.Given as goal

abbrev pub invariant-lists : goal.invariant-lists
invariant-lists g l =
    let ops = g.A.Arith.ops l.fn.state.arith in
    let headers = length l.fn.state.machine.bytes / 64 in
    record {
      arith : l.state.arith ≡ l.fn.state.arith;
      size : length l.state.machine.bytes ≡ length l.fn.state.machine.bytes;
      same : outcome_of ops (actions.restore_wordlists headers l.left) l.state.machine (l.fn.old ∷ (l.list ∷ [])) ≡ outcome_of ops (actions.restore_wordlists headers l.fn.count) l.fn.state.machine (l.fn.old ∷ (l.fn.newest ∷ []));
    }

abbrev pub decreases-lists : goal.decreases-lists
decreases-lists g l = l.left
