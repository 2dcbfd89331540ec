use Rattle.std.proofs.Common.{◌≡◌, ◌+◌, ◌/◌, length, [], ◌∷◌}
use Rattle.mi_model.specs.Outcome.{outcome_of}
use Rattle.mi_model.specs.Markers as actions
use Rattle.mi_dict.proofs.restoring.count_wordlists.Given as goal

abbrev pub invariant-lists : goal.invariant-lists
invariant-lists g l =
    let ops = g.A.Arith.ops l.fn.state.arith in
    let headers = length l.fn.state.machine.bytes / 64 in
    let lists = length l.fn.state.machine.bytes / 8 in
    record {
      most : l.counted + l.left ≡ lists;
      same : outcome_of ops (actions.check_wordlists headers l.left l.counted) l.fn.state.machine (l.fn.old ∷ (l.list ∷ [])) ≡ outcome_of ops (actions.check_wordlists headers lists 0) l.fn.state.machine (l.fn.old ∷ (l.fn.newest ∷ []));
    }

abbrev pub decreases-lists : goal.decreases-lists
decreases-lists g l = l.left
