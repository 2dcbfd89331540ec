use Rattle.std.proofs.Common.{◌≡◌, ◌/◌, length, [], ◌∷◌}
use Rattle.mi_model.specs.Outcome.{outcome_of}
use Rattle.mi_model.specs.Lookup as actions
use Rattle.mi_dict.specs.Sought.{sought_of}
use Rattle.mi_dict.proofs.lookup.find_from.Given as goal

abbrev pub invariant-headers : goal.invariant-headers
invariant-headers g l =
    let ops = g.A.Arith.ops l.fn.state.arith in
    let sought = sought_of l.fn.name in
    outcome_of ops (actions.find_from l.left sought) l.fn.state.machine (l.header ∷ []) ≡ outcome_of ops (actions.find_from (length l.fn.state.machine.bytes / 64) sought) l.fn.state.machine (l.fn.head ∷ [])

abbrev pub decreases-headers : goal.decreases-headers
decreases-headers g l = l.left
