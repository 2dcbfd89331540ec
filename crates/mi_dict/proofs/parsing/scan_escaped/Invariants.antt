use Rattle.std.proofs.Common.{◌≡◌, ◌≤◌, ◌-◌, false, []}
use Rattle.mi_model.specs.Outcome.{outcome_of}
use Rattle.mi_model.specs.Strings as actions
use Rattle.mi_dict.proofs.parsing.scan_escaped.Given as goal

abbrev pub invariant-bytes : goal.invariant-bytes
invariant-bytes g l =
    let ops = g.A.Arith.ops l.fn.state.arith in
    record {
      least : l.fn.start ≤ l.at;
      most : l.at ≤ l.fn.end;
      same : outcome_of ops (actions.scan_escaped l.taken (l.fn.end - l.at) l.at) l.fn.state.machine [] ≡ outcome_of ops (actions.scan_escaped false (l.fn.end - l.fn.start) l.fn.start) l.fn.state.machine [];
    }

abbrev pub decreases-bytes : goal.decreases-bytes
decreases-bytes g l = l.fn.end - l.at
