use Rattle.std.proofs.Common.{◌≡◌, ◌≤◌, ◌+◌, ◌-◌, []}
use Rattle.mi_model.specs.Outcome.{outcome_of}
use Rattle.mi_model.specs.ConvertingNumbers as actions
use Rattle.mi_compile.specs.Digits.{extended_by}
use Rattle.mi_compile.proofs.numbers.extend.Given as goal

abbrev pub invariant-digits : goal.invariant-digits
invariant-digits g l =
    let ops = g.A.Arith.ops l.fn.state.arith in
    record {
      most : l.digits ≤ l.fn.count;
      same : extended_by l.fn.base l.extended l.digits (outcome_of ops (actions.read_digits l.fn.base (l.fn.count - l.digits) (l.fn.place + l.digits) []) l.fn.state.machine []) ≡ extended_by l.fn.base l.fn.double 0 (outcome_of ops (actions.read_digits l.fn.base l.fn.count l.fn.place []) l.fn.state.machine []);
    }

abbrev pub decreases-digits : goal.decreases-digits
decreases-digits g l = l.fn.count - l.digits
