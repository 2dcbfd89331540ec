use Rattle.std.proofs.Common.{ℕ, List, ◌≡◌, ◌≤◌, ◌-◌, ◌+◌, []}
use Rattle.mi_model.specs.Outcome.{outcome_of}
use Rattle.mi_model.specs.Parsing.{read_on}
use Rattle.mi_text.specs.Number.{Reads}
use Rattle.mi_machine.proofs.interpreter.read_number.Given as goal

abbrev pub invariant-bytes : goal.invariant-bytes
invariant-bytes g l =
    let ops = g.A.Arith.ops l.fn.state.arith in
    let name = l.fn.name in
    record {
      within : l.i ≤ name.length;
      read : (text : List ℕ) × (Reads l.reader l.fn.base text) × (outcome_of ops (read_on (name.length - l.i) (name.place + l.i) text) l.fn.state.machine [] ≡ outcome_of ops (read_on name.length name.place []) l.fn.state.machine []);
    }

abbrev pub decreases-bytes : goal.decreases-bytes
decreases-bytes g l = l.fn.name.length - l.i
