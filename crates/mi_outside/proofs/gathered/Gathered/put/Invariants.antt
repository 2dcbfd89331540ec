-- The bytes before the place were put.
use Rattle.std.proofs.Common.{◌≡◌, ◌≤◌, ◌-◌, ◌++◌, ℕ, length, take}
use Rattle.mi_outside.specs.Written.{EmitsButRest}
use Rattle.mi_outside.specs.Gathered.{last_of}
use Rattle.mi_outside.proofs.gathered.Gathered.put.Given as goal

abbrev pub invariant-bytes : goal.invariant-bytes
invariant-bytes g l =
    record {
      within : l.at ≤ length l.piece;
      passes : EmitsButRest (g.O.Sink.written l.fn.output) (g.O.Sink.written l.output) (l.fn.self.waiting ++ take l.at l.piece) l.self.waiting;
      last : l.self.last ≡ last_of l.fn.self.last (take l.at l.piece);
      later : g.O.Sink.faults l.fn.output ≤ g.O.Sink.faults l.output;
    }

abbrev pub decreases-bytes : goal.decreases-bytes
decreases-bytes g l = length l.piece - l.at
