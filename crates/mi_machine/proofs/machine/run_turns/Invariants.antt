use Rattle.std.proofs.Common.{◌≡◌, ◌≤◌, ◌-◌}
use Rattle.mi_machine.specs.Engine.{course_of}
use Rattle.mi_machine.proofs.machine.run_turns.Given as goal

abbrev pub invariant-turns : goal.invariant-turns
invariant-turns g l =
    let ops = g.A.Arith.ops l.initial.state.arith in
    record {
      most : l.taken ≤ l.fn.turns;
      same_arith : l.state.arith ≡ l.initial.state.arith;
      same : course_of ops (l.fn.turns - l.taken) l.taken l.state l.last ≡ course_of ops l.fn.turns 0 l.initial.state l.initial.last;
    }

abbrev pub decreases-turns : goal.decreases-turns
decreases-turns g l = l.fn.turns - l.taken
