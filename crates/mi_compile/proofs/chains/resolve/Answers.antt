use Rattle.std.proofs.Common.{length, ◌∙◌, arith}
use Rattle.mi_compile.proofs.ChainWalks.{resolved_next, kept_arith, kept_size, kept_stack}
use Rattle.mi_compile.proofs.chains.resolve.Goals as goal

pub members-preserved : goal.members-preserved
members-preserved g c =
    let ops = g.A.Arith.ops in
    let before = c.members.invariant in
    let put = c.put_cell.ensures in
    record {
      arith = kept_arith (ops c.members.state.arith) c.members.state c.put_cell.new.self c.in_ok-place.place c.args.state.now.arith _ put before.arith;
      size = kept_size (ops c.members.state.arith) c.members.state c.put_cell.new.self c.in_ok-place.place (length c.args.state.now.machine.bytes) _ put before.size;
      stack = kept_stack (ops c.members.state.arith) c.members.state c.put_cell.new.self c.in_ok-place.place c.args.state.now.machine.stack _ put before.stack;
      same =
          resolved_next ops c.members.state c.put_cell.new.self c.args.state.now.arith c.members.left c.in_ok-place.place c.members.member c.in_ok-next.next c.args.target
          (omega arith) before.arith c.in_ok-place.ensures.found c.in_ok-next.ensures put
          ∙ before.same;
    }
