use Rattle.std.proofs.Common.{arith}
use Rattle.mi_dict.proofs.SecondWalk.{goes_through}
use Rattle.mi_dict.proofs.restoring.restore.Goals as goal

pub restore_wordlists-requires : goal.restore_wordlists-requires
restore_wordlists-requires g c =
    goes_through g.A.Arith.ops c.args.state.now c.copy_within.new.self c.in_ok-old.old c.in_ok-newest.newest c.in_ok-offset_of.field-0 _ c.in_ok-old_wordlist.field-0 c.in_ok-order.order c.in_ok-count.count
    (g.met.A.Arith.offsets c.args.state.now.arith (omega arith))
    c.in_ok-offset_of.ensures c.in_ok-old_wordlist.ensures.action c.in_ok-newest.ensures c.in_ok-count.ensures c.in_ok-order.ensures.in_range (omega arith) c.copy_within.ensures.bytes
