use Rattle.mi_compile.proofs.ChainWalks.{goes_through}
use Rattle.mi_compile.proofs.cases.endcase.Goals as goal

pub resolve-requires : goal.resolve-requires
resolve-requires g c = goes_through (g.A.Arith.ops c.args.state.now.arith) c.args.state.now.machine _ _ _ c.in_ok-count.ensures
