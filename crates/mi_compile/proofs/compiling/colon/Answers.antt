use Rattle.std.proofs.Common.{arith}
use Rattle.std.proofs.lemmas.Grind.{common_steps}
use Rattle.mi_compile.proofs.Named.{colon_parts}
use Rattle.mi_compile.proofs.compiling.colon.Goals as goal

pub returns-in-Ok : goal.returns-in-Ok
returns-in-Ok g c = rw (colon_parts (g.A.Arith.ops c.args.state.now.arith) c.args.state.now.machine) (grind (arith, common_steps))

pub returns-in_ok-put_back-in-Err : goal.returns-in_ok-put_back-in-Err
returns-in_ok-put_back-in-Err g c = rw (colon_parts (g.A.Arith.ops c.args.state.now.arith) c.args.state.now.machine) (grind (arith, common_steps))
