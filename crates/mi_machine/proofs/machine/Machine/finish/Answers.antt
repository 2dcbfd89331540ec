use Rattle.std.specs.Option.{option_copied}
use Rattle.mi_model.specs.Finish.{finish}
use Rattle.mi_model.specs.Stands.Each.{none}
use Rattle.mi_model.proofs.Sim.{sim}
use Rattle.mi_machine.proofs.machine.Machine.finish.Goals as goal

pub returns-clause-forward : goal.returns-clause-forward
returns-clause-forward g c = λ pair n covered h. sim _ _ _ _ (g.met.A.Arith.simulates c.args.self.now.state.arith pair covered) (finish (option_copied c.args.entry)) _ _ _ _ h none
