use Rattle.mi_model.specs.Run.{start_entry}
use Rattle.mi_model.specs.Stands.Each.{none}
use Rattle.mi_model.proofs.Sim.{sim}
use Rattle.mi_machine.proofs.machine.Machine.start_entry.Goals as goal

pub returns-clause-forward : goal.returns-clause-forward
returns-clause-forward g c = λ pair n covered h. sim _ _ _ _ (g.met.A.Arith.simulates c.args.self.now.state.arith pair covered) start_entry _ _ _ _ h none
