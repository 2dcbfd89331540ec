use Rattle.mi_model.specs.Kernel.{whole_kernel}
use Rattle.mi_model.specs.Table.{step}
use Rattle.mi_model.specs.Stands.Each.{none}
use Rattle.mi_model.proofs.Sim.{sim}
use Rattle.mi_model.proofs.Meets.{meets, meets_begins}
use Rattle.mi_machine.proofs.machine.Machine.step.Goals as goal

pub returns-clause-forward : goal.returns-clause-forward
returns-clause-forward g c = λ pair n covered h. sim _ _ _ _ (g.met.A.Arith.simulates c.args.self.now.state.arith pair covered) (step whole_kernel) _ _ _ _ h none

pub returns-clause-met : goal.returns-clause-met
returns-clause-met g c = λ pair n covered h. meets_begins _ (meets _ _ _ _ (g.met.A.Arith.simulates c.args.self.now.state.arith pair covered) (step whole_kernel) _ _ _ _ h none)
