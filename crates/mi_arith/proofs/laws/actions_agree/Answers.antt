use Rattle.std.proofs.Common.{[]}
use Rattle.mi_model.specs.Stands.Each.{none}
use Rattle.mi_model.proofs.Sim.{sim}
use Rattle.mi_model.proofs.Meets.{meets, meets_begins}
use Rattle.mi_arith.proofs.laws.actions_agree.Goals as goal

pub returns-clause-outcome : goal.returns-clause-outcome
returns-clause-outcome g c = λ pair covered i action m n h. sim _ _ _ _ (g.met.A.Arith.simulates c.args.arith.now pair covered) action m n [] [] h none

pub returns-clause-met : goal.returns-clause-met
returns-clause-met g c = λ pair covered i action m n h. meets_begins _ (meets _ _ _ _ (g.met.A.Arith.simulates c.args.arith.now pair covered) action m n [] [] h none)
