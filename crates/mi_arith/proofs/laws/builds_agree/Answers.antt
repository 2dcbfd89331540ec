use Rattle.mi_model.proofs.Builds.{builds_agree}
use Rattle.mi_arith.proofs.laws.builds_agree.Goals as goal

pub returns : goal.returns
returns g c = λ pair covered kernel size texts entry turns. builds_agree _ _ _ _ (g.met.A.Arith.simulates c.args.arith.now pair covered) kernel size texts entry turns
