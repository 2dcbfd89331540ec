use Rattle.mi_model.proofs.Runs.{runs_agree}
use Rattle.mi_arith.proofs.laws.runs_agree.Goals as goal

pub returns : goal.returns
returns g c = λ pair covered kernel region plain_region input turns h. runs_agree _ _ _ _ (g.met.A.Arith.simulates c.args.arith.now pair covered) kernel region plain_region input turns h
