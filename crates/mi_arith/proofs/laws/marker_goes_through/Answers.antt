use Rattle.std.proofs.Common.{arith}
use Rattle.mi_model.proofs.MarkerActions.{goes_through, faults_alike}
use Rattle.mi_arith.proofs.laws.marker_goes_through.Goals as goal

pub returns-clause-through : goal.returns-clause-through
returns-clause-through g c = λ small m n token count least h. goes_through _ (g.met.A.Arith.offsets c.args.arith.now small) m (omega arith) token count n h

pub returns-clause-faults : goal.returns-clause-faults
returns-clause-faults g c = λ small m token fault least h. faults_alike _ (g.met.A.Arith.offsets c.args.arith.now small) m (omega arith) token fault h
