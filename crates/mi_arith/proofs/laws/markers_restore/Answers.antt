use Rattle.mi_model.proofs.MarkerRestores.{marker_law, order_moved}
use Rattle.mi_arith.proofs.laws.markers_restore.Goals as goal

pub returns-clause-walks : goal.returns-clause-walks
returns-clause-walks g c = λ small m n old voc end count headers left at below h. marker_law _ (g.met.A.Arith.offsets c.args.arith.now small) m n old voc end count at below headers left h

pub returns-clause-order : goal.returns-clause-order
returns-clause-order g c = λ bytes o fits long. order_moved bytes o fits long
