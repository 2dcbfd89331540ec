use Rattle.mi_form.proofs.Refusing.{meets_refused}
use Rattle.mi_form.proofs.laws.refused_operations_are_met.Goals as goal

pub returns : goal.returns
returns c = meets_refused
