use Rattle.mi_form.proofs.Told.{told, told_by_values}
use Rattle.mi_form.proofs.laws.values_tell_forms_apart.Goals as goal

pub returns-clause-forms : goal.returns-clause-forms
returns-clause-forms c = told_by_values

pub returns-clause-any_grid : goal.returns-clause-any_grid
returns-clause-any_grid c = told
