use Rattle.mi_model.specs.Stands.Each.{none}
use Rattle.mi_model.proofs.Sim.{sim}
use Rattle.mi_form.proofs.Stand.{origin_stands, test_operands, place_operands, tag_operands}
use Rattle.mi_form.proofs.laws.forms_stand_for_numbers.Goals as goal

pub returns-clause-stands : goal.returns-clause-stands
returns-clause-stands c = origin_stands

pub returns-clause-actions : goal.returns-clause-actions
returns-clause-actions c = λ size pair kind action m n fits allowed h. sim _ _ _ _ (origin_stands size pair fits allowed) action _ _ _ _ h none

pub returns-clause-tests : goal.returns-clause-tests
returns-clause-tests c = test_operands

pub returns-clause-places : goal.returns-clause-places
returns-clause-places c = place_operands

pub returns-clause-tags : goal.returns-clause-tags
returns-clause-tags c = tag_operands
