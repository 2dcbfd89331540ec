use Rattle.mi_form.proofs.Back.{place_back, tag_back, form_back}
use Rattle.mi_form.proofs.laws.origins_come_back.Goals as goal

pub returns-clause-place : goal.returns-clause-place
returns-clause-place c = place_back

pub returns-clause-tag : goal.returns-clause-tag
returns-clause-tag c = tag_back

pub returns-clause-bytes : goal.returns-clause-bytes
returns-clause-bytes c = form_back
