use Rattle.std.proofs.Common.{◌∙◌, ap, Err}
use Rattle.mi_run.proofs.Refusals.{made_for_other, made_for_none, made_for_ok}
use Rattle.mi_run.proofs.running.machine_of.Goals as goal

pub returns-in-Ok-clause-made_for : goal.returns-in-Ok-clause-made_for
returns-in-Ok-clause-made_for c = λ other. made_for_ok c.load.result c.in-Ok.state c.new.result other c.in-Ok.is (c.load.ensures.made_for other)

pub returns-in-Err-MadeFor-clause-made_for : goal.returns-in-Err-MadeFor-clause-made_for
returns-in-Err-MadeFor-clause-made_for c = λ other. made_for_other c.load.result c.in-Err-MadeFor.other other (c.in-Err-MadeFor.is ∙ ap (λ (f : _). Err f) c.in-Err-MadeFor.field-0-is) (c.load.ensures.made_for other)

pub returns-in-Err-NoMemory-clause-made_for : goal.returns-in-Err-NoMemory-clause-made_for
returns-in-Err-NoMemory-clause-made_for c = λ other. made_for_none c.load.result other (c.in-Err-NoMemory.is ∙ ap (λ (f : _). Err f) c.in-Err-NoMemory.field-0-is) (c.load.ensures.made_for other)
