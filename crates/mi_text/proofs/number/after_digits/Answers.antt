-- Where the digits can't go on, whatever follows makes no number of them.
use Rattle.std.proofs.Common.{sym}
use Rattle.mi_text.proofs.NumberLemmas.{no-longer, some-base, same-answer}
use Rattle.mi_text.proofs.number.after_digits.Goals as goal

pub returns-in-None : goal.returns-in-None
returns-in-None c = λ rest.
    same-answer c.args.base _ _ (λ good. sym (no-longer c.args.negative c.args.base c.args.magnitude c.args.byte rest (some-base c.args.base good) (sym (c.in-None.ensures good))))
