use Rattle.mi_model.proofs.TagLemmas.{no_code, no_word}
use Rattle.mi_arith.proofs.laws.unknown_tokens_throw.Goals as goal

pub returns-clause-no_code : goal.returns-clause-no_code
returns-clause-no_code g c = λ kernel m x code fetched none. no_code _ kernel m x code fetched none

pub returns-clause-no_word : goal.returns-clause-no_word
returns-clause-no_word g c = λ kernel m x code t fetched found absent. no_word _ kernel m x code t fetched found absent
