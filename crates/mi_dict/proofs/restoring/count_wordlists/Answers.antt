use Rattle.std.proofs.Common.{◌∙◌, arith}
use Rattle.mi_dict.proofs.MarkerWalks.{check_wordlists_next, too_low}
use Rattle.mi_dict.proofs.restoring.count_wordlists.Goals as goal

pub returns-then-o-lt-FORTH_WORDLIST : goal.returns-then-o-lt-FORTH_WORDLIST
returns-then-o-lt-FORTH_WORDLIST g c =
    too_low g.A.Arith.ops c.args.state.now.arith c.arith.result.now _ c.lists.left c.lists.counted c.in_ok-o.o c.args.state.now.machine c.args.old c.lists.list c.plain.result c.in_ok-ended.ended
    (omega arith) c.arith.ensures c.plain.ensures c.in_ok-ended.ensures c.if-ended.false c.in_ok-o.ensures c.if-o-lt-FORTH_WORDLIST.true
    ∙ c.lists.invariant.same

pub returns-in_err-ended : goal.returns-in_err-ended
returns-in_err-ended g c = grind (arith, check_wordlists_next)

pub returns-then-ended : goal.returns-then-ended
returns-then-ended g c = grind (arith, check_wordlists_next)

pub returns-in_err-o : goal.returns-in_err-o
returns-in_err-o g c = grind (arith, check_wordlists_next)

pub returns-in_err-head : goal.returns-in_err-head
returns-in_err-head g c = grind (arith, check_wordlists_next)

pub returns-in_err-old_header : goal.returns-in_err-old_header
returns-in_err-old_header g c = grind (arith, check_wordlists_next)

pub returns-in_err-at : goal.returns-in_err-at
returns-in_err-at g c = grind (arith, check_wordlists_next)

pub returns-in_err-link : goal.returns-in_err-link
returns-in_err-link g c = grind (arith, check_wordlists_next)

pub returns-in_err-check_link : goal.returns-in_err-check_link
returns-in_err-check_link g c = grind (arith, check_wordlists_next)
