use Rattle.std.proofs.Common.{ℕ, ◌/◌, length, ap, ◌∙◌, arith}
use Rattle.mi_dict.proofs.MarkerWalks.{restore_wordlists_next, restored_next, kept_arith, kept_size}
use Rattle.mi_dict.proofs.restoring.restore_wordlists.Goals as goal

pub lists-preserved : goal.lists-preserved
lists-preserved g c =
    let ops = g.A.Arith.ops in
    let before = c.lists.invariant in
    let put = c.put_cell.ensures in
    let headers = ap (λ (n : ℕ). n / 64) before.size in
    record {
      arith = kept_arith (ops c.lists.state.arith) c.lists.state c.put_cell.new.self c.in_ok-head.head c.args.state.now.arith c.in_ok-header.header put before.arith;
      size = kept_size (ops c.lists.state.arith) c.lists.state c.put_cell.new.self c.in_ok-head.head (length c.args.state.now.machine.bytes) c.in_ok-header.header put before.size;
      same =
          restored_next ops c.lists.state c.put_cell.new.self c.args.state.now.arith c.arith.result.now _ c.lists.left c.in_ok-head.head c.in_ok-place.place c.args.old c.lists.list c.plain.result c.in_ok-add.field-0 c.in_ok-link.link c.in_ok-header.header
          (omega arith) headers before.arith c.arith.ensures c.in_ok-head.ensures.found c.in_ok-place.ensures.action c.plain.ensures c.in_ok-add.ensures c.in_ok-link.ensures c.in_ok-header.ensures put
          ∙ before.same;
    }

pub returns-in_err-head-clause-action : goal.returns-in_err-head-clause-action
returns-in_err-head-clause-action g c = grind (arith, restore_wordlists_next)

pub returns-in_err-head-clause-memory : goal.returns-in_err-head-clause-memory
returns-in_err-head-clause-memory g c = grind (arith, restore_wordlists_next)

pub returns-in_err-place-clause-action : goal.returns-in_err-place-clause-action
returns-in_err-place-clause-action g c = grind (arith, restore_wordlists_next)

pub returns-in_err-place-clause-memory : goal.returns-in_err-place-clause-memory
returns-in_err-place-clause-memory g c = grind (arith, restore_wordlists_next)

pub returns-in_err-add-clause-action : goal.returns-in_err-add-clause-action
returns-in_err-add-clause-action g c = grind (arith, restore_wordlists_next)

pub returns-in_err-add-clause-memory : goal.returns-in_err-add-clause-memory
returns-in_err-add-clause-memory g c = grind (arith, restore_wordlists_next)

pub returns-in_err-link-clause-action : goal.returns-in_err-link-clause-action
returns-in_err-link-clause-action g c = grind (arith, restore_wordlists_next)

pub returns-in_err-link-clause-memory : goal.returns-in_err-link-clause-memory
returns-in_err-link-clause-memory g c = grind (arith, restore_wordlists_next)

pub returns-in_err-header-clause-action : goal.returns-in_err-header-clause-action
returns-in_err-header-clause-action g c = grind (arith, restore_wordlists_next)

pub returns-in_err-header-clause-memory : goal.returns-in_err-header-clause-memory
returns-in_err-header-clause-memory g c = grind (arith, restore_wordlists_next)
