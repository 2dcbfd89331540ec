use Rattle.std.proofs.Common.{◌≡◌, true, length, get_or, sym, rules, arith}
use Rattle.mi_outside.specs.declared.shelf.Entry.{Entry}
use Rattle.mi_outside.specs.Shelf.{is_named, place_of}
use Rattle.mi_outside.proofs.Places.{place_is, place_past, content_past}
use Rattle.mi_outside.proofs.shelf.find.Goals as goal

pub returns-then-eq-clause-found : goal.returns-then-eq-clause-found
returns-then-eq-clause-found c =
    let d : Entry = c.index-entries-i.result in
    let here : is_named c.args.name.now (get_or c.args.entries.now c.loop-i.i d) ≡ true = search rules in
    sym (place_is c.args.entries.now c.args.name.now c.loop-i.i d (omega arith) (λ k h. c.loop-i.invariant k d h) here)

pub returns-clause-missing : goal.returns-clause-missing
returns-clause-missing c = place_past c.args.entries.now c.args.name.now c.loop-i.i (omega arith) c.loop-i.invariant

pub returns-clause-no_content : goal.returns-clause-no_content
returns-clause-no_content c =
    let past : place_of c.args.entries.now c.args.name.now ≡ length c.args.entries.now =
    place_past c.args.entries.now c.args.name.now c.loop-i.i (omega arith) c.loop-i.invariant in
    content_past c.args.entries.now c.args.name.now (omega arith)
