use Rattle.std.proofs.Common.{◌≡◌, length, sym, ◌∙◌, rules, refl}
use Rattle.mi_outside.specs.Shelf.{place_of}
use Rattle.mi_outside.proofs.Places.{place-push, content-push}
use Rattle.mi_outside.proofs.shelf.slot.Goals as goal

pub returns-clause-found : goal.returns-clause-found
returns-clause-found c =
    let past : place_of c.args.entries.now.items c.args.name.now ≡ length c.args.entries.now.items = search rules in
    let at : c.len-place.result ≡ length c.args.entries.now.items = search rules in
    let named : c.in_ok-name.name.items ≡ c.args.name.now = search rules in
    rw c.in_ok-push.ensures.items (at ∙ sym (place-push c.args.entries.now.items c.args.name.now _ past named))

pub returns-clause-same : goal.returns-clause-same
returns-clause-same c q = rw c.in_ok-push.ensures.items (content-push c.args.entries.now.items q _ refl)
