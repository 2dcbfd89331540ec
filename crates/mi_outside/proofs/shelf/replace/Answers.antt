use Rattle.std.proofs.Common.{◌≡◌, get_or, sym, ◌∙◌, ap, rules, option_map}
use Rattle.mi_outside.specs.declared.shelf.Entry.{Entry}
use Rattle.mi_outside.specs.Shelf.{bytes_of}
use Rattle.mi_outside.proofs.Places.{content_there, content-set, content-set_other, place-set, named_there}
use Rattle.mi_outside.proofs.shelf.replace.Goals as goal

pub returns-clause-was : goal.returns-clause-was
returns-clause-was c q e =
    let d : Entry = c.index_mut-entry.result.now in
    ap (option_map (λ v. v.items)) c.take-was.ensures.value
    ∙ ap bytes_of c.index_mut-entry.ensures.value
    ∙ sym (content_there c.args.entries.now.items q c.args.place d (search rules) e)

pub returns-clause-now : goal.returns-clause-now
returns-clause-now c q e =
    let d : Entry = c.index_mut-entry.result.now in
    let named : d.name.items ≡ q =
    ap (λ (entry : Entry). entry.name.items) c.index_mut-entry.ensures.value
    ∙ named_there c.args.entries.now.items q c.args.place d (search rules) e in
    content-set c.args.entries.now.items q c.args.place _ (search rules) e named

pub returns-clause-others : goal.returns-clause-others
returns-clause-others c name q e ne =
    let d : Entry = c.index_mut-entry.result.now in
    let there : (get_or c.args.entries.now.items c.args.place d).name.items ≡ name =
    named_there c.args.entries.now.items name c.args.place d (search rules) e in
    let named : d.name.items ≡ name =
    ap (λ (entry : Entry). entry.name.items) c.index_mut-entry.ensures.value ∙ there in
    content-set_other c.args.entries.now.items q c.args.place _ d (λ is. ne (sym is ∙ there)) (λ is. ne (sym is ∙ named))

pub returns-clause-places : goal.returns-clause-places
returns-clause-places c q =
    place-set c.args.entries.now.items q c.args.place _ c.index_mut-entry.result.now
    (ap (λ (entry : Entry). entry.name.items) c.index_mut-entry.ensures.value)
