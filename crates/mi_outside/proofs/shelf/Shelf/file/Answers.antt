use Rattle.std.proofs.Common.{ℕ, List, sym, ◌∙◌, ap, rules, Some, option_map, Vec, Global}
use Rattle.mi_outside.proofs.Places.{content_read}
use Rattle.mi_outside.proofs.shelf.Shelf.file.Goals as goal

pub returns-in-Some : goal.returns-in-Some
returns-in-Some c =
    ap (λ (bytes : List ℕ). Some bytes) c.deref-in-Some.ensures.value ∙ sym (
    content_read c.args.self.now.entries.items c.args.name.now c.in_ok-index.index c.index.result.now (search rules) (search rules) (search rules)
    ∙ ap (option_map (λ (v : Vec ℕ Global). v.items)) c.in-Some.is)

pub returns-in-None : goal.returns-in-None
returns-in-None c =
    sym (content_read c.args.self.now.entries.items c.args.name.now c.in_ok-index.index c.index.result.now (search rules) (search rules) (search rules)
    ∙ ap (option_map (λ (v : Vec ℕ Global). v.items)) c.in-None.is)
