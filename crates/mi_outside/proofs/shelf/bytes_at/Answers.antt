use Rattle.std.proofs.Common.{ℕ, [], sym, ◌∙◌, ap, rules, option_map, Option, Vec, Global}
use Rattle.std.specs.Prelude.{unwrap_or}
use Rattle.mi_outside.specs.declared.shelf.Entry.{Entry}
use Rattle.mi_outside.specs.Shelf.{bytes_of}
use Rattle.mi_outside.proofs.Places.{bytes_read, bytes_at-past}
use Rattle.mi_outside.proofs.shelf.bytes_at.Goals as goal

pub returns-then-index-entries : goal.returns-then-index-entries
returns-then-index-entries c = sym (bytes_at-past c.args.entries.now c.args.index (search rules))

pub returns-in-Some : goal.returns-in-Some
returns-in-Some c =
    c.deref.ensures.value ∙ sym (
    bytes_read c.args.entries.now c.args.index c.index-entries-index.result (search rules) c.index-entries-index.is
    ∙ ap (λ (at : Entry). unwrap_or (bytes_of at) []) c.index-entries-index.is
    ∙ ap (λ (o : Option (Vec ℕ Global)). unwrap_or (option_map (λ v. v.items) o) []) c.in-Some.is)

pub returns-in-None : goal.returns-in-None
returns-in-None c =
    sym (bytes_read c.args.entries.now c.args.index c.index-entries-index.result (search rules) c.index-entries-index.is
    ∙ ap (λ (at : Entry). unwrap_or (bytes_of at) []) c.index-entries-index.is
    ∙ ap (λ (o : Option (Vec ℕ Global)). unwrap_or (option_map (λ v. v.items) o) []) c.in-None.is)
