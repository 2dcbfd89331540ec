use Rattle.std.proofs.Common.{rules, ◌≡◌, ℕ, List, ◌∷◌, None, map, string_bytes, Global, ap, sym, ◌∙◌}
use Rattle.mi_commands.specs.Options.{given_in, given_in_bytes}
use Rattle.mi_commands.proofs.options.given_in.Goals as goal

pub returns-in_default-read_word-clause-value : goal.returns-in_default-read_word-clause-value
returns-in_default-read_word-clause-value c =
    let words = map (string_bytes {Z = Global}) c.in-Some.rest.now in
    let none : given_in c.words.reading.awaited (c.as_bytes.result.now ∷ words) (given_in_bytes c.words.reading.given) ≡ None = c.in_default-read_word.ensures.read words in
    let texts : map (string_bytes {Z = Global}) c.words.left.now ≡ c.as_bytes.result.now ∷ words = search rules in
    sym none ∙ ap (λ (ws : List (List ℕ)). given_in c.words.reading.awaited ws (given_in_bytes c.words.reading.given)) (sym texts) ∙ c.words.invariant.same
