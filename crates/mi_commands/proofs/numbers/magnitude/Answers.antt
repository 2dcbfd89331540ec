use Rattle.std.proofs.Common.{rules, ◌≡◌, ◌<◌, ◌-◌, ◌^◌, ℕ, length, Option, ap, sym, ◌∙◌}
use Rattle.mi_model.specs.Numbers.{at_most}
use Rattle.mi_commands.proofs.NumberLemmas.{some_digits, none_left}
use Rattle.mi_commands.proofs.numbers.magnitude.Goals as goal

-- src/numbers.rt:22:1
pub returns : goal.returns
returns c =
    let some : 0 < length c.args.digits.now = search rules in
    let left : length c.digits.left.now ≡ 0 = search rules in
    sym (none_left c.args.base c.digits.value c.digits.left.now left c.digits.invariant.fits)
    ∙ ap (λ (n : Option ℕ). at_most (2 ^ 64 - 1) n) (c.digits.invariant.same ∙ sym (some_digits c.args.base c.args.digits.now some))
