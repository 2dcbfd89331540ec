-- The digits that are left make of the value what all digits make of 0.
use Rattle.std.proofs.Common.{◌≡◌, ◌≤◌, ◌-◌, ◌^◌, length}
use Rattle.mi_model.specs.Numbers.{continued}
use Rattle.mi_commands.proofs.numbers.magnitude.Given as goal

abbrev pub invariant-digits : goal.invariant-digits
invariant-digits l =
    record {
      same : continued l.base l.value l.left ≡ continued l.base 0 l.fn.digits;
      fits : l.value ≤ 2 ^ 64 - 1;
    }

abbrev pub decreases-digits : goal.decreases-digits
decreases-digits l = length l.left
