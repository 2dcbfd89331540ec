use Rattle.std.proofs.Common.{◌≡◌, ◌<◌, ℕ, false, get_or}
use Rattle.mi_outside.specs.declared.shelf.Entry.{Entry}
use Rattle.mi_outside.specs.Shelf.{is_named}
use Rattle.mi_outside.proofs.shelf.find.Given as goal

abbrev pub invariant-loop-i : goal.invariant-loop-i
invariant-loop-i l = (k : ℕ) (d : Entry) → k < l.i → is_named l.name (get_or l.entries k d) ≡ false
