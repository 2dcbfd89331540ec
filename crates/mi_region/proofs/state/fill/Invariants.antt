use Rattle.std.proofs.Common.{◌≡◌, length}
use Rattle.mi_model.specs.Region.{with_filled}
use Rattle.mi_region.proofs.state.fill.Given as goal

abbrev pub invariant-bytes : goal.invariant-bytes
invariant-bytes g l = record {
  filled : l.region.items ≡ with_filled l.initial.region.items l.fn.offset l.i l.fn.value;
  same_length : length l.region.items ≡ length l.initial.region.items;
}
