use Rattle.std.proofs.Common.{◌≡◌, ◌+◌, length, drop}
use Rattle.mi_model.specs.Region.{with_text}
use Rattle.mi_region.proofs.state.write_text.Given as goal

abbrev pub invariant-bytes : goal.invariant-bytes
invariant-bytes g l =
    let ops = g.A.Arith.ops l.fn.arith in
    record {
      copied : with_text ops l.region.items (l.fn.offset + l.i) (drop l.i l.fn.text) ≡ with_text ops l.initial.region.items l.fn.offset l.fn.text;
      same_length : length l.region.items ≡ length l.initial.region.items;
    }
