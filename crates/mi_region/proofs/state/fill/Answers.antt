use Rattle.std.proofs.Common.{List, ap, ◌+◌, ◌∙◌, arith}
use Rattle.std.proofs.Math.ListN.{set, length-set}
use Rattle.mi_region.proofs.Texts.{fill_next}
use Rattle.mi_region.proofs.state.fill.Goals as goal

pub bytes-preserved : goal.bytes-preserved
bytes-preserved g c = record {
  filled = ap (λ (xs : List g.row.B.Denot). set xs (c.args.offset + c.bytes.i) c.args.value) c.bytes.invariant.filled ∙ fill_next c.args.region.now.items c.args.offset c.bytes.i c.args.value (omega arith);
  same_length = length-set c.bytes.region.items (c.args.offset + c.bytes.i) c.args.value ∙ c.bytes.invariant.same_length;
}
