use Rattle.std.proofs.Common.{rules, ◌≡◌, ◌+◌, length, ap, ◌∙◌}
use Rattle.mi_kernel.proofs.Walks.{same_length}
use Rattle.mi_kernel.proofs.kernel.seed_header.Goals as goal

-- the text before left the region its length
pub store_at-requires-3 : goal.store_at-requires-3
store_at-requires-3 g c =
    let text : length c.store_text.new.self.machine.bytes ≡ length c.store_at-2.new.self.machine.bytes =
    ap (λ s. length s.machine.bytes) c.in_ok-store_text.ensures ∙ same_length (g.A.Arith.ops c.store_at-2.new.self.arith) c.store_at-2.new.self.machine.bytes (c.header_offset-header.result + 16) c.name.result.now in
    rw text (search rules)
