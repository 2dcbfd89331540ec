use Rattle.std.proofs.Common.{◌/◌, ◌%◌, ℕ, List, Bool, false, nat_eq, get_or, sym, ap, ◌∙◌, arith}
use Rattle.std.specs.Int.{bit_at}
use Rattle.std.proofs.lemmas.List.{get_or_read}
use Rattle.std.proofs.lemmas.Nat.Bits.{shr_and_one}
use Rattle.mi_bitmap.proofs.Bits.{cell_within, get_or-bits}
use Rattle.mi_bitmap.proofs.bitmap.Bitmap.is_marked.Goals as goal

pub index-requires : goal.index-requires
index-requires c =
    let h = cell_within c.self.inside.bytes.items c.args.self.now c.self.inside.count c.args.cell c.self.invariant c.self.view_is c.requires in
    let e = c.self.inside.bytes.ok in
    let g = h.1 in omega arith

pub returns : goal.returns
returns c =
    let h = cell_within c.self.inside.bytes.items c.args.self.now c.self.inside.count c.args.cell c.self.invariant c.self.view_is c.requires in
    ap (λ (b : ℕ). nat_eq b 1) (shr_and_one c.index.result.now (c.args.cell % 8))
    ∙ ap (λ (b : ℕ). nat_eq (bit_at b (c.args.cell % 8)) 1) (get_or_read c.self.inside.bytes.items (c.args.cell / 8) c.index.result.now h.1 c.index.ensures 0)
    ∙ sym (get_or-bits c.self.inside.bytes.items c.self.inside.count c.args.cell h.0)
    ∙ ap (λ (marks : List Bool). get_or marks c.args.cell false) c.self.view_is
