use Rattle.std.proofs.Common.{◌<◌, ◌*◌, ◌/◌, ◌%◌, ◌^◌, ℕ, List, Bool, true, nat_eq, ap, ◌∙◌, arith, bit_or}
use Rattle.std.specs.Prelude.{slice_set}
use Rattle.std.specs.Int.{bit_at, w8}
use Rattle.std.proofs.lemmas.List.{get_or_read}
use Rattle.std.proofs.lemmas.Nat.{or_of_8}
use Rattle.std.proofs.lemmas.Nat.Bits.{bit_at_set_same, bit_at_set_other}
use Rattle.mi_bitmap.proofs.Bits.{cell_within, packed_changed, bits_changed}
use Rattle.mi_bitmap.proofs.bitmap.Bitmap.mark.Goals as goal

pub index_mut-requires : goal.index_mut-requires
index_mut-requires c =
    let h = cell_within c.self.inside.bytes.items c.args.self.now c.self.inside.count c.args.cell c.self.invariant c.self.view_is c.requires in
    let e = c.self.inside.bytes.ok in
    let g = h.1 in omega arith

pub invariant_of-self : goal.invariant_of-self
invariant_of-self c =
    let h = cell_within c.self.inside.bytes.items c.args.self.now c.self.inside.count c.args.cell c.self.invariant c.self.view_is c.requires in
    let read = get_or_read c.self.inside.bytes.items (c.args.cell / 8) c.index_mut.result.now h.1 c.index_mut.ensures.value 0 in
    let byte : c.index_mut.result.now < 256 = let fits = c.self.invariant.fits (c.args.cell / 8) in omega arith in
    packed_changed c.self.inside.bytes.items c.self.inside.count c.args.cell (bit_or c.index_mut.result.now (1 * 2 ^ (c.args.cell % 8) % 256)) c.self.invariant h.0 h.1 (or_of_8 c.index_mut.result.now (1 * 2 ^ (c.args.cell % 8) % 256) byte (omega arith))
    (λ k below other. bit_at_set_other w8 c.index_mut.result.now (c.args.cell % 8) (omega arith) k other ∙ ap (λ (b : ℕ). bit_at b k) read)

pub returns : goal.returns
returns c =
    let h = cell_within c.self.inside.bytes.items c.args.self.now c.self.inside.count c.args.cell c.self.invariant c.self.view_is c.requires in
    let read = get_or_read c.self.inside.bytes.items (c.args.cell / 8) c.index_mut.result.now h.1 c.index_mut.ensures.value 0 in
    bits_changed c.self.inside.bytes.items c.self.inside.count c.args.cell (bit_or c.index_mut.result.now (1 * 2 ^ (c.args.cell % 8) % 256)) true h.0 h.1
    (ap (λ (b : ℕ). nat_eq b 1) (bit_at_set_same w8 c.index_mut.result.now (c.args.cell % 8) (omega arith)))
    (λ k below other. bit_at_set_other w8 c.index_mut.result.now (c.args.cell % 8) (omega arith) k other ∙ ap (λ (b : ℕ). bit_at b k) read)
    ∙ ap (λ (marks : List Bool). slice_set marks c.args.cell true) c.self.view_is
