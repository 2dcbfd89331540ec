use Rattle.std.proofs.Common.{◌≡◌, ◌+◌, ◌/◌, ℕ, List, length, sym, ap, ◌∙◌, arith}
use Rattle.mi_model.specs.Image.{bitmap_bytes}
use Rattle.mi_bitmap.specs.Bits.{bits}
use Rattle.mi_bitmap.proofs.Bits.{from_list, packed_bytes}
use Rattle.mi_bitmap.proofs.bitmap.Bitmap.from_bytes.Goals as goal

pub returns-then-bytes-div_ceil-clause-again : goal.returns-then-bytes-div_ceil-clause-again
returns-then-bytes-div_ceil-clause-again c marks count is =
    let size = (from_list c.args.bytes.now marks c.args.cells count is).0.size in
    let e : c.div_ceil.result ≡ (c.args.cells + 7) / 8 = let d = c.div_ceil.ensures in omega arith in
    absurd (c.if-bytes-div_ceil.true (size ∙ sym e))

pub returns-then-has_spare-clause-again : goal.returns-then-has_spare-clause-again
returns-then-has_spare-clause-again c marks count is =
    absurd (c.has_spare.ensures.set c.if-has_spare.true (from_list c.args.bytes.now marks c.args.cells count is).0.spare)

pub returns-clause-list : goal.returns-clause-list
returns-clause-list c = ap (λ (xs : List ℕ). bits xs c.args.cells) (c.in_ok-bytes.ensures.items_if_clones_equal (λ x y e. e))

pub returns-clause-bytes : goal.returns-clause-bytes
returns-clause-bytes c =
    let same : c.in_ok-bytes.bytes.items ≡ c.args.bytes.now = c.in_ok-bytes.ensures.items_if_clones_equal (λ x y e. e) in
    let e : c.div_ceil.result ≡ (c.args.cells + 7) / 8 = let d = c.div_ceil.ensures in omega arith in
    let size : length c.args.bytes.now ≡ (c.args.cells + 7) / 8 = c.if-bytes-div_ceil.false ∙ e in
    ap (λ (xs : List ℕ). bitmap_bytes (bits xs c.args.cells)) same
    ∙ packed_bytes c.args.bytes.now c.args.cells (record { size = size; fits = λ i. omega (arith, c.type_inv.bytes i); spare = c.has_spare.ensures.clear c.if-has_spare.false })

pub returns-clause-again : goal.returns-clause-again
returns-clause-again c marks count is =
    ap (λ (xs : List ℕ). bits xs c.args.cells) (c.in_ok-bytes.ensures.items_if_clones_equal (λ x y e. e))
    ∙ (from_list c.args.bytes.now marks c.args.cells count is).1
