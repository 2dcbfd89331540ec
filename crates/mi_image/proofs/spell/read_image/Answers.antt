use Rattle.std.proofs.Common.{inl, ◌≡◌, sym, subst, refl, ◌∙◌, arith}
use Rattle.std.proofs.lemmas.Result.{err_from_is_err_and}
use Rattle.mi_model.specs.Image.{ImageRecord, IsImage, image_bytes}
use Rattle.mi_image.specs.Grammar.{spelled}
use Rattle.mi_image.proofs.Sound.{used_allowed, header_within, body_within, not_early, parts_spelled, whole_is_image}
use Rattle.mi_image.proofs.Steps.{bitmap_within}
use Rattle.mi_image.proofs.spell.read_image.Goals as goal

pub whole_length-requires-clause-most : goal.whole_length-requires-clause-most
whole_length-requires-clause-most c = let u = used_allowed c.args.bytes.now c.requires.header c.requires.allowed in let most = u.size.most in let within = u.used.2 in omega arith

pub overflow_cast-used : goal.overflow_cast-used
overflow_cast-used c = let u = used_allowed c.args.bytes.now c.requires.header c.requires.allowed in let most = u.size.most in let within = u.used.2 in omega arith

pub number-requires : goal.number-requires
number-requires c = omega (arith, header_within c.args.bytes.now)

pub number-requires-2 : goal.number-requires-2
number-requires-2 c = omega (arith, header_within c.args.bytes.now)

pub split_at-requires : goal.split_at-requires
split_at-requires c = omega (arith, header_within c.args.bytes.now)

pub split_at-requires-2 : goal.split_at-requires-2
split_at-requires-2 c =
    let h = body_within c.args.bytes.now (omega arith) in
    rw c.split_at.ensures.back (omega arith)

pub read_marks-requires : goal.read_marks-requires
read_marks-requires c kind =
    let h = bitmap_within c.args.bytes.now (omega arith) (sym c.kind-kind.ensures ∙ kind) in
    rw (c.split_at-2.ensures.back, c.split_at.ensures.back, c.number-used.ensures) h

pub overflow_cast-number : goal.overflow_cast-number
overflow_cast-number c = let u = used_allowed c.args.bytes.now c.requires.header c.requires.allowed in let most = u.size.most in omega arith

pub returns-in_err-cells-clause-refused : goal.returns-in_err-cells-clause-refused
returns-in_err-cells-clause-refused c =
    let p = err_from_is_err_and c.from_residual.result c.from_residual.ensures.1 in
    rw p.1 (inl (record { memory = p.2; whole = not_early c.args.bytes.now (omega arith) }))

pub returns-in_err-marks-clause-refused : goal.returns-in_err-marks-clause-refused
returns-in_err-marks-clause-refused c =
    let p = err_from_is_err_and c.from_residual-in_err-marks.result c.from_residual-in_err-marks.ensures.1 in
    rw p.1 (inl (record { memory = p.2; whole = not_early c.args.bytes.now (omega arith) }))

pub from_parts-requires : goal.from_parts-requires
from_parts-requires c =
    subst IsImage
    (sym (parts_spelled c.args.bytes.now c.kind-kind.result c.number-3.result c.number-used.result c.number.result c.number-2.result c.in_ok-cells.cells.items c.in_ok-marks.marks.items
    c.kind-kind.ensures c.number-3.ensures c.number-used.ensures c.number.ensures c.number-2.ensures
    (c.in_ok-cells.ensures ∙ rw (c.split_at.ensures.back, c.number-used.ensures) refl)
    (c.in_ok-marks.ensures ∙ rw (c.split_at-2.ensures.back, c.split_at.ensures.back, c.number-used.ensures, c.kind-kind.ensures) refl)))
    (whole_is_image c.args.bytes.now (λ i. omega (arith, c.type_inv.bytes i)) c.requires.allowed (not_early c.args.bytes.now (omega arith))).0

pub returns-clause-spelled : goal.returns-clause-spelled
returns-clause-spelled c =
    c.from_parts.ensures
    ∙ parts_spelled c.args.bytes.now c.kind-kind.result c.number-3.result c.number-used.result c.number.result c.number-2.result c.in_ok-cells.cells.items c.in_ok-marks.marks.items
    c.kind-kind.ensures c.number-3.ensures c.number-used.ensures c.number.ensures c.number-2.ensures
    (c.in_ok-cells.ensures ∙ rw (c.split_at.ensures.back, c.number-used.ensures) refl)
    (c.in_ok-marks.ensures ∙ rw (c.split_at-2.ensures.back, c.split_at.ensures.back, c.number-used.ensures, c.kind-kind.ensures) refl)

pub returns-clause-image : goal.returns-clause-image
returns-clause-image c =
    let same : c.from_parts.result ≡ spelled c.args.bytes.now =
    c.from_parts.ensures
    ∙ parts_spelled c.args.bytes.now c.kind-kind.result c.number-3.result c.number-used.result c.number.result c.number-2.result c.in_ok-cells.cells.items c.in_ok-marks.marks.items
    c.kind-kind.ensures c.number-3.ensures c.number-used.ensures c.number.ensures c.number-2.ensures
    (c.in_ok-cells.ensures ∙ rw (c.split_at.ensures.back, c.number-used.ensures) refl)
    (c.in_ok-marks.ensures ∙ rw (c.split_at-2.ensures.back, c.split_at.ensures.back, c.number-used.ensures, c.kind-kind.ensures) refl) in
    subst (λ (r : ImageRecord). IsImage r × (image_bytes r ≡ c.args.bytes.now)) (sym same)
    (whole_is_image c.args.bytes.now (λ i. omega (arith, c.type_inv.bytes i)) c.requires.allowed (not_early c.args.bytes.now (omega arith)))
