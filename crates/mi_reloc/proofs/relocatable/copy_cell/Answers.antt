use Rattle.std.proofs.Common.{◌≡◌, ℕ, ◌*◌, Result, Ok, Err, sym, ap, subst, ◌∙◌, arith}
use Rattle.mi_model.specs.declared.Found.{Found}
use Rattle.mi_model.specs.OriginOps.{origin_ops}
use Rattle.mi_model.specs.Region.{fetch_at}
use Rattle.mi_model.specs.Explained.{ImageCell}
use Rattle.mi_reloc.specs.Cells.{Makes, with_found}
use Rattle.mi_reloc.proofs.Imaged.{fetched, not_fetched}
use Rattle.mi_reloc.proofs.relocatable.copy_cell.Goals as goal

pub returns-in-Ok : goal.returns-in-Ok
returns-in-Ok c =
    let bytes = c.args.state.now.machine.bytes in
    let size : c.args.state.now.arith.size ≡ c.args.image.now.size = omega arith in
    let is = subst (λ (s : ℕ). fetch_at (origin_ops s) bytes (8 * c.args.cell) ≡ Ok c.in-Ok.form) size (sym c.fetch_at.ensures ∙ c.in-Ok.is) in
    subst (λ (r : Result ImageCell Found). Makes c.set_cell.result c.set_cell.new.image (with_found c.args.image.now c.args.cell r))
    (sym (fetched c.args.image.now.size bytes (8 * c.args.cell) c.in-Ok.form is)) c.set_cell.ensures

pub returns-in-Err : goal.returns-in-Err
returns-in-Err c =
    let bytes = c.args.state.now.machine.bytes in
    let size : c.args.state.now.arith.size ≡ c.args.image.now.size = omega arith in
    let is = subst (λ (s : ℕ). fetch_at (origin_ops s) bytes (8 * c.args.cell) ≡ Err c.in-Err.field-0) size (sym c.fetch_at.ensures ∙ c.in-Err.is) in
    ap (λ (r : Result ImageCell Found). with_found c.args.image.now c.args.cell r) (not_fetched c.args.image.now.size bytes (8 * c.args.cell) c.in-Err.field-0 is)
