use Rattle.std.proofs.Common.{◌≡◌, ℕ, ◌*◌, ◌/◌, Result, Ok, Err, length, refl, ap, subst, ◌∙◌, arith}
use Rattle.mi_model.specs.declared.Found.TheVariants.{Form as AForm}
use Rattle.mi_model.specs.declared.Kind.TheVariants.{Relocatable}
use Rattle.mi_model.specs.Image.{ImageRecord}
use Rattle.mi_model.specs.Explained.{cell_found_at}
use Rattle.mi_image.specs.Cells.{blank_image}
use Rattle.mi_reloc.specs.Cells.{Makes, with_found}
use Rattle.mi_reloc.proofs.Imaged.{begun_none, made_next, begun_all, none_yet, found_next, found_here, refused, none_left, image_loaded}
use Rattle.mi_reloc.proofs.NoImage.{no_image_there}
use Rattle.mi_reloc.proofs.relocatable.image_of.Goals as goal

pub cells-init : goal.cells-init
cells-init c =
    let bytes = c.args.state.now.machine.bytes in
    record {
      begun =
          c.in_ok-image.ensures
          ∙ ap (λ (s : ℕ). blank_image Relocatable s c.args.used (record { d = 0; k = 0 })) c.size.ensures.bytes
          ∙ begun_none (length bytes) bytes c.args.used;
      so_far = none_yet (length bytes) bytes c.args.used;
    }

pub cells-preserved : goal.cells-preserved
cells-preserved c =
    let bytes = c.args.state.now.machine.bytes in
    let size : c.cells.image.size ≡ length bytes = ap (λ (r : ImageRecord). r.size) c.cells.invariant.begun in
    let told = subst (λ r. Makes r c.copy_cell.new.image (with_found c.cells.image c.cells.i (cell_found_at c.cells.image.size bytes (8 * c.cells.i)))) c.in-Ok.is c.copy_cell.ensures in
    let is = subst (λ (s : ℕ). with_found c.cells.image c.cells.i (cell_found_at s bytes (8 * c.cells.i)) ≡ Ok c.copy_cell.new.image) size told in
    record {
      begun = made_next (length bytes) bytes c.args.used c.cells.i c.cells.image c.copy_cell.new.image c.cells-test.true c.cells.invariant.begun is;
      so_far = found_next (length bytes) bytes c.args.used c.cells.i c.cells.image c.copy_cell.new.image c.cells-test.true c.cells.invariant.so_far is;
    }

pub returns-in-Err-clause-cell : goal.returns-in-Err-clause-cell
returns-in-Err-clause-cell c = λ offset found h.
    let bytes = c.args.state.now.machine.bytes in
    let size : c.cells.image.size ≡ length bytes = ap (λ (r : ImageRecord). r.size) c.cells.invariant.begun in
    let told = subst (λ r. Makes r c.copy_cell.new.image (with_found c.cells.image c.cells.i (cell_found_at c.cells.image.size bytes (8 * c.cells.i)))) c.in-Err.is c.copy_cell.ensures in
    let is = subst (λ (s : ℕ). with_found c.cells.image c.cells.i (cell_found_at s bytes (8 * c.cells.i)) ≡ Err c.in-Err.found) size told in
    let first = found_here (length bytes) bytes c.args.used c.cells.i c.cells.image c.in-Err.found c.cells-test.true c.cells.invariant.so_far is in
    cc (first, h)

pub returns-in-Err-clause-no_image : goal.returns-in-Err-clause-no_image
returns-in-Err-clause-no_image c = λ offset x h plain stands r is loads.
    let bytes = c.args.state.now.machine.bytes in
    let size : c.cells.image.size ≡ length bytes = ap (λ (r : ImageRecord). r.size) c.cells.invariant.begun in
    let told = subst (λ r. Makes r c.copy_cell.new.image (with_found c.cells.image c.cells.i (cell_found_at c.cells.image.size bytes (8 * c.cells.i)))) c.in-Err.is c.copy_cell.ensures in
    let given = subst (λ (s : ℕ). with_found c.cells.image c.cells.i (cell_found_at s bytes (8 * c.cells.i)) ≡ Err c.in-Err.found) size told in
    let form : c.in-Err.found ≡ AForm x = cc h in
    no_image_there (length bytes) bytes c.cells.i x plain r refl (refused c.cells.image c.cells.i (cell_found_at (length bytes) bytes (8 * c.cells.i)) c.in-Err.found given ∙ ap Err form) stands is loads

pub returns-clause-image : goal.returns-clause-image
returns-clause-image c =
    let bytes = c.args.state.now.machine.bytes in
    let all : c.cells.i ≡ c.args.used / 8 = omega arith in
    c.cells.invariant.begun ∙ begun_all (length bytes) bytes c.args.used c.cells.i all

pub returns-clause-loaded : goal.returns-clause-loaded
returns-clause-loaded c = λ pair plain allowed h zeros.
    let bytes = c.args.state.now.machine.bytes in
    let all : c.cells.i ≡ c.args.used / 8 = omega arith in
    image_loaded (length bytes) bytes c.args.used c.cells.image pair plain (record { least = c.requires.size.least; most = c.requires.size.most }) allowed
    refl c.requires.most c.requires.aligned (returns-clause-image c) (none_left (length bytes) bytes c.args.used c.cells.i all c.cells.invariant.so_far) h zeros
