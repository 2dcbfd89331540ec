-- The fixed image of a plain region.
use Rattle.std.proofs.Common.{◌≡◌, ℕ, List, refl, ap, sym, subst, ◌∙◌, length, drop, replicate, ◌-◌}
use Rattle.mi_model.specs.declared.Pair.{Pair}
use Rattle.mi_model.specs.Plain.{plain_ops}
use Rattle.mi_model.specs.Image.{ImageRecord, fixed_record, loaded}
use Rattle.mi_arith.specs.declared.plain.Plain.{Plain}
use Rattle.mi_region.specs.View.{StateView}

-- a plain byte 0 is 0
pub plain_zero : (pair : Pair) (size : ℕ) → (plain_ops pair size).byte 0 ≡ 0
unfolding plain_ops
plain_zero pair size = refl

pub pair_of_fixed : (pair : Pair) (used : ℕ) (region : List ℕ) (image : ImageRecord) → image ≡ fixed_record pair used region → image.pair ≡ pair
unfolding fixed_record
pair_of_fixed pair used region image e = ap (λ (r : ImageRecord). r.pair) e

-- loading the image of a region that is tidy gives the region
pub image_loaded : (view state : StateView Plain ℕ ℕ) (used : ℕ) (image : ImageRecord) → view ≡ state → image ≡ fixed_record view.arith.pair used view.machine.bytes
    → (drop used view.machine.bytes ≡ replicate (length view.machine.bytes - used) 0 → loaded image image.pair ≡ view.machine.bytes)
    → drop used state.machine.bytes ≡ replicate (length state.machine.bytes - used) ((plain_ops state.arith.pair state.arith.size).byte 0)
    → loaded image state.arith.pair ≡ state.machine.bytes
image_loaded view state used image e fixed back cleared =
    let here : drop used state.machine.bytes ≡ replicate (length state.machine.bytes - used) 0 → loaded image image.pair ≡ state.machine.bytes =
    subst (λ (v : StateView Plain ℕ ℕ). drop used v.machine.bytes ≡ replicate (length v.machine.bytes - used) 0 → loaded image image.pair ≡ v.machine.bytes) e back in
    let same : image.pair ≡ state.arith.pair = pair_of_fixed view.arith.pair used view.machine.bytes image fixed ∙ ap (λ (v : StateView Plain ℕ ℕ). v.arith.pair) e in
    let zeros : drop used state.machine.bytes ≡ replicate (length state.machine.bytes - used) 0 =
    cleared ∙ ap (λ (z : ℕ). replicate (length state.machine.bytes - used) z) (plain_zero state.arith.pair state.arith.size) in
    subst (λ (p : Pair). loaded image p ≡ state.machine.bytes) same (here zeros)
