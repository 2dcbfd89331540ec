use Rattle.std.proofs.Common.{◌≡◌, ◌/◌, ◌%◌, ◌^◌, ℕ, sym, arith, eq-eqb, length, ◌-◌}
use Rattle.std.proofs.lemmas.Bool.{both_ways, not_from_true, not-false, eqb-true}
use Rattle.mi_bitmap.proofs.Bits.{spare_low, low_spare}
use Rattle.mi_bitmap.proofs.bitmap.has_spare.Goals as goal

pub returns-in-Some-clause-set : goal.returns-in-Some-clause-set
returns-in-Some-clause-set c = λ set clear.
    let last : ℕ = c.in-Some.last.now in
    let high : last / 2 ^ (c.args.cells % 8) ≡ 0 =
    low_spare c.args.bytes.now c.args.cells last c.requires (sym (c.in-Some.ensures.item.3.1 0))
    (let fits = c.type_inv.bytes in let is = c.in-Some.ensures.item.3.1 0 in omega (arith, c.type_inv.bytes (length c.args.bytes.now - 1))) c.if-cells-ne0.true clear
    in both_ways _ (not_from_true _ (eq-eqb (last / 2 ^ (c.args.cells % 8)) 0 high)) set

pub returns-in-Some-clause-clear : goal.returns-in-Some-clause-clear
returns-in-Some-clause-clear c = λ unset.
    spare_low c.args.bytes.now c.args.cells c.in-Some.last.now c.requires (sym (c.in-Some.ensures.item.3.1 0))
    (eqb-true _ 0 (not-false _ unset)) c.if-cells-ne0.true
