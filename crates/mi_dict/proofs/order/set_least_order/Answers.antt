use Rattle.std.proofs.Common.{◌≡◌, ℕ, refl, Ok, drop}
use Rattle.mi_model.specs.Ops.{Ops}
use Rattle.mi_model.specs.Region.{with_cell, with_filled}
use Rattle.mi_model.specs.SearchOrder.{set_least_order}
use Rattle.mi_region.specs.View.{StateView, leading, with_bytes, with_stack}
use Rattle.mi_dict.proofs.order.set_least_order.Goals as goal

-- two cells are put, bytes are filled, and items are dropped, one after another
in_turn : {A C B : Type 0} (ops : A → Ops C B) (s0 s1 s2 s3 s4 : StateView A C B) (a : A) (one list : C) (o1 o2 p n k l w : ℕ)
    → a ≡ s0.arith → one ≡ (ops a).plain l → list ≡ (ops a).region_cell w
    → s1 ≡ with_bytes s0 (with_cell (ops s0.arith) s0.machine.bytes o1 one)
    → s2 ≡ with_bytes s1 (with_cell (ops s1.arith) s1.machine.bytes o2 list)
    → s3 ≡ with_bytes s2 (with_filled s2.machine.bytes p n ((ops s2.arith).byte 0))
    → s4 ≡ with_stack s3 (drop k s3.machine.stack)
    → leading s0 (Ok (tt {0}, record s0.machine { bytes = with_filled (with_cell (ops s0.arith) (with_cell (ops s0.arith) s0.machine.bytes o1 ((ops s0.arith).plain l)) o2 ((ops s0.arith).region_cell w)) p n ((ops s0.arith).byte 0); stack = drop k s0.machine.stack })) ≡ Ok (tt {0}, s4)
in_turn ops s0 s1 s2 s3 s4 a one list o1 o2 p n k l w ea e1 e2 h1 h2 h3 h4 = rw h4 (rw h3 (rw h2 (rw h1 (rw (e1, e2) (rw ea refl)))))

pub returns : goal.returns
unfolding set_least_order
returns g c = in_turn g.A.Arith.ops _ _ _ _ _ _ _ _ 104 112 120 120 1 1 240 c.arith.ensures c.plain.ensures c.region_cell.ensures c.put_system.ensures c.put_system-2.ensures c.clear.ensures.bytes c.cut.ensures
