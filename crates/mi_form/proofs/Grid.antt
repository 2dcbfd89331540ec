-- Numbers modulo g * w, where some of them are multiples of g. Nothing here says which g and w these are.
use Rattle.std.proofs.Common.{◌≡◌, ℕ, ◌+◌, ◌-◌, ◌*◌, ◌/◌, ◌%◌, ◌<◌, ◌≤◌, sym, ap, ◌∙◌, arith}
use Rattle.std.proofs.Math.Nat.{add-mul-mod_self_left, div-add-mod, mod-eq_of_lt, mod-lt, mod-add-mod}
use Rattle.std.proofs.lemmas.Nat.{mul-add-lt, div_below, same_from_place}

pub same_mod : (m x y i j : ℕ) → x + m * i ≡ y + m * j → x % m ≡ y % m
same_mod m x y i j e = sym (add-mul-mod_self_left x m i) ∙ (ap (λ (n : ℕ). n % m) e ∙ add-mul-mod_self_left y m j)

-- the quotient of a multiple
pub multiple : (g d : ℕ) → d % g ≡ 0 → g * (d / g) ≡ d
multiple g d h = let e : g * (d / g) + d % g ≡ d = div-add-mod d g in omega arith

-- what parts and their remainders give at two bases, by their quotients
parts_equation : (g w d k qd qk a b c qa ra qb rb qc rc : ℕ)
    → g * qd ≡ d → g * qk ≡ k → w * qa + ra ≡ a → w * qb + rb ≡ b → g * w * qc + rc ≡ c
    → ra * d + rb * k + rc + g * w * (qa * qd + qb * qk + qc) ≡ a * d + b * k + c + g * w * 0
parts_equation g w d k qd qk a b c qa ra qb rb qc rc ed ek ea eb ec =
    let ad : (w * qa + ra) * d ≡ a * d = ap (λ (n : ℕ). n * d) ea in
    let bk : (w * qb + rb) * k ≡ b * k = ap (λ (n : ℕ). n * k) eb in
    let wd : w * qa * (g * qd) ≡ w * qa * d = ap (λ (n : ℕ). w * qa * n) ed in
    let wk : w * qb * (g * qk) ≡ w * qb * k = ap (λ (n : ℕ). w * qb * n) ek in
    omega arith

-- a and b count modulo w where the bases are multiples of g
pub parts_mod : (g w a b c d k : ℕ) → d % g ≡ 0 → k % g ≡ 0
    → (a % w * d + b % w * k + c % (g * w)) % (g * w) ≡ (a * d + b * k + c) % (g * w)
parts_mod g w a b c d k hd hk =
    same_mod (g * w) (a % w * d + b % w * k + c % (g * w)) (a * d + b * k + c) (a / w * (d / g) + b / w * (k / g) + c / (g * w)) 0
    (parts_equation g w d k (d / g) (k / g) a b c (a / w) (a % w) (b / w) (b % w) (c / (g * w)) (c % (g * w))
    (multiple g d hd) (multiple g k hk) (div-add-mod a w) (div-add-mod b w) (div-add-mod c (g * w)))

-- a difference of parts, by quotients
difference_equation : (m d k xa na ya qa la xb nb yb qb lb xc nc yc qc lc qx rx qy ry ny : ℕ)
    → na + ya ≡ m → nb + yb ≡ m → nc + yc ≡ m
    → m * qa + la ≡ xa + na → m * qb + lb ≡ xb + nb → m * qc + lc ≡ xc + nc
    → m * qx + rx ≡ xa * d + xb * k + xc → m * qy + ry ≡ ya * d + yb * k + yc → ny + ry ≡ m
    → la * d + lb * k + lc + m * (qa * d + qb * k + qc + qy) ≡ rx + ny + m * (qx + d + k)
difference_equation m d k xa na ya qa la xb nb yb qb lb xc nc yc qc lc qx rx qy ry ny ea eb ec fa fb fc fx fy ey =
    let ad : (na + ya) * d ≡ m * d = ap (λ (n : ℕ). n * d) ea in
    let bk : (nb + yb) * k ≡ m * k = ap (λ (n : ℕ). n * k) eb in
    let la_d : (m * qa + la) * d ≡ (xa + na) * d = ap (λ (n : ℕ). n * d) fa in
    let lb_k : (m * qb + lb) * k ≡ (xb + nb) * k = ap (λ (n : ℕ). n * k) fb in
    omega arith

-- the difference of parts modulo m gives the difference modulo m
pub difference_mod : (m xa ya xb yb xc yc d k : ℕ) → 0 < m → ya ≤ m → yb ≤ m → yc ≤ m
    → ((xa + (m - ya)) % m * d + (xb + (m - yb)) % m * k + (xc + (m - yc)) % m) % m ≡ ((xa * d + xb * k + xc) % m + (m - (ya * d + yb * k + yc) % m)) % m
difference_mod m xa ya xb yb xc yc d k pos ha hb hc =
    let below : (ya * d + yb * k + yc) % m < m = mod-lt (ya * d + yb * k + yc) pos in
    same_mod m ((xa + (m - ya)) % m * d + (xb + (m - yb)) % m * k + (xc + (m - yc)) % m) ((xa * d + xb * k + xc) % m + (m - (ya * d + yb * k + yc) % m))
    ((xa + (m - ya)) / m * d + (xb + (m - yb)) / m * k + (xc + (m - yc)) / m + (ya * d + yb * k + yc) / m)
    ((xa * d + xb * k + xc) / m + d + k)
    (difference_equation m d k xa (m - ya) ya ((xa + (m - ya)) / m) ((xa + (m - ya)) % m) xb (m - yb) yb ((xb + (m - yb)) / m) ((xb + (m - yb)) % m)
    xc (m - yc) yc ((xc + (m - yc)) / m) ((xc + (m - yc)) % m) ((xa * d + xb * k + xc) / m) ((xa * d + xb * k + xc) % m)
    ((ya * d + yb * k + yc) / m) ((ya * d + yb * k + yc) % m) (m - (ya * d + yb * k + yc) % m)
    (omega arith) (omega arith) (omega arith)
    (div-add-mod (xa + (m - ya)) m) (div-add-mod (xb + (m - yb)) m) (div-add-mod (xc + (m - yc)) m)
    (div-add-mod (xa * d + xb * k + xc) m) (div-add-mod (ya * d + yb * k + yc) m) (omega arith))

-- what is added to both sides goes away
pub cancel_mod : (m s x y : ℕ) → 0 < m → (s + x) % m ≡ (s + y) % m → x % m ≡ y % m
cancel_mod m s x y pos e =
    let r = s % m in
    let below : r < m = mod-lt s pos in
    let shifted : (n : ℕ) → (((s + n) % m) + (m - r)) % m ≡ n % m = λ n.
    (let whole : m * (s / m) + r ≡ s = div-add-mod s m in
    mod-add-mod (s + n) m (m - r) ∙ same_mod m (s + n + (m - r)) n 0 (s / m + 1) (omega arith)) in
    sym (shifted x) ∙ (ap (λ (n : ℕ). (n + (m - r)) % m) e ∙ shifted y)

-- a part that counts modulo w, from its product with g
factor_mod : (g w a b : ℕ) → 0 < g → a < w → b < w → (a * g) % (g * w) ≡ (b * g) % (g * w) → a ≡ b
factor_mod g w a b pos ha hb e =
    let la : a * g + 0 < g * w = mul-add-lt a g 0 w ha pos in
    let lb : b * g + 0 < g * w = mul-add-lt b g 0 w hb pos in
    let na : a * g < g * w = omega arith in
    let nb : b * g < g * w = omega arith in
    let same : a * g ≡ b * g = sym (mod-eq_of_lt na) ∙ (e ∙ mod-eq_of_lt nb) in
    (same_from_place a 0 b 0 g pos pos (omega arith)).0

-- forms with the same value where a base is one grid step further have the same factor of that base
step_mod : (g w s t a b : ℕ) → 0 < g → 0 < g * w → a < w → b < w → s % (g * w) ≡ t % (g * w) → (s + a * g) % (g * w) ≡ (t + b * g) % (g * w) → a ≡ b
step_mod g w s t a b pos whole ha hb e f =
    factor_mod g w a b pos ha hb
    (cancel_mod (g * w) (s % (g * w)) (a * g) (b * g) whole
    (mod-add-mod s (g * w) (a * g) ∙ (f ∙ (sym (mod-add-mod t (g * w) (b * g)) ∙ ap (λ (n : ℕ). (n + b * g) % (g * w)) (sym e)))))

-- forms with the same values at three pairs that are one grid step apart are the same
pub same_parts : (g w a b c a' b' c' d k : ℕ) → 0 < g → 0 < g * w → a < w → b < w → c < g * w → a' < w → b' < w → c' < g * w
    → (a * d + b * k + c) % (g * w) ≡ (a' * d + b' * k + c') % (g * w)
    → (a * (d + g) + b * k + c) % (g * w) ≡ (a' * (d + g) + b' * k + c') % (g * w)
    → (a * d + b * (k + g) + c) % (g * w) ≡ (a' * d + b' * (k + g) + c') % (g * w)
    → (a ≡ a') × (b ≡ b') × (c ≡ c')
same_parts g w a b c a' b' c' d k pos whole ha hb hc ha' hb' hc' e f h =
    let x = a * d + b * k + c in
    let y = a' * d + b' * k + c' in
    let ea : a ≡ a' = step_mod g w x y a a' pos whole ha ha' e
    (ap (λ (n : ℕ). n % (g * w)) (omega arith) ∙ (f ∙ ap (λ (n : ℕ). n % (g * w)) (omega arith))) in
    let eb : b ≡ b' = step_mod g w x y b b' pos whole hb hb' e
    (ap (λ (n : ℕ). n % (g * w)) (omega arith) ∙ (h ∙ ap (λ (n : ℕ). n % (g * w)) (omega arith))) in
    let low : (a * d + b * k + c) % (g * w) ≡ (a * d + b * k + c') % (g * w) = e ∙ (ap (λ (n : ℕ). (n * d + b' * k + c') % (g * w)) (sym ea) ∙ ap (λ (n : ℕ). (a * d + n * k + c') % (g * w)) (sym eb)) in
    let ec : c % (g * w) ≡ c' % (g * w) = cancel_mod (g * w) (a * d + b * k) c c' whole low in
    (ea, eb, sym (mod-eq_of_lt hc) ∙ (ec ∙ mod-eq_of_lt hc'))

-- a multiple of g and a remainder, modulo g * w
pub block_mod : (g w n r : ℕ) → 0 < w → r < g → (g * n + r) % (g * w) ≡ g * (n % w) + r
block_mod g w n r pos h =
    let s = n % w in
    let q = n / w in
    let below : s < w = mod-lt n pos in
    let e : w * q + s ≡ n = div-add-mod n w in
    let ge : g * (w * q + s) ≡ g * n = ap (λ (i : ℕ). g * i) e in
    let l : s * g + r < g * w = mul-add-lt s g r w below h in
    let lt : g * s + r < g * w = omega arith in
    same_mod (g * w) (g * n + r) (g * s + r) 0 q (omega arith) ∙ mod-eq_of_lt lt

-- an operation on the low part alone may be done before a multiple of g is added, or after
pub low_part_mod : (op : ℕ → ℕ) (g w s c : ℕ) → 0 < g → 0 < w → c < g * w → s % g ≡ 0
    → ((q r : ℕ) → q < w → r < g → op (g * q + r) ≡ g * q + op r)
    → ((r : ℕ) → r < g → op r < g)
    → (s + op c) % (g * w) ≡ op ((s + c) % (g * w))
low_part_mod op g w s c gpos wpos hc hs apart low =
    let qs = s / g in
    let q = c / g in
    let r = c % g in
    let es : g * qs ≡ s = multiple g s hs in
    let ec : g * q + r ≡ c = div-add-mod c g in
    let hr : r < g = mod-lt c gpos in
    let turned : c < w * g = omega arith in
    let hq : q < w = div_below c g w gpos turned in
    let hn : (qs + q) % w < w = mod-lt (qs + q) wpos in
    let one : op c ≡ g * q + op r = ap op (sym ec) ∙ apart q r hq hr in
    let left : (s + op c) % (g * w) ≡ g * ((qs + q) % w) + op r =
    ap (λ (n : ℕ). (s + n) % (g * w)) one
    ∙ (ap (λ (n : ℕ). (n + (g * q + op r)) % (g * w)) (sym es)
    ∙ (ap (λ (n : ℕ). n % (g * w)) (omega arith) ∙ block_mod g w (qs + q) (op r) wpos (low r hr))) in
    let right : (s + c) % (g * w) ≡ g * ((qs + q) % w) + r =
    ap (λ (n : ℕ). n % (g * w)) (omega arith) ∙ block_mod g w (qs + q) r wpos hr in
    left ∙ sym (ap op right ∙ apart ((qs + q) % w) r hn hr)
