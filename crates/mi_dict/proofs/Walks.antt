-- One step more of a walk.
use Rattle.std.proofs.Common.{◌≡◌, ℕ, Bool, zero, suc, ◌+◌, ◌-◌, ◌<◌, ◌≤◌, ◌*◌, List, Ok, ap, ◌∙◌, arith}
use Rattle.mi_model.specs.Ops.{Ops}
use Rattle.mi_model.specs.Machine.{Machine}
use Rattle.mi_model.specs.Region.{with_filled}
use Rattle.mi_model.specs.Outcome.{outcome_of}
use Rattle.mi_model.specs.Parsing.{scan, scan_byte, scan_until, scan_until_byte}
use Rattle.mi_model.specs.ParsingWords.{skip_delimiters, skip_byte}
use Rattle.mi_model.specs.Strings.{scan_escaped, scan_escaped_byte}
use Rattle.mi_model.specs.SearchOrder.{store_lists, store_list}
use Rattle.mi_model.specs.Lookup.{SoughtName, find_from, visit, same_text, same_byte, find_in_order, find_at}

pub scan_next : {C B : Type 0} (ops : Ops C B) (blank : Bool) (at end : ℕ) (m : Machine C B) (names : List C) → at < end
    → outcome_of ops (scan blank (end - at) at) m names ≡ outcome_of ops (scan_byte blank at (scan blank (end - (at + 1)) (at + 1))) m names
scan_next ops blank at end m names h = let e : end - at ≡ suc (end - (at + 1)) = omega arith in ap (λ (k : ℕ). outcome_of ops (scan blank k at) m names) e

pub scan_until_next : {C B : Type 0} (ops : Ops C B) (delimiter at end : ℕ) (m : Machine C B) (names : List C) → at < end
    → outcome_of ops (scan_until delimiter (end - at) at) m names ≡ outcome_of ops (scan_until_byte delimiter at (scan_until delimiter (end - (at + 1)) (at + 1))) m names
scan_until_next ops delimiter at end m names h = let e : end - at ≡ suc (end - (at + 1)) = omega arith in ap (λ (k : ℕ). outcome_of ops (scan_until delimiter k at) m names) e

pub skip_delimiters_next : {C B : Type 0} (ops : Ops C B) (delimiter at end : ℕ) (m : Machine C B) (names : List C) → at < end
    → outcome_of ops (skip_delimiters delimiter (end - at) at) m names ≡ outcome_of ops (skip_byte delimiter at (skip_delimiters delimiter (end - (at + 1)) (at + 1))) m names
skip_delimiters_next ops delimiter at end m names h = let e : end - at ≡ suc (end - (at + 1)) = omega arith in ap (λ (k : ℕ). outcome_of ops (skip_delimiters delimiter k at) m names) e

pub scan_escaped_next : {C B : Type 0} (ops : Ops C B) (taken : Bool) (at end : ℕ) (m : Machine C B) (names : List C) → at < end
    → outcome_of ops (scan_escaped taken (end - at) at) m names ≡ outcome_of ops (scan_escaped_byte taken at (λ next. scan_escaped next (end - (at + 1)) (at + 1))) m names
scan_escaped_next ops taken at end m names h = let e : end - at ≡ suc (end - (at + 1)) = omega arith in ap (λ (k : ℕ). outcome_of ops (scan_escaped taken k at) m names) e

pub store_lists_next : {C B : Type 0} (ops : Ops C B) (n i : ℕ) (m : Machine C B) (names : List C) → i < n
    → outcome_of ops (store_lists (n - i) i) m names ≡ outcome_of ops (store_list i (store_lists (n - (i + 1)) (i + 1))) m names
store_lists_next ops n i m names h = let e : n - i ≡ suc (n - (i + 1)) = omega arith in ap (λ (k : ℕ). outcome_of ops (store_lists k i) m names) e

pub store_lists_done : {C B : Type 0} (ops : Ops C B) (n i : ℕ) (m : Machine C B) (names : List C) → i ≤ n → n ≤ i
    → outcome_of ops (store_lists (n - i) i) m names ≡ Ok (tt, record m { bytes = with_filled m.bytes (112 + 8 * n) (128 - 8 * n) (ops.byte 0) })
store_lists_done ops n i m names h k =
    let e : n - i ≡ 0 = omega arith in
    let f : i ≡ n = omega arith in
    ap (λ (j : ℕ). outcome_of ops (store_lists j i) m names) e ∙ ap (λ (j : ℕ). outcome_of ops (store_lists 0 j) m names) f

pub same_text_next : {C B : Type 0} (ops : Ops C B) (sought : SoughtName) (n i : ℕ) (m : Machine C B) (names : List C) → i < n
    → outcome_of ops (same_text sought (n - i) i) m names ≡ outcome_of ops (same_byte sought i (same_text sought (n - (i + 1)) (i + 1))) m names
same_text_next ops sought n i m names h = let e : n - i ≡ suc (n - (i + 1)) = omega arith in ap (λ (k : ℕ). outcome_of ops (same_text sought k i) m names) e

pub find_next : {C B : Type 0} (ops : Ops C B) (left : ℕ) (sought : SoughtName) (m : Machine C B) (names : List C) → 0 < left
    → outcome_of ops (find_from left sought) m names ≡ outcome_of ops (visit sought (find_from (left - 1) sought)) m names
find_next ops zero sought m names h = absurd (omega arith)
find_next ops (suc left) sought m names h = let e : left ≡ suc left - 1 = omega arith in ap (λ (k : ℕ). outcome_of ops (visit sought (find_from k sought)) m names) e

pub find_in_order_next : {C B : Type 0} (ops : Ops C B) (sought : SoughtName) (n i : ℕ) (m : Machine C B) (names : List C) → i < n
    → outcome_of ops (find_in_order (n - i) i sought) m names ≡ outcome_of ops (find_at sought i (find_in_order (n - (i + 1)) (i + 1) sought)) m names
find_in_order_next ops sought n i m names h = let e : n - i ≡ suc (n - (i + 1)) = omega arith in ap (λ (k : ℕ). outcome_of ops (find_in_order k i sought) m names) e
