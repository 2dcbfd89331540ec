-- Offsets of addresses, as the walks of a marker read them.
use Rattle.std.proofs.Common.{ℕ, ◌≡◌, ◌+◌, ◌<◌, ◌≤◌, true, false, Option, Some, None, Result, Ok, Err, sym, arith}
use Rattle.std.proofs.lemmas.Bool.{ltb-true, ltb-false}
use Rattle.mi_model.specs.declared.Refusal.{Refusal}
use Rattle.mi_model.specs.Ops.{Ops}
use Rattle.mi_model.specs.Ops.Two.{Add}
use Rattle.mi_model.specs.Ops.Test.{Below}
use Rattle.mi_model.specs.Machine.{after, asked, or_throw, invalid_address}
use Rattle.mi_model.specs.Offsets.{KeepsOffsets}
use Rattle.mi_model.specs.Region.{offset_of}

-- what was answered
answered : {X : Type 0} (r : Result X Refusal) (x : X) → asked r ≡ Ok x → r ≡ Ok x
answered (Ok y) x h = cc
answered (Err z) x h = cc

-- an address that has an offset has that place
place_is : {C B : Type 0} (ops : Ops C B) (x : C) (o : ℕ) → offset_of ops x ≡ Ok o → ops.place x ≡ Ok (Some o)
place_is ops x o h = by_place (ops.place x) h
  where
    by_place : (r : Result (Option ℕ) Refusal) → after (asked r) (λ found. or_throw found invalid_address) ≡ Ok o → r ≡ Ok (Some o)
    by_place (Ok (Some p)) k = cc
    by_place (Ok None) k = cc
    by_place (Err z) k = cc

module _ {C B : Type 0} (ops : Ops C B) (keeps : KeepsOffsets ops) where
  -- the tests of addresses against the old end, by their offsets
  pub high_link : (old y : C) (end q : ℕ) → offset_of ops old ≡ Ok end → asked (ops.test Below y old) ≡ Ok false → offset_of ops y ≡ Ok q → end ≤ q
  high_link old y end q at below link =
      ltb-false q end (sym (keeps.ordered y old q end false (place_is ops y q link) (place_is ops old end at) (answered _ false below)))

  pub low_wordlist : (old w : C) (end o : ℕ) → offset_of ops old ≡ Ok end → asked (ops.test Below w old) ≡ Ok true → offset_of ops w ≡ Ok o → o < end
  low_wordlist old w end o at below found =
      ltb-true o end (sym (keeps.ordered w old o end true (place_is ops w o found) (place_is ops old end at) (answered _ true below)))

  -- the address 8 bytes behind one with an offset has the offset 8 behind it
  pub offset_behind : (w a : C) (o l : ℕ) → offset_of ops w ≡ Ok o → asked (ops.two Add w (ops.plain 8)) ≡ Ok a → offset_of ops a ≡ Ok l → l ≡ o + 8
  offset_behind w a o l found add behind = keeps.added w a o l 8 (omega arith) (place_is ops w o found) (answered _ a add) (place_is ops a l behind)
