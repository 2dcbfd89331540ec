-- Worked examples of actions over plain numbers, by computation. The region stands at the address 2^33.
use Rattle.std.proofs.Common.{ℕ, ◌≡◌, ◌+◌, ◌-◌, ◌^◌, List, [], ◌∷◌, ◌++◌, replicate, None, Some, Ok, Err, true, false, refl, negsuc}
use Rattle.std.specs.Prelude.{codes}
use Rattle.mi_model.specs.declared.Fault.TheVariants.{Throw}
use Rattle.mi_model.specs.declared.Effect.TheVariants.{Went}
use Rattle.mi_model.specs.declared.Wait.TheVariants.{Idle}
use Rattle.mi_model.specs.Plain.{plain_ops}
use Rattle.mi_model.specs.Ops.{Ops}
use Rattle.mi_model.specs.Machine.{Machine}
use Rattle.mi_model.specs.Region.{tests, cell_at, byte_at, fetch, fetch_at, fetch_byte}
use Rattle.mi_model.specs.Outcome.{outcome_of}
use Rattle.mi_model.specs.Image.{cells_bytes}
use Rattle.mi_model.specs.Arithmetic.{do_plus, do_fm_slash_mod}
use Rattle.mi_model.specs.Control.{do_paren_plus_loop}
use Rattle.mi_model.specs.Stacks.{do_roll, count_of_items}
use Rattle.mi_model.specs.Lookup.{find_from, is_named, word_of_header, sought_byte}
use Rattle.mi_model.specs.Lookup.SoughtName.{Given}
use Rattle.mi_model.specs.Escapes.{unescaped, escape_of}
use Rattle.mi_model.specs.Chains.{chain_length, resolve}
use Rattle.mi_model.specs.Recovery.{recovery_text}
use Rattle.mi_model.specs.Markers.{restore_wordlists}

abbrev base : ℕ
base = 2 ^ 33

abbrev ops : (size : ℕ) → Ops ℕ ℕ
ops size = plain_ops (record { d = 2 ^ 33; k = 2 ^ 46 }) size

-- a machine with these bytes and stacks, the top first, whose ip is at the region's first byte
abbrev machine : (bytes stack rstack : List ℕ) → Machine ℕ ℕ
machine bytes stack rstack = record { bytes = bytes; stack = stack; rstack = rstack; ip = base; due = None; wait = Idle }

-- a sum is taken modulo 2^64
sum_wraps : outcome_of (ops 0) do_plus (machine [] (3 ∷ (2 ^ 64 - 1) ∷ []) []) [] ≡ Ok (Went, machine [] (2 ∷ []) [])
unfolding plain_ops tests
sum_wraps = refl

-- the remainder and the quotient of -7 by 2, rounded down: 1 and -4
quotient_is_floored : outcome_of (ops 0) do_fm_slash_mod (machine [] (2 ∷ (2 ^ 64 - 1) ∷ (2 ^ 64 - 7) ∷ []) []) [] ≡ Ok (Went, machine [] ((2 ^ 64 - 4) ∷ 1 ∷ []) [])
unfolding plain_ops tests
quotient_is_floored = refl

-- +LOOP at the index 9 below the limit 10: by 2 it crosses the limit, and ip goes on
loop_ends : outcome_of (ops 0) do_paren_plus_loop (machine [] (2 ∷ []) (9 ∷ 10 ∷ [])) [] ≡ Ok (Went, record (machine [] [] []) { ip = base + 8 })
unfolding plain_ops tests
loop_ends = refl

-- at 10, the limit, by -1 it crosses it back
loop_ends_backwards : outcome_of (ops 0) do_paren_plus_loop (machine [] ((2 ^ 64 - 1) ∷ []) (10 ∷ 10 ∷ [])) [] ≡ Ok (Went, record (machine [] [] []) { ip = base + 8 })
unfolding plain_ops tests
loop_ends_backwards = refl

-- by 1 it comes to 10 from 8 no sooner than at the next turn, and ip becomes the cell at ip
loop_goes_on : outcome_of (ops 8) do_paren_plus_loop (machine (cells_bytes (77 ∷ [])) (1 ∷ []) (8 ∷ 10 ∷ [])) [] ≡ Ok (Went, record (machine (cells_bytes (77 ∷ [])) [] (9 ∷ 10 ∷ [])) { ip = 77 })
unfolding plain_ops tests cell_at fetch fetch_at
loop_goes_on = refl

-- 2 ROLL brings up the third item
roll_brings_up : outcome_of (ops 0) do_roll (machine [] (2 ∷ 30 ∷ 20 ∷ 10 ∷ 0 ∷ []) []) [] ≡ Ok (Went, machine [] (10 ∷ 30 ∷ 20 ∷ 0 ∷ []) [])
unfolding plain_ops tests count_of_items
roll_brings_up = refl

-- as many items as ROLL counts must be there
roll_counts : outcome_of (ops 0) do_roll (machine [] (1 ∷ 30 ∷ []) []) [] ≡ Err (Throw (negsuc 3))
unfolding plain_ops tests count_of_items
roll_counts = refl

-- a chain of two leaves, the cells 1 and 0 of a region: both become the target
abbrev leaves : List ℕ
leaves = cells_bytes (0 ∷ base ∷ [])

chain_is_counted : outcome_of (ops 16) chain_length (machine leaves [] []) ((base + 8) ∷ []) ≡ Ok (2, machine leaves [] [])
unfolding plain_ops chain_length cell_at fetch fetch_at
chain_is_counted = refl

chain_is_resolved : outcome_of (ops 16) (resolve 2) (machine leaves [] []) ((base + 8) ∷ (99 ∷ [])) ≡ Ok (tt, machine (cells_bytes (99 ∷ 99 ∷ [])) [] [])
unfolding plain_ops cell_at fetch fetch_at
chain_is_resolved = refl

-- every escape of S\"
escapes_are_replaced : unescaped (codes "\\a\\b\\e\\f\\l\\m\\n\\q\\r\\t\\v\\z\\\"\\\\\\x41") ≡ Some (7 ∷ 8 ∷ 27 ∷ 12 ∷ 10 ∷ 13 ∷ 10 ∷ 10 ∷ 34 ∷ 13 ∷ 9 ∷ 11 ∷ 0 ∷ 34 ∷ 92 ∷ 65 ∷ [])
unfolding escape_of
escapes_are_replaced = refl

-- \x with one digit is bad
short_escape_is_bad : unescaped (codes "\\x4") ≡ None
unfolding escape_of
short_escape_is_bad = refl

-- ABORT" prints an LF, and ABORT nothing
abort_quote_prints : recovery_text (negsuc 1) ≡ 10 ∷ []
unfolding recovery_text
abort_quote_prints = refl

abort_prints : recovery_text (negsuc 0) ≡ []
unfolding recovery_text
abort_prints = refl

-- two headers with the name X, of which the newer one, at 64, is hidden: its link is the address of the other one, at 0
abbrev header : (link flags : ℕ) → List ℕ
header link flags = cells_bytes (link ∷ flags ∷ 88 ∷ 0 ∷ 0 ∷ 0 ∷ 0 ∷ 0 ∷ [])

abbrev headers : (hidden : ℕ) → List ℕ
headers hidden = header 0 257 ++ header base (1 + hidden)

-- the older one, which is immediate, is found by its name in small letters
hidden_header_is_passed : outcome_of (ops 128) (find_from 2 (Given (codes "x"))) (machine (headers 1024) [] []) ((base + 64) ∷ [])
    ≡ Ok (Some (record { token = 48; immediate = true; compile_only = false }), machine (headers 1024) [] [])
unfolding plain_ops cell_at fetch fetch_at byte_at fetch_byte is_named word_of_header sought_byte
hidden_header_is_passed = refl

-- else the newer one
newest_is_found : outcome_of (ops 128) (find_from 2 (Given (codes "x"))) (machine (headers 0) [] []) ((base + 64) ∷ [])
    ≡ Ok (Some (record { token = 112; immediate = false; compile_only = false }), machine (headers 0) [] [])
unfolding plain_ops cell_at fetch fetch_at byte_at fetch_byte is_named word_of_header sought_byte
newest_is_found = refl

-- a marker's part: the wordlist at 240 goes back from the header at 320 to that at 256, which lies below the old end 264
abbrev wordlist_region : (head : ℕ) → List ℕ
wordlist_region head = replicate 240 0 ++ (cells_bytes (head ∷ 0 ∷ 0 ∷ []) ++ (replicate 56 0 ++ cells_bytes ((base + 256) ∷ [])))

marker_unlinks : outcome_of (ops 328) (restore_wordlists 5 1) (machine (wordlist_region (base + 320)) [] []) ((base + 264) ∷ ((base + 240) ∷ []))
    ≡ Ok (tt, machine (wordlist_region (base + 256)) [] [])
unfolding plain_ops cell_at fetch fetch_at
marker_unlinks = refl
