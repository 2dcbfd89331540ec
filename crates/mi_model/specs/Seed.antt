-- The seed: the region that every build begins with.
use Rattle.std.specs.Prelude.{ℕ, ◌+◌, ◌-◌, ◌*◌, zero, suc, [], replicate, None, cond, ◌==◌}
use Rattle.mi_model.specs.declared.Wait.TheVariants.{Idle}
use Rattle.mi_model.specs.Layout.{dp_cell, base_cell, source_address_cell, current_cell, latest_cell, leaves_cell, hld_cell, order_count_cell, order_cell, forth_wordlist, voc_cell, interpreter_loop, after_entry, line_buffer, hold_end, dictionary}
use Rattle.mi_model.specs.Ops.{Ops}
use Rattle.mi_model.specs.Machine.{Machine}
use Rattle.mi_model.specs.Action.{Operand, Action, ◌>>◌, give, call, part_of, tail}
use Rattle.mi_model.specs.Action.Operand.{Plain, Address, CodeAddress}
use Rattle.mi_model.specs.Action.AnswerKind.{Nothing}
use Rattle.mi_model.specs.Parts.{put_cell, put_text, token_of}
use Rattle.mi_model.specs.Tags.{name_of}
use Rattle.mi_model.specs.Kernel.{Kernel, flags_of}

-- zeros, empty stacks, no due token and no wait
abbrev pub blank_machine : {C B : Type 0} → Ops C B → (size : ℕ) → Machine C B
blank_machine ops size = record {
  bytes = replicate size (ops.byte 0);
  stack = [];
  rstack = [];
  ip = ops.plain 0;
  due = None;
  wait = Idle;
}

-- where the header of a tag stands: 64 bytes each from 4096 on
abbrev pub header_offset : ℕ → ℕ
header_offset t = dictionary + 64 * t

-- the link of a tag's header: the header of the tag before it
abbrev pub link_of : ℕ → Operand
link_of t = cond (t == 0) (Plain 0) (Address (header_offset t - 64))

-- the header of a tag: link, flags, name, code field; the second cell is 0
unfoldable pub seed_header : Kernel → ℕ → Action Nothing
seed_header kernel t = part_of do
  put_cell (header_offset t) (link_of t)
  put_cell (header_offset t + 8) (Plain (flags_of kernel t))
  put_text (header_offset t + 16) (name_of t)
  put_cell (header_offset t + 48) (CodeAddress t)

-- the header of a tag, and then the rest
abbrev pub seed_one : Kernel → (t : ℕ) → Action Nothing → Action Nothing
seed_one kernel t rest = part_of do
  call (seed_header kernel t) []
  tail rest

-- so many headers, from that of tag t on
abbrev pub seed_headers : Kernel → (left t : ℕ) → Action Nothing
seed_headers kernel zero t = part_of (give tt)
seed_headers kernel (suc left) t = seed_one kernel t (seed_headers kernel left (t + 1))

-- The system cells that aren't 0: DP, BASE, the source address, CURRENT, LATEST, LEAVES (1 is no loop), HLD, the
-- search order of FORTH alone, the head of the FORTH wordlist, VOC, the interpreter loop, and BYE behind an entry word.
unfoldable pub seed_system : Kernel → Action Nothing
seed_system kernel = part_of do
  put_cell dp_cell (Address kernel.end)
  put_cell base_cell (Plain 10)
  put_cell source_address_cell (Address line_buffer)
  put_cell current_cell (Address forth_wordlist)
  put_cell latest_cell (Address (header_offset 119))
  put_cell leaves_cell (Plain 1)
  put_cell hld_cell (Address hold_end)
  put_cell order_count_cell (Plain 1)
  put_cell (order_cell 0) (Address forth_wordlist)
  put_cell forth_wordlist (Address (header_offset 119))
  put_cell voc_cell (Address forth_wordlist)
  put_cell interpreter_loop (token_of 20)  -- (INTERPRET)
  put_cell (interpreter_loop + 8) (token_of 10)  -- (BRANCH)
  put_cell (interpreter_loop + 16) (Address interpreter_loop)
  put_cell after_entry (token_of 0)  -- BYE

-- the system cells, and the headers of all 120 tags
unfoldable pub seed : Kernel → Action Nothing
seed kernel = part_of do
  call (seed_system kernel) []
  tail (seed_headers kernel 120 0)

-- the seeded machine of a size, whose ip is at the interpreter loop
abbrev pub at_loop : {C B : Type 0} → Ops C B → Machine C B → Machine C B
at_loop ops m = record m { ip = ops.region_cell interpreter_loop }
