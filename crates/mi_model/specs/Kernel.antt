-- Kernels: which words a build begins with.
use Rattle.std.specs.Prelude.{ℕ, ◌+◌, Bool, true, cond, List, length}
use Rattle.mi_model.specs.Tags.{entry_of, name_of}
use Rattle.mi_model.specs.Prelude.{prelude_text}

-- a kernel: the tags that have an action, whose headers alone are visible; the offset that DP has in the seed; and a
-- text, the prelude, that a build interprets before its sources
pub record Kernel : Type 0 where
  pub has : ℕ → Bool
  pub end : ℕ
  pub prelude : List ℕ

-- the whole kernel: all 120 words, and the prelude, which begins behind their headers
abbrev pub whole_kernel : Kernel
whole_kernel = record { has = λ t. true; end = 11776; prelude = prelude_text }

-- the flags cell of a tag's header: the length of the name, 256 if immediate, 512 if compile-only, 1024 if hidden
abbrev pub flags_of : Kernel → ℕ → ℕ
flags_of kernel t = length (name_of t) + cond (entry_of t).immediate 256 0 + cond (entry_of t).compile_only 512 0 + cond (kernel.has t) 0 1024
