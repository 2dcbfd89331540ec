-- The rows of the tags.
use Rattle.std.specs.Prelude.{ℕ, length}
use Rattle.mi_model.specs.Tags.{entry_of, name_of}
use Rattle.mi_vocab.specs.declared.tags.TagRow.{TagRow}

-- what the header of a tag says of its word
abbrev pub row_of : ℕ → TagRow
row_of t = record {
  tag = t;
  immediate = (entry_of t).immediate;
  compile_only = (entry_of t).compile_only;
  length = length (name_of t);
}
