-- Where the source stands in the region.
use Rattle.std.specs.Prelude.{◌+◌, min, nat_le, List, Result, Ok, length}
use Rattle.mi_model.specs.declared.Fault.{Fault}
use Rattle.mi_model.specs.Ops.{Ops}
use Rattle.mi_model.specs.Layout.{in_cell, source_address_cell, source_length_cell}
use Rattle.mi_model.specs.Machine.{◌>>=◌, ◌>>◌, asked, unless_throw, invalid_address}
use Rattle.mi_model.specs.Region.{fetch_at, offset_of}
use Rattle.mi_dict.specs.declared.parsing.Source.{Source}

-- the source, as it is found for parsing, else throw -9
abbrev pub source_in : {C B : Type 0} → Ops C B → List B → Result Source Fault
source_in ops bytes = do
  in_offset ← fetch_at ops bytes in_cell
  i ← asked (ops.number in_offset)
  count ← fetch_at ops bytes source_length_cell
  n ← asked (ops.number count)
  address ← fetch_at ops bytes source_address_cell
  a ← offset_of ops address
  unless_throw (nat_le (a + n) (length bytes)) invalid_address
  Ok (record { place = a; rest = a + min i n; end = a + n })
