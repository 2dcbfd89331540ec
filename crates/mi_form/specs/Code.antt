-- What the types of the code mean.
use Rattle.mi_model.specs.Ops.{Test}
use Rattle.mi_model.specs.Ops.Test.{Less, Below}
use Rattle.mi_form.specs.declared.compare.Order.{Order}
use Rattle.mi_form.specs.declared.compare.Order.TheVariants.{Signed, Unsigned}
use Rattle.mi_form.specs.declared.sort.Sort.{Sort as Kind}
use Rattle.mi_form.specs.declared.sort.Sort.TheVariants.{Plain as PlainKind, Data as DataKind, Code as CodeKind, Mixed as MixedKind}
use Rattle.mi_model.specs.Origin.{Sort}
use Rattle.mi_model.specs.Origin.Sort.{Plain, Data, Code, Mixed}

-- the test of an order
abbrev pub test_of : Order → Test
test_of Signed = Less
test_of Unsigned = Below

-- what a sort of the code is in the definitions
abbrev pub meant : Kind → Sort
meant (PlainKind n) = Plain n
meant (DataKind c) = Data c
meant (CodeKind c) = Code c
meant MixedKind = Mixed
