-- Why two images have no common one.
use Rattle.std.specs.Prelude.{ℕ, ◌≡◌, ◌⊎◌, ◌==◌, ◌||◌, cond, Option, None, Some}
use Rattle.mi_model.specs.declared.Kind.{Kind}
use Rattle.mi_model.specs.declared.Kind.TheVariants.{Relocatable, Fixed}
use Rattle.mi_model.specs.declared.Pair.{Pair}
use Rattle.mi_model.specs.Image.{ImageRecord}
use Rattle.mi_model.specs.Common.{DifferingCell, first_differing}
use Rattle.mi_compare.specs.declared.fault.CompareFault.{CompareFault}
use Rattle.mi_compare.specs.declared.fault.CompareFault.TheVariants.{NotFixed, SizesDiffer, SamePair, Cell, NoMemory}

-- what comes after a check: the first refusal
abbrev pub or_else : Option CompareFault → Option CompareFault → Option CompareFault
or_else (Some fault) rest = Some fault
or_else None rest = rest

-- the first of the two that is not fixed
abbrev pub not_fixed : Kind → Kind → Option CompareFault
not_fixed Relocatable second = Some (NotFixed 1)
not_fixed Fixed Relocatable = Some (NotFixed 2)
not_fixed Fixed Fixed = None

-- two numbers that are to be equal
abbrev pub sizes_differ : ℕ → ℕ → Option CompareFault
sizes_differ first second = cond (first == second) None (Some (SizesDiffer first second))

-- two pairs that are to differ in both bases
abbrev pub same_pair : Pair → Pair → Option CompareFault
same_pair first second = cond ((first.d == second.d) || (first.k == second.k)) (Some SamePair) None

-- a cell that nothing explains
abbrev pub differing_cell : Option DifferingCell → Option CompareFault
differing_cell (Some c) = Some (Cell c.offset c.first c.second)
differing_cell None = None

-- what the headers of two images refuse
abbrev pub header_refusal : ImageRecord → ImageRecord → Option CompareFault
header_refusal x y =
    or_else (not_fixed x.kind y.kind) (or_else (sizes_differ x.size y.size) (or_else (sizes_differ x.used y.used) (same_pair x.pair y.pair)))

-- what the cells of two images refuse
abbrev pub cell_refusal : ImageRecord → ImageRecord → Option CompareFault
cell_refusal x y = differing_cell (first_differing x y)

-- why two images have no common one, the first that applies
abbrev pub refusal_of : ImageRecord → ImageRecord → Option CompareFault
refusal_of x y = or_else (header_refusal x y) (cell_refusal x y)

-- a fault is that refusal, or want of memory
abbrev pub IsRefusal : Option CompareFault → CompareFault → Type 0
IsRefusal refusal fault = (fault ≡ NoMemory) ⊎ (refusal ≡ Some fault)
