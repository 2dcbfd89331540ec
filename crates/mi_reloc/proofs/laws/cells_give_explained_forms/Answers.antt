use Rattle.mi_reloc.proofs.Explained.{no_cell}
use Rattle.mi_reloc.proofs.laws.cells_give_explained_forms.Goals as goal

pub returns : goal.returns
returns c = no_cell
