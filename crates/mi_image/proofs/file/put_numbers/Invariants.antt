use Rattle.std.proofs.Common.{◌≡◌, ◌++◌, drop}
use Rattle.mi_model.specs.Image.{cells_bytes}
use Rattle.mi_image.proofs.file.put_numbers.Given as goal

abbrev pub invariant-loop-number : goal.invariant-loop-number
invariant-loop-number l = l.bytes.items ++ cells_bytes (drop l.number-index l.numbers) ≡ l.fn.bytes.items ++ cells_bytes l.numbers
