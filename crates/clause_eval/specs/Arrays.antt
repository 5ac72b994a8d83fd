-- Arrays as they are looked at.
use Rattle.cil_model.specs.declared.machine.ArrayCell.{ArrayCell}
use Rattle.clause_eval.specs.declared.memory.ArrayRef.{ArrayRef}

abbrev pub cell_of : ArrayRef → ArrayCell
cell_of a = record { place = a.place; items = a.items.now }
