use Rattle.std.proofs.Common.{◌≡◌, ℕ, List}
use Rattle.asm_image.specs.Find.{NamesFirst}
use Rattle.asm_image.specs.Rows.{rows_of}
use Rattle.asm_image.proofs.name_table.NameTable.of.Given as goal

abbrev pub invariant-loop-method : goal.invariant-loop-method
invariant-loop-method l = (md : List ℕ) → l.methods ≡ rows_of md → NamesFirst l.last l.earlier.items md l.method-index
