use Rattle.std.proofs.Common.{◌≡◌, ◌≤◌}
use Rattle.std.specs.Str.{bytes_eq}
use Rattle.pe_reader.specs.Addresses.{metadata}
use Rattle.asm_image.specs.Cells.{method_count}
use Rattle.asm_image.specs.Find.{whole_of}
use Rattle.asm_image.specs.Names.{printed_name}
use Rattle.asm_image.proofs.FindLemmas.{found_down, HasPrefix}
use Rattle.asm_image.proofs.assembly.Assembly.find_whole.Given as goal

abbrev pub invariant-loop-row : goal.invariant-loop-row
invariant-loop-row l = record {
  within : l.row ≤ method_count (metadata l.self);
  has : 1 ≤ l.row → HasPrefix (metadata l.self) l.name l.row;
  rest : found_down (λ row. bytes_eq l.name (printed_name (metadata l.self) row)) l.found l.row ≡ whole_of l.self l.name;
}

abbrev pub decreases-loop-row : goal.decreases-loop-row
decreases-loop-row l = l.row
