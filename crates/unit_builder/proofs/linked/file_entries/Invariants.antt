use Rattle.std.proofs.Common.{◌≡◌, map, take}
use Rattle.std.specs.List.{AllByRecursion}
use Rattle.asm_image.specs.Rows.{methods_of}
use Rattle.method_unit.specs.Units.{IsUnit}
use Rattle.unit_builder.specs.Outcomes.{IfAnalysed, entry_in}
use Rattle.unit_builder.specs.Slots.{AreAllSlots}
use Rattle.unit_builder.specs.Sources.{files_of, scope_at}
use Rattle.unit_builder.proofs.linked.file_entries.Given as goal

abbrev pub invariant-loop-index : goal.invariant-loop-index
invariant-loop-index l = record {
  slots : AreAllSlots (files_of l.sources) l.slots;
  entries_are : l.entries.items ≡ map (entry_in (scope_at l.sources l.file)) (take l.index (methods_of (scope_at l.sources l.file).asm));
  each : AllByRecursion (λ entry. IfAnalysed entry.outcome IsUnit) l.entries.items;
}
