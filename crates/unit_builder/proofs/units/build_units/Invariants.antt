use Rattle.std.proofs.Common.{◌≡◌, map, take}
use Rattle.std.specs.List.{AllByRecursion}
use Rattle.asm_image.specs.Rows.{methods_of}
use Rattle.method_unit.specs.Units.{IsUnit}
use Rattle.unit_builder.specs.Outcomes.{IfAnalysed, entry_of}
use Rattle.unit_builder.proofs.units.build_units.Given as goal

abbrev pub invariant-loop-index : goal.invariant-loop-index
invariant-loop-index l = record {
  same : l.units ≡ l.assembly;
  entries_are : l.entries.items ≡ map (entry_of l.assembly) (take l.index (methods_of l.assembly));
  each : AllByRecursion (λ entry. IfAnalysed entry.outcome IsUnit) l.entries.items;
}
