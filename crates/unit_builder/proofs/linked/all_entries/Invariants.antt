use Rattle.std.proofs.Common.{◌≡◌, map}
use Rattle.std.specs.List.{AllByRecursion, range_with_len}
use Rattle.method_unit.specs.Units.{IsUnit}
use Rattle.unit_builder.specs.Linked.{linked}
use Rattle.unit_builder.specs.Outcomes.{IfAnalysed, entries_in}
use Rattle.unit_builder.specs.Slots.{AreAllSlots}
use Rattle.unit_builder.proofs.linked.all_entries.Given as goal

abbrev pub invariant-loop-index : goal.invariant-loop-index
invariant-loop-index l = record {
  slots : AreAllSlots (linked l.links) l.slots;
  entries_are : l.files.items ≡ map (entries_in (linked l.links)) (range_with_len 0 l.index);
  each : AllByRecursion (AllByRecursion (λ entry. IfAnalysed entry.outcome IsUnit)) l.files.items;
}
