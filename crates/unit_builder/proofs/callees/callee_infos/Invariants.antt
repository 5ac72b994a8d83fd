use Rattle.std.proofs.Common.{◌≡◌, map, take}
use Rattle.std.specs.List.{AllByRecursion}
use Rattle.cil_model.specs.WellFormed.{IsCallee}
use Rattle.unit_builder.specs.Scopes.{info_in}
use Rattle.unit_builder.specs.Slots.{AreAllSlots}
use Rattle.unit_builder.specs.Sources.{files_of}
use Rattle.unit_builder.proofs.callees.callee_infos.Given as goal

abbrev pub invariant-loop-key : goal.invariant-loop-key
invariant-loop-key l = record {
  slots : AreAllSlots (files_of l.sources) l.slots;
  infos_are : l.infos.items ≡ map (info_in (files_of l.sources)) (take l.key-index l.keys);
  each : AllByRecursion IsCallee l.infos.items;
}
