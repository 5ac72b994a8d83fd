use Rattle.std.proofs.Common.{rules}
use Rattle.std.specs.List.{AllByRecursion}
use Rattle.method_unit.specs.Units.{IsUnit}
use Rattle.unit_builder.specs.Outcomes.{IfAnalysed}
use Rattle.unit_builder.proofs.Outcomes.{each_pushed, linked_more, linked_whole}
use Rattle.unit_builder.proofs.linked.all_entries.Goals as goal

pub loop-index-preserved : goal.loop-index-preserved
loop-index-preserved c = record {
  slots = c.in_ok-file_entries.ensures.slots;
  entries_are = linked_more c.args.links.now c.loop-index.index c.in-Ok.file c.in_ok-file_entries.field-0 c.loop-index.files.items c.push.new.self.items
      c.loop-index.invariant.entries_are (search rules) c.in_ok-file_entries.ensures.entries c.in_ok-push.ensures.items;
  each = each_pushed (AllByRecursion (λ entry. IfAnalysed entry.outcome IsUnit)) c.loop-index.files.items c.push.new.self.items c.in_ok-file_entries.field-0
      c.loop-index.invariant.each c.in_ok-file_entries.ensures.units c.in_ok-push.ensures.items;
}

pub returns-clause-entries : goal.returns-clause-entries
returns-clause-entries c = linked_whole c.args.links.now c.loop-index.index c.loop-index.files.items c.loop-index.invariant.entries_are (search rules)
