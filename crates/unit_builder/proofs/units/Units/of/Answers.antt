use Rattle.std.proofs.Common.{rules}
use Rattle.unit_builder.proofs.SlotFacts.{one_file}
use Rattle.unit_builder.proofs.units.Units.of.Goals as goal

pub invariant_of-result : goal.invariant_of-result
invariant_of-result c = one_file c.args.assembly.now c.in_ok-fresh_slots.field-0 c.push.new.self.items (search rules) (search rules)
