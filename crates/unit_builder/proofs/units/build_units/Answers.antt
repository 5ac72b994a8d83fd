use Rattle.std.proofs.Common.{rules}
use Rattle.unit_builder.proofs.Outcomes.{all_entries}
use Rattle.unit_builder.proofs.units.build_units.Goals as goal

pub returns-clause-entries : goal.returns-clause-entries
returns-clause-entries c = all_entries c.args.assembly.now c.loop-index.index c.loop-index.entries.items c.loop-index.invariant.entries_are (search rules)
