use Rattle.std.proofs.Common.{rules, ◌∙◌}
use Rattle.unit_builder.proofs.Outcomes.{file_entries}
use Rattle.unit_builder.specs.Sources.{scope_at}
use Rattle.unit_builder.proofs.linked.file_entries.Goals as goal

pub returns-clause-entries : goal.returns-clause-entries
returns-clause-entries c =
    c.from_vec.ensures
    ∙ file_entries (scope_at c.args.sources.now c.args.file) c.methods_in-methods.result.now c.loop-index.index c.loop-index.entries.items (search rules) c.loop-index.invariant.entries_are (search rules)
