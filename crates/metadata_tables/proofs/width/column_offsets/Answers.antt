use Rattle.std.proofs.Common.{arith, take}
use Rattle.std.proofs.lemmas.List.FromFn.{fill_by_all}
use Rattle.metadata_tables.specs.Layout.{column_offsets}
use Rattle.metadata_tables.specs.Schema.{total_width}
use Rattle.metadata_tables.proofs.width.column_offsets.Goals as goal

pub returns-clause-offsets : goal.returns-clause-offsets
unfolding column_offsets
returns-clause-offsets c =
    fill_by_all (λ column. total_width c.args.counts.now c.args.heap_sizes (take column c.args.columns.now)) c.loop-i.offsets 10 0 c.loop-i.invariant.long
    (λ k h. c.loop-i.invariant.filled k (omega arith))
