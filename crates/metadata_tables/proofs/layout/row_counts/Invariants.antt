use Rattle.std.proofs.Common.{◌≡◌, ◌+◌, ◌*◌, ◌<◌, ◌≤◌, ℕ, length, get_or}
use Rattle.metadata_tables.specs.Layout.{present_below, stored_count}
use Rattle.metadata_tables.proofs.layout.row_counts.Given as goal

abbrev pub invariant-loop-table : goal.invariant-loop-table
invariant-loop-table l =
    record {
      place : l.at ≡ l.start + 4 * present_below l.bits l.table;
      long : length l.counts ≡ 45;
      filled : (k : ℕ) → k < l.table → get_or l.counts k 0 ≡ stored_count l.md k;
      rest : (k : ℕ) → l.table ≤ k → get_or l.counts k 0 ≡ 0;
    }
