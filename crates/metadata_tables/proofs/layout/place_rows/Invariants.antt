use Rattle.std.proofs.Common.{◌≡◌, ◌+◌, ◌<◌, ◌≤◌, ℕ, [], length, get_or}
use Rattle.cc_base.specs.Tests.{first_of}
use Rattle.cc_base.proofs.TestLemmas.{from_on}
use Rattle.metadata_tables.specs.Layout.{column_offsets, bytes_below}
use Rattle.metadata_tables.specs.Schema.{columns_of}
use Rattle.metadata_tables.specs.TableTests.{rows_tests, all_rows_tests}
use Rattle.metadata_tables.proofs.layout.place_rows.Given as goal

abbrev pub invariant-loop-table : goal.invariant-loop-table
invariant-loop-table l =
    record {
      place : l.at ≡ l.start + bytes_below l.counts l.heap_sizes l.table;
      within : l.at ≤ l.end;
      long_bases : length l.bases ≡ 45;
      long_offsets : length l.offsets ≡ 45;
      filled_bases : (k : ℕ) → k < l.table → get_or l.bases k 0 ≡ l.start + bytes_below l.counts l.heap_sizes k;
      filled_offsets : (k : ℕ) → k < l.table → get_or l.offsets k [] ≡ column_offsets l.counts l.heap_sizes (columns_of k);
      tests : from_on (rows_tests l.end l.counts l.heap_sizes l.start) l.table 45 ≡ first_of (all_rows_tests l.end l.counts l.heap_sizes l.start);
    }
