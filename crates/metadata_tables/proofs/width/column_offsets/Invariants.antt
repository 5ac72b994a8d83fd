use Rattle.std.proofs.Common.{◌≡◌, ◌*◌, ◌≤◌, ◌<◌, ℕ, length, take, get_or}
use Rattle.metadata_tables.specs.Schema.{total_width}
use Rattle.metadata_tables.proofs.width.column_offsets.Given as goal

abbrev pub invariant-loop-i : goal.invariant-loop-i
invariant-loop-i l =
    record {
      end : l.end ≡ total_width l.counts l.heap_sizes (take l.i l.columns);
      small : l.end ≤ 4 * l.i;
      long : length l.offsets ≡ 10;
      filled : (k : ℕ) → k < l.i → get_or l.offsets k 0 ≡ total_width l.counts l.heap_sizes (take k l.columns);
    }
