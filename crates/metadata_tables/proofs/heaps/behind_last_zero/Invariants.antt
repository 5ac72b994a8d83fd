use Rattle.std.proofs.Common.{◌≡◌, ◌≤◌, ℕ, length, drop, None}
use Rattle.metadata_tables.specs.Root.{zero_ended}
use Rattle.metadata_tables.proofs.heaps.behind_last_zero.Given as goal

abbrev pub invariant-loop-end : goal.invariant-loop-end
invariant-loop-end l =
    record {
      within : l.end ≤ length l.bytes;
      none : (i : ℕ) → l.end ≤ i → zero_ended (drop i l.bytes) ≡ None;
    }

abbrev pub decreases-loop-end : goal.decreases-loop-end
decreases-loop-end l = l.end
