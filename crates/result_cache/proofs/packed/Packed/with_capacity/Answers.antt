use Rattle.result_cache.proofs.PackedLaws.{no_rows}
use Rattle.result_cache.proofs.packed.Packed.with_capacity.Goals as goal

pub invariant_of-result : goal.invariant_of-result
invariant_of-result c =
    rw c.in_ok-with_capacity-2.ensures.items
    (no_rows c.in_ok-with_capacity.field-0.items c.in_ok-empty_buckets.field-0.items c.in_ok-empty_buckets.ensures.empty)
