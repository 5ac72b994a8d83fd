use Rattle.std.proofs.Common.{◌≡◌}
use Rattle.std.specs.Prelude.{replicate}
use Rattle.unit_builder.specs.declared.slots.Slot.TheVariants.{Unread}
use Rattle.unit_builder.proofs.units.fresh_slots.Given as goal

abbrev pub invariant-loop-method : goal.invariant-loop-method
invariant-loop-method l = l.slots.items ≡ replicate l._method-index Unread
