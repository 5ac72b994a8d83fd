use Rattle.std.proofs.Common.{ℕ, rules, ap, ◌∙◌}
use Rattle.std.specs.Prelude.{replicate}
use Rattle.unit_builder.specs.declared.slots.Slot.TheVariants.{Unread}
use Rattle.unit_builder.proofs.units.fresh_slots.Goals as goal

pub returns : goal.returns
returns c = c.loop-method.invariant ∙ ap (λ (n : ℕ). replicate n Unread) (search rules)
