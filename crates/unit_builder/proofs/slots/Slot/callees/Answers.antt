use Rattle.std.proofs.Common.{subst, ◌∙◌}
use Rattle.unit_builder.specs.Slots.{TellsClauses}
use Rattle.unit_builder.proofs.CallFacts.{whole_callees}
use Rattle.unit_builder.proofs.slots.Slot.callees.Goals as goal

pub returns-in-Whole : goal.returns-in-Whole
returns-in-Whole c = λ scope method told none. c.as_slice.ensures ∙ whole_callees scope method c.in-Whole.code (subst (TellsClauses scope method) c.in-Whole.is told)
