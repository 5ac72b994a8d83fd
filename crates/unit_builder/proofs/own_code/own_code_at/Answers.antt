use Rattle.unit_builder.specs.Sources.{scope_at}
use Rattle.unit_builder.proofs.SlotLists.{slot_set}
use Rattle.unit_builder.proofs.own_code.own_code_at.Goals as goal

pub returns-clause-slots : goal.returns-clause-slots
returns-clause-slots c =
    slot_set (scope_at c.args.sources.now c.args.file) c.args.slots.now c.args.index c.args.method.now c.own_code.new.slot c.requires.slots c.requires.there c.own_code.ensures.slot
