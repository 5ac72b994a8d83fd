use Rattle.unit_builder.proofs.SlotFacts.{code_kept, no_code_clauses}
use Rattle.unit_builder.proofs.slots.Slot.clauses.Goals as goal

pub returns-in-Unread : goal.returns-in-Unread
returns-in-Unread c scope method told = no_code_clauses scope method c.args.self.now c.in-Unread.is told

pub returns-in-Whole : goal.returns-in-Whole
returns-in-Whole c scope method told =
    let kept = code_kept scope method c.args.self.now c.in-Whole.code c.in-Whole.is told in c.clauses.ensures.known scope.meaning scope.asm method kept.0 kept.1
