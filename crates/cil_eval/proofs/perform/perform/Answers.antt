use Rattle.cil_model.specs.UnitCalls.{unit_call}
use Rattle.cil_eval.specs.Actions.{Does}
use Rattle.cil_eval.specs.StackRows.{contract_row}
use Rattle.cil_eval.specs.Actions.{with_parts}
use Rattle.cil_eval.proofs.perform.perform.Goals as goal

pub returns-in-Call-clause-performs : goal.returns-in-Call-clause-performs
returns-in-Call-clause-performs c =
    let old = c.args.frames.now in
    let does : Does (contract_row (unit_call c.in-Call.number)) c.contract_call.result old.stack.top c.contract_call.new.stack.top =
    rw (← c.unit_call.ensures) c.contract_call.ensures.does in
    λ few s i. rw c.in-Call.is (does c.args.memory.now.limit c.args.memory.now.heap (with_parts old.stack.top old.args.top old.locals.top s) i)
