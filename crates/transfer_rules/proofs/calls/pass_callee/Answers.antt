use Rattle.std.proofs.Common.{sym, slice_get, ◌∙◌}
use Rattle.transfer_rules.proofs.Calling.{none_called, where_called}
use Rattle.transfer_rules.proofs.calls.pass_callee.Goals as goal

pub returns-in-Some : goal.returns-in-Some
returns-in-Some c =
    where_called c.call_back.result (slice_get c.args.unit.now.callees c.args.number) c.in-Some.callee.now
    c.args.state.now c.call_back.new.state (sym c.in-Some.ensures) c.call_back.ensures

pub returns-in-None : goal.returns-in-None
returns-in-None c =
    c.refuse.ensures ∙ none_called (slice_get c.args.unit.now.callees c.args.number) c.args.state.now
    (sym c.in-None.ensures)
