use Rattle.std.proofs.Common.{sym}
use Rattle.result_cache.proofs.FirstWalk.{other_held, unit_held}
use Rattle.result_cache.proofs.first_form.read_first_entry.Goals as goal

pub returns-in-Some : goal.returns-in-Some
returns-in-Some c before held =
    let read = c.in_ok-key.ensures in
    unit_held c.hold_unit.result c.args.bytes.now c.args.at c.in_ok-key.middle c.in_ok-key.key.now c.in-Some.second.items
    before c.args.held.now.seconds c.hold_unit.new.seconds c.args.held.now.others held read.0 read.1.0.0 read.1.0.1
    (rw c.in-Some.is at (sym c.in_ok-second.ensures.value)) c.in_ok-second.ensures.first
    (rw c.deref.ensures.value at c.hold_unit.ensures)

pub returns-in_ok-room_for_others-in-None : goal.returns-in_ok-room_for_others-in-None
returns-in_ok-room_for_others-in-None c before held =
    let read = c.in_ok-key.ensures in
    other_held c.hold_other.result c.args.bytes.now c.args.at c.in_ok-key.middle c.in_ok-key.key.now
    before c.args.held.now.seconds c.args.held.now.others c.hold_other.new.others held read.0 read.1.0.0 read.1.0.1
    (rw c.in-None.is at (sym c.in_ok-second.ensures.value))
    (rw c.in_ok-room_for_others-in-None.ensures at c.hold_other.ensures)
