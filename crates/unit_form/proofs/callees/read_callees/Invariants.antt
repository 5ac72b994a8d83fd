use Rattle.std.proofs.Common.{◌≡◌, ◌-◌, ◌≤◌, ◌++◌, length}
use Rattle.unit_form.specs.Callees.{callee_offsets, next_callee}
use Rattle.unit_form.proofs.Counted.{AreRead}
use Rattle.unit_form.proofs.callees.read_callees.Given as goal

abbrev pub invariant-loop-callee : goal.invariant-loop-callee
invariant-loop-callee l =
    AreRead (next_callee l.form l.bytes) l.count l.start l.callees.items (l.count - l._callee) l.at × (l.at ≤ length l.bytes)
    × (callee_offsets l.form l.count l.bytes l.start ≡ l.offsets.items ++ callee_offsets l.form (l.count - l._callee) l.bytes l.at)
