use Rattle.std.proofs.Common.{◌≡◌, ◌-◌, ◌≤◌, length}
use Rattle.unit_form.specs.Fields.{variable_field}
use Rattle.unit_form.proofs.Counted.{AreRead}
use Rattle.unit_form.proofs.places.read_each.Given as goal

abbrev pub invariant-loop-variable : goal.invariant-loop-variable
invariant-loop-variable l =
    AreRead (λ read. variable_field l.bytes) l.count l.start l.places.items (l.count - l._variable) l.at × (l.at ≤ length l.bytes) × (length l.places.items ≡ l._variable)
