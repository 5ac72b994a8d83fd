use Rattle.std.proofs.Common.{◌≡◌, None, drop}
use Rattle.pentagon_domain.proofs.Neighbours.{rise_behind}
use Rattle.pentagon_domain.proofs.forms.are_bounds.Given as goal

abbrev pub invariant-loop-row : goal.invariant-loop-row
invariant-loop-row l = rise_behind l.previous (drop l.row-index l.rows) ≡ rise_behind None l.rows
