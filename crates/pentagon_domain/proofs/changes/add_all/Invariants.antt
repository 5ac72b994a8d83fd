use Rattle.std.proofs.Common.{◌≡◌, ◌+◌, ◌-◌, ◌≤◌, length, drop}
use Rattle.std.specs.Vec.{vec_len, vec_capacity}
use Rattle.pentagon_domain.specs.Rows.{AreBounds, with_bounds}
use Rattle.pentagon_domain.specs.Targets.{AreTargets}
use Rattle.pentagon_domain.proofs.changes.add_all.Given as goal

-- What was added so far, with the rest of the bounds, is the whole, and there is room for the rest.
abbrev pub invariant-loop-bound : goal.invariant-loop-bound
invariant-loop-bound l = record {
  form : AreBounds l.rows.items;
  targets : AreTargets l.targets.items l.rows.items;
  so_far : with_bounds l.rows.items (drop l.bound-index l.bounds) ≡ with_bounds l.fn.rows.items l.bounds;
  rows_room : vec_len l.rows + (length l.bounds - l.bound-index) ≤ vec_capacity l.rows;
  targets_room : vec_len l.targets + (length l.bounds - l.bound-index) ≤ vec_capacity l.targets;
}
