use Rattle.std.proofs.Common.{◌≡◌, ◌+◌, ◌-◌, ◌++◌, ◌≤◌, length, drop}
use Rattle.std.specs.Vec.{vec_len, vec_capacity}
use Rattle.number_facts.specs.Differences.{AreDifferences}
use Rattle.number_facts.proofs.definitions.add_all.Given as goal

-- What was added so far, with the rest of the definitions, is the whole, and there is room for the rest.
abbrev pub invariant-loop-row : goal.invariant-loop-row
invariant-loop-row l = record {
  form : AreDifferences l.differences.items l.rows.items;
  so_far : l.rows.items ++ drop l.row-index l.more ≡ l.fn.rows.items ++ l.more;
  rows_room : vec_len l.rows + (length l.more - l.row-index) ≤ vec_capacity l.rows;
  differences_room : vec_len l.differences + (length l.more - l.row-index) ≤ vec_capacity l.differences;
}
