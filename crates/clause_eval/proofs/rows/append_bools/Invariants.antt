use Rattle.std.proofs.Common.{◌≡◌, ◌++◌, ◌≤◌, map, take, vec_capacity}
use Rattle.clause_eval.specs.GivenArrays.{byte_of}
use Rattle.clause_eval.proofs.rows.append_bools.Given as goal

abbrev pub invariant-loop-item : goal.invariant-loop-item
invariant-loop-item l = record {
  appended : l.row.items ≡ l.fn.row.items ++ map byte_of (take l.item-index l.items);
  capacity : vec_capacity l.fn.row ≤ vec_capacity l.row;
}
