-- The tree from here on is that from the start on.
use Rattle.std.proofs.Common.{◌≤◌, ◌-◌, ◌^◌, List}
use Rattle.cil_model.specs.ClauseTrees.{Item}
use Rattle.contract_extract.specs.Dropping.{dropped_at, without}
use Rattle.contract_extract.specs.Growth.{forward}
use Rattle.contract_extract.specs.TreeStacks.{IsFrom, StandsFor}
use Rattle.contract_extract.proofs.trees.stretch.run.Given as goal

abbrev pub invariant-loop-working : goal.invariant-loop-working
invariant-loop-working l = record {
  tree : (items : List Item) → StandsFor l.fn.stack.items (without (dropped_at l.instrs l.ahead l.fn.start) items)
      → IsFrom (forward l.instrs l.fn.start items) (forward l.instrs l.at) (dropped_at l.instrs l.ahead l.at) l.stack.items;
  later : l.fn.start ≤ l.at;
}

-- Offsets rise below 2 ^ 32.
abbrev pub decreases-loop-working : goal.decreases-loop-working
decreases-loop-working l = 2 ^ 32 - l.at
