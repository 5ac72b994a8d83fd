-- What is true of the values of each point of a run, whatever the unit is.
use Rattle.std.specs.List.{AllByRecursion}
use Rattle.cil_model.specs.Values.{IsHeap, IsValue, KeepsForms}
use Rattle.machine_points.specs.declared.point.Point.{Point}

-- The variables and the stack have values of the heap, and the arguments at the entry values of the heap there: numbers
-- are int32, what is an array is there, and what is an address is one of an item there. Each array of the heap at the
-- entry has kept its type and its length.
pub record HasMachineValues (p : Point) : Type 0 where
  pub heap : IsHeap p.heap
  pub args : AllByRecursion (IsValue p.heap) p.frame.args
  pub locals : AllByRecursion (IsValue p.heap) p.frame.locals
  pub stack : AllByRecursion (IsValue p.heap) p.frame.stack
  pub entry_heap : IsHeap p.frame.entry_heap
  pub entry_args : AllByRecursion (IsValue p.frame.entry_heap) p.frame.entry_args
  pub kept : KeepsForms p.frame.entry_heap p.heap
