-- Where clauses find arrays.
use Rattle.cil_model.specs.Values.{Heap}
use Rattle.clause_eval.specs.GivenArrays.{AreShort, heap_of}
use Rattle.clause_eval.specs.declared.arrays.Arrays.{Arrays}
use Rattle.clause_eval.specs.declared.arrays.Arrays.TheVariants.{Made, Given}

abbrev pub heap_in : Arrays → Heap
heap_in (Made memory) = memory.now.heap
heap_in (Given args) = heap_of args.now

-- No array is longer than arrays may be. Memory has none that is.
abbrev pub HasShort : Arrays → Type 0
HasShort (Made memory) = Unit {0}
HasShort (Given args) = AreShort args.now
