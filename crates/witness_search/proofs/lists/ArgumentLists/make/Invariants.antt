use Rattle.std.proofs.Common.{◌≡◌, [], map, take}
use Rattle.witness_search.specs.Choices.{values_after}
use Rattle.witness_search.specs.ListsLeft.{AreChosen, begun}
use Rattle.witness_search.proofs.lists.ArgumentLists.make.Given as goal

abbrev pub invariant-loop-k : goal.invariant-loop-k
invariant-loop-k l = (l.choices.items ≡ map begun (values_after [] (take l.k l.types))) × AreChosen l.choices.items l.args.items
