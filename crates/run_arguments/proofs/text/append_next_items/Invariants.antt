use Rattle.std.proofs.Common.{◌≡◌, ◌++◌, map, take}
use Rattle.std.specs.List.{flat_map}
use Rattle.run_arguments.specs.Texts.{next_item}
use Rattle.run_arguments.proofs.text.append_next_items.Given as goal

abbrev pub invariant-loop-item : goal.invariant-loop-item
invariant-loop-item g l = l.line.items ≡ l.initial.line.items ++ flat_map (next_item l.place) (map g.T.Item.number (take l.item-index l.items))
