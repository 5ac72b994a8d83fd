use Rattle.std.proofs.Common.{◌-◌, rules}
use Rattle.contract_extract.proofs.TreeLemmas.Cutting.{cut_already, cut_short, cut_together}
use Rattle.contract_extract.proofs.trees.dropped.drop_values.Goals as goal
use Rattle.contract_extract.proofs.trees.dropped.drop_values.Goals.{then-dropped-already-via-then-dropped-already, then-dropped-already-via-else-dropped-already+then-len-dropped}

pub returns-then-dropped-already : goal.returns-then-dropped-already
returns-then-dropped-already c = elim c.then-dropped-already.branch [
  | then-dropped-already-via-then-dropped-already w ↦ cut_already c.args.dropped.above c.args.dropped.count c.args.already c.args.stack.now.items w.if-dropped-already.true
  | then-dropped-already-via-else-dropped-already+then-len-dropped w ↦ cut_short c.args.dropped.above (c.args.dropped.count - c.args.already) c.args.stack.now.items (search rules)
]

pub returns : goal.returns
returns c =
    cut_together c.append.result c.args.dropped.above (c.args.dropped.count - c.args.already) c.min-count.result c.args.stack.now.items
    c.split_off.new.self.items c.in_ok-lower.lower.items c.in_ok-rest.rest.items c.append.new.self.items
    c.in_ok-lower.ensures.items c.in_ok-lower.ensures.tail (search rules) c.in_ok-rest.ensures.tail c.append.ensures.items
