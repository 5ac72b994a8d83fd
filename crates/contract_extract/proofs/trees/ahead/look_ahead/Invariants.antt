-- What is known of each is right, and of the first ones it is what each tells by itself.
use Rattle.std.proofs.Common.{◌≤◌, length}
use Rattle.contract_extract.specs.Dropping.{AreAhead, AreFirstOwn}
use Rattle.contract_extract.proofs.trees.ahead.look_ahead.Given as goal

abbrev pub invariant-loop-index : goal.invariant-loop-index
invariant-loop-index l = record {
  known : AreAhead l.instrs l.ahead.items;
  own : AreFirstOwn l.instrs l.ahead.items l.index;
  within : l.index ≤ length l.instrs;
}

abbrev pub decreases-loop-index : goal.decreases-loop-index
decreases-loop-index l = l.index
