use Rattle.std.proofs.Common.{◌≡◌, take}
use Rattle.widening_engine.specs.Kept.{states_of}
use Rattle.widening_engine.proofs.kept.Kept.copies.Given as goal

abbrev pub invariant-loop-block : goal.invariant-loop-block
invariant-loop-block g l = l.states.items ≡ states_of (take l.block-index l.fn.self.blocks.items)
