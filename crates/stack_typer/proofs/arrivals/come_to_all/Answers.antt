use Rattle.std.proofs.Common.{◌∙◌, arith}
use Rattle.stack_typer.proofs.ArrivalLemmas.{one_more_comes}
use Rattle.stack_typer.proofs.RoomLemmas.{tells_both}
use Rattle.stack_typer.proofs.arrivals.come_to_all.Goals as goal

pub loop-at-preserved : goal.loop-at-preserved
loop-at-preserved c = record {
  same_length = omega arith;
  rest = one_more_comes _ _ _ _ _ _ _ c.loop-at-test.true c.in_ok-changed.ensures.stacks ∙ c.loop-at.invariant.rest;
  told = λ most small. tells_both most _ _ _ _ _ (c.loop-at.invariant.told most small) (c.in_ok-changed.ensures.told most small);
}
