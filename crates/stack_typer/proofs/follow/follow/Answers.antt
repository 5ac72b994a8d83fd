use Rattle.stack_typer.proofs.RoomLemmas.{tells_both}
use Rattle.stack_typer.proofs.follow.follow.Goals as goal

pub returns-clause-told : goal.returns-clause-told
returns-clause-told c = λ most small. tells_both most _ _ _ _ _ (c.in_ok-by_targets.ensures.told most small) (c.in_ok-by_next.ensures.told most small)
