use Rattle.std.proofs.Common.{subst}
use Rattle.cil_model.specs.declared.instruction.Op.{Op}
use Rattle.transfer_rules.specs.Owed.{IsReady}
use Rattle.transfer_rules.proofs.acts.act.Goals as goal

pub operate-requires : goal.operate-requires
operate-requires c = record { ready = λ known is. subst (λ (op : Op). IsReady op known) c.in-Bin.is (c.requires.ready known is) }
