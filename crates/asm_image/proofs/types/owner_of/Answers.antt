use Rattle.std.proofs.Common.{arith}
use Rattle.asm_image.proofs.RunLemmas.{owner_stop, owner_done}
use Rattle.asm_image.proofs.types.owner_of.Goals as goal

pub returns-then-cell-row-clause-owner : goal.returns-then-cell-row-clause-owner
returns-then-cell-row-clause-owner c =
    owner_stop c.args.metadata.now.bytes c.args.row c.loop-owner.owner c.requires.rise c.loop-owner.invariant.begins (omega arith) (omega arith)

pub returns-clause-owner : goal.returns-clause-owner
returns-clause-owner c = owner_done c.args.metadata.now.bytes c.args.row c.loop-owner.owner c.loop-owner.invariant.begins (omega arith)
