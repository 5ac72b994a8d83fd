use Rattle.std.proofs.Common.{◌≡◌, ℕ, subst, arith}
use Rattle.asm_image.proofs.RunLemmas.{BeginLater, owner_halved}
use Rattle.asm_image.proofs.types.found_owner.Goals as goal

pub returns-clause-owner : goal.returns-clause-owner
returns-clause-owner c =
    let l = c.loop-owner in
    let same : l.last ≡ l.owner = omega arith in
    owner_halved c.args.metadata.now.bytes c.args.row l.owner l.invariant.begins (omega arith)
    (subst (λ (k : ℕ). BeginLater c.args.metadata.now.bytes k c.args.row) same l.invariant.later)
