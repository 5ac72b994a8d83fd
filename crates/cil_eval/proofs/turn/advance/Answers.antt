use Rattle.cil_eval.proofs.Spaces.{space}
use Rattle.cil_eval.proofs.turn.advance.Goals as goal

pub returns-then-not-have_space-clause-advances : goal.returns-then-not-have_space-clause-advances
returns-then-not-have_space-clause-advances c =
    λ s h fits.
    absurd (let test = c.if-not-have_space.ensures.1 (space c.args.world.now c.args.limits c.args.frames.now c.args.memory.now.heap s h c.requires.memory.room fits) in cc)
