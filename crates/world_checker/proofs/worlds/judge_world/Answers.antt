use Rattle.world_checker.proofs.SafeUnits.{proved_makes_safe, world_told}
use Rattle.world_checker.proofs.worlds.judge_world.Goals as goal

pub returns-clause-each : goal.returns-clause-each
returns-clause-each c =
    rw c.in_ok-found.ensures (world_told c.args.codes.now c.args.invariants.now c.requires.lawful c.requires.count)

pub returns-clause-sound : goal.returns-clause-sound
returns-clause-sound c =
    rw c.in_ok-found.ensures
    (proved_makes_safe c.args.codes.now c.args.invariants.now c.requires.lawful c.requires.count)
