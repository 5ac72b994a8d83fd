use Rattle.world_checker.proofs.SafeUnits.{IsUnderWay}
use Rattle.world_checker.proofs.worlds.judge_each.Given as goal

abbrev pub invariant-loop-unit : goal.invariant-loop-unit
invariant-loop-unit l = IsUnderWay l.codes l.invariants l.found.items l.unit
