use Rattle.std.proofs.Common.{take}
use Rattle.clause_faults.specs.GatheredStacks.{StandForSame}
use Rattle.clause_faults.proofs.ways.gather.gathered.Given as goal

abbrev pub invariant-loop-arrival : goal.invariant-loop-arrival
invariant-loop-arrival l = StandForSame (take l.arrival-index l.arrivals) l.gathered
