use Rattle.std.proofs.Common.{◌≡◌, map, take}
use Rattle.widening_engine.specs.Marks.{is_gone_back_to}
use Rattle.widening_engine.specs.Rounds.{places}
use Rattle.widening_engine.proofs.heads.heads.Given as goal

abbrev pub invariant-loop-edge : goal.invariant-loop-edge
invariant-loop-edge l = l.heads.items ≡ map (is_gone_back_to (take l.edge-index l.edges)) (places l.count)
