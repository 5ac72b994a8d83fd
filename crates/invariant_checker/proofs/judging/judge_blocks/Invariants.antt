use Rattle.std.proofs.Common.{◌≡◌}
use Rattle.std.specs.List.{flat_map, range_with_len}
use Rattle.transfer_rules.proofs.Inducing.{AreBeforeUpTo}
use Rattle.invariant_checker.specs.Verdicts.{verdicts_in}
use Rattle.invariant_checker.proofs.judging.judge_blocks.Given as goal

abbrev pub invariant-loop-block : goal.invariant-loop-block
invariant-loop-block l = record {
  found : l.found.items ≡ flat_map (verdicts_in l.code l.states) (range_with_len 0 l.block);
  befores : AreBeforeUpTo l.code l.states l.block l.befores.items;
}
