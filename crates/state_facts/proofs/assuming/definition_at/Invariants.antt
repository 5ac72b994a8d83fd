use Rattle.std.proofs.Common.{◌≡◌, drop}
use Rattle.state_facts.specs.Assuming as rule
use Rattle.state_facts.proofs.assuming.definition_at.Given as goal

abbrev pub invariant-loop-definition : goal.invariant-loop-definition
invariant-loop-definition l = rule.definition_at (drop l.definition-index l.definitions) l.symbol ≡ rule.definition_at l.definitions l.symbol
