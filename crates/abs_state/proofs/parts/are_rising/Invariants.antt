use Rattle.std.proofs.Common.{◌≡◌, drop}
use Rattle.abs_state.specs.FormTests as tests
use Rattle.abs_state.proofs.parts.are_rising.Given as goal

abbrev pub invariant-loop-definition : goal.invariant-loop-definition
invariant-loop-definition l = tests.rise_from l.least (drop l.definition-index l.definitions) ≡ tests.rise_from 1 l.definitions
