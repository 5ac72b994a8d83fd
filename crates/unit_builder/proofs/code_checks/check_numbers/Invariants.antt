use Rattle.std.proofs.Common.{◌≡◌, drop}
use Rattle.cc_base.specs.Tests.{first_of}
use Rattle.unit_builder.specs.Reasons.{token_tests}
use Rattle.unit_builder.proofs.code_checks.check_numbers.Given as goal

abbrev pub invariant-loop-instr : goal.invariant-loop-instr
invariant-loop-instr l = first_of (token_tests l.callees (drop l.instr-index l.instrs)) ≡ first_of (token_tests l.callees l.instrs)
