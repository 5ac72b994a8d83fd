use Rattle.std.proofs.Common.{◌≡◌, drop}
use Rattle.cc_base.specs.Tests.{first_of}
use Rattle.method_unit.specs.UnitFile.{number_tests}
use Rattle.method_unit.proofs.unit_code.check_numbers.Given as goal

abbrev pub invariant-loop-instr : goal.invariant-loop-instr
invariant-loop-instr l = first_of (number_tests l.base l.callees (drop l.instr-index l.instrs)) ≡ first_of (number_tests l.base l.callees l.instrs)
