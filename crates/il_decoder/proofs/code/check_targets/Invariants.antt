use Rattle.std.proofs.Common.{◌≡◌, map, drop}
use Rattle.cc_base.specs.Tests.{first_of}
use Rattle.il_decoder.specs.Decoding.{target_test, target_tests}
use Rattle.il_decoder.proofs.code.check_targets.Given as goal

abbrev pub invariant-loop-i : goal.invariant-loop-i
invariant-loop-i l = first_of (map (target_test l.instrs) (drop l.i-index l.instrs)) ≡ first_of (target_tests l.instrs)
