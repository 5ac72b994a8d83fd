use Rattle.std.proofs.Common.{◌≡◌, ◌+◌}
use Rattle.cc_base.specs.Tests.{first_of}
use Rattle.cc_base.proofs.TestLemmas.{from_on}
use Rattle.asm_image.specs.Cells.{method_count}
use Rattle.asm_image.specs.Faults.{method_tests, methods_tests}
use Rattle.asm_image.proofs.methods.test_methods.Given as goal

abbrev pub invariant-loop-i : goal.invariant-loop-i
invariant-loop-i l =
    from_on (method_tests l.metadata.bytes l.metadata.offset) (l.i + 1) (method_count l.metadata.bytes + 1) ≡ first_of (methods_tests l.metadata.bytes l.metadata.offset)
