use Rattle.std.proofs.Common.{◌≡◌, ◌+◌}
use Rattle.cc_base.specs.Tests.{first_of}
use Rattle.cc_base.proofs.TestLemmas.{from_on}
use Rattle.asm_image.specs.Cells.{type_count}
use Rattle.asm_image.specs.Faults.{least_list, type_tests, types_tests}
use Rattle.asm_image.proofs.types.test_types.Given as goal

abbrev pub invariant-loop-i : goal.invariant-loop-i
invariant-loop-i l = record {
  least : l.least ≡ least_list l.metadata.bytes (l.i + 1);
  rest : from_on (type_tests l.metadata.bytes l.metadata.offset) (l.i + 1) (type_count l.metadata.bytes + 1) ≡ first_of (types_tests l.metadata.bytes l.metadata.offset);
}
