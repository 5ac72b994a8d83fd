use Rattle.std.proofs.Common.{◌≡◌, None}
use Rattle.cc_base.specs.Tests.{first_of}
use Rattle.pe_reader.specs.Faults.{sections_tests}
use Rattle.pe_reader.proofs.sections.Sections.test.Given as goal

abbrev pub invariant-loop-index : goal.invariant-loop-index
invariant-loop-index l = first_of (sections_tests l.bytes l.index) ≡ None
