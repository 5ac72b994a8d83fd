use Rattle.std.proofs.Common.{◌≡◌, ◌≤◌}
use Rattle.cc_base.specs.Tests.{first_of}
use Rattle.cc_base.proofs.TestLemmas.{singles_on}
use Rattle.metadata_tables.specs.Layout.{present_below}
use Rattle.metadata_tables.specs.TableTests.{bit_test, bits_tests}
use Rattle.metadata_tables.proofs.layout.present_tables.Given as goal

abbrev pub invariant-loop-bit : goal.invariant-loop-bit
invariant-loop-bit l =
    (l.present ≡ present_below l.bits l.bit) × (l.present ≤ l.bit)
    × (singles_on (bit_test l.bits l.at) l.bit 64 ≡ first_of (bits_tests l.bits l.at))
