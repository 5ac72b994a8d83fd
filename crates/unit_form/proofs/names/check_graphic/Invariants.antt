use Rattle.std.proofs.Common.{◌≡◌, ◌+◌, drop}
use Rattle.cc_base.specs.Tests.{first_of}
use Rattle.unit_form.specs.Fields.{graphic_tests}
use Rattle.unit_form.proofs.names.check_graphic.Given as goal

abbrev pub invariant-loop-i : goal.invariant-loop-i
invariant-loop-i l = first_of (graphic_tests (l.at + l.i) (drop l.i l.text)) ≡ first_of (graphic_tests l.at l.text)
