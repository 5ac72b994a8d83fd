use Rattle.std.proofs.Common.{◌≡◌, None, take}
use Rattle.check_driver.specs.LinkedReports.{first_refused}
use Rattle.check_driver.specs.Met.{bytes_read}
use Rattle.check_driver.proofs.linked_answer.read_all.Given as goal

abbrev pub invariant-loop-file : goal.invariant-loop-file
invariant-loop-file l = record {
  items : l.assemblies.items ≡ take l.file (bytes_read l.read);
  accepted : first_refused (take l.file (bytes_read l.read)) ≡ None;
}
