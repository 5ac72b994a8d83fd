use Rattle.std.proofs.Common.{◌≡◌, ◌+◌, ◌≤◌, take, drop}
use Rattle.std.specs.Prelude.{sum}
use Rattle.cc_base.specs.Tests.{first_of}
use Rattle.metadata_tables.specs.declared.fault.TableFault.TheVariants.{Short}
use Rattle.metadata_tables.specs.Tests.{fields}
use Rattle.metadata_tables.proofs.fields.after_fields.Given as goal

abbrev pub invariant-loop-width : goal.invariant-loop-width
invariant-loop-width l =
    (l.at ≡ l.start + sum (take l.width-index l.widths)) × (l.at ≤ l.end)
    × (first_of (fields l.end (λ at. Short at) l.at (drop l.width-index l.widths)) ≡ first_of (fields l.end (λ at. Short at) l.start l.widths))
